-- `record::record` meets its contract: what is lent, then the line's digits, then its frame. Assumes nothing.
use mathlib.Core.Path.{refl, sym, ◌∙◌}
use lib.ListN.{length}
use Rattle.record.proofs.CallLaws.{lent_refused, call_malformed, call_framed}
use Rattle.record.proofs.record.Goals as goal

pub returns-in-Err : goal.returns-in-Err
returns-in-Err c = let a = c.args in record { value = rw (lent_refused a.unit a.reference.now a.symbols.now a.counts.now a.state c.check.ensures a.line.now _ _ c.in-Err.is) (c.refused.ensures); out_after = rw (lent_refused a.unit a.reference.now a.symbols.now a.counts.now a.state c.check.ensures a.line.now _ _ c.in-Err.is) (refl) }

pub of_line-requires : goal.of_line-requires
of_line-requires c = record { state_value = sym c.check.ensures ∙ c.in_default.is; line_value = sym c.line_of.ensures ∙ c.in-Ok.is }

pub returns-in-Err-line_of : goal.returns-in-Err-line_of
returns-in-Err-line_of c =
    let a = c.args in
    let e = call_malformed a.unit a.reference.now a.symbols.now a.counts.now a.state c.check.ensures a.line.now (length a.out.now) _ c.in_default.is (sym c.line_of.ensures ∙ c.in-Err-line_of.is) in
    record { value = rw e c.refused-in-Err-line_of.ensures; out_after = rw e refl }

pub returns-in-Ok : goal.returns-in-Ok
returns-in-Ok c =
    let a = c.args in
    let e = call_framed a.unit a.reference.now a.symbols.now a.counts.now a.state c.check.ensures a.line.now (length a.out.now) c.in_default.is (sym c.line_of.ensures ∙ c.in-Ok.is) in
    record { value = rw e c.of_line.ensures.value; out_after = rw e c.of_line.ensures.out_after }
