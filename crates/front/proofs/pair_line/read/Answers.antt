-- `front::pair_line::read` meets its contract: a refused line leaves the table, `table_kept`, and an accepted one stores its symbols, `table_stored`. Assumes nothing.
use mathlib.Core.Path.{refl, sym, ◌∙◌}
use native.Mathlib.Omega.{arith}
use Rattle.std.proofs.lemmas.Result.{err_from_is_err_and}
use Rattle.refusal.specs.declared.Refusal.TheVariants.{Misframed, CountOut}
use Rattle.front.specs.PairLine.{pair_line}
use Rattle.frame.proofs.StepLaws.{steps}
use Rattle.front.proofs.PairLaws.{pair_counted, pair_shaped, table_kept, table_stored}
use Rattle.front.proofs.pair_line.read.Goals as goal

pub returns-then-table-ne-TABLE : goal.returns-then-table-ne-TABLE
unfolding pair_line
returns-then-table-ne-TABLE c = let kept = table_kept c.args.line.now c.args.number CountOut c.args.table.now refl (search steps) in record { value = kept.0; table_after = kept.1 }

pub returns-then-row-ge-SUBSEQUENCES : goal.returns-then-row-ge-SUBSEQUENCES
unfolding pair_line
returns-then-row-ge-SUBSEQUENCES c = let kept = table_kept c.args.line.now c.args.number Misframed c.args.table.now refl (search steps) in record { value = kept.0; table_after = kept.1 }

pub returns-in_err-count : goal.returns-in_err-count
returns-in_err-count c =
    let p = err_from_is_err_and c.from_residual.result c.from_residual.ensures.1 in
    let kept = table_kept _ _ _ _ refl (sym c.in_err-count.was ∙ c.read_count.ensures ∙ pair_shaped _ _ _ (omega arith) (omega arith)) in
    record { value = rw (p.1, p.2) kept.0; table_after = kept.1 }

pub lay_symbols-requires : goal.lay_symbols-requires
lay_symbols-requires c = let w = pair_counted _ _ _ (sym c.in_ok-count.was ∙ c.read_count.ensures) in record { count_in_bounds = omega (arith, w.long); count_in_bounds_2 = omega (arith, w.most) }

pub returns : goal.returns
returns c =
    let stored = table_stored _ _ _ _ (sym c.in_ok-count.was ∙ c.read_count.ensures ∙ pair_shaped _ _ _ (omega arith) (omega arith)) c.lay_symbols.ensures (omega arith) in
    record { value = stored.0; table_after = stored.1 }
