-- `frame::line::has_other` meets its contract. The loop's invariant: what is left has all digits, and none was found that is none, just when the whole has. Assumes nothing.
use Rattle.std.proofs.Common.{not, arith, sym, ap, ◌∙◌}
use Rattle.frame.proofs.LineLaws.{max_cond, scan_on, scan_end}
use Rattle.frame.proofs.line.has_other.Goals as goal

pub loop-d-preserved : goal.loop-d-preserved
loop-d-preserved c =
    rw (c.max-found.ensures, max_cond) (scan_on _ _ _ _ c.loop-d-test.true (omega arith) c.other.ensures ∙ c.loop-d.invariant)

pub returns : goal.returns
returns c =
    ap not (sym (scan_end c.loop-d.found _ _ _ c.loop-d-test.false (omega arith)) ∙ c.loop-d.invariant)
