-- `ecigar::check::text_by` meets its contract: the test on the way picks the case. Assumes nothing.
use native.Mathlib.Omega.{arith}
use borrow.Author.Tests.{eq-eqb, ne_eqb}
use Rattle.ecigar.specs.Code.Tally.{text_by}
use Rattle.ecigar.proofs.check.text_by.Goals as goal

pub returns-then-e-eq-SUBSTITUTION : goal.returns-then-e-eq-SUBSTITUTION
unfolding text_by
returns-then-e-eq-SUBSTITUTION c = (simp (eq-eqb _ _ c.if-e-eq-SUBSTITUTION.true, c.gap_len-before.ensures.0), omega arith)

pub returns : goal.returns
unfolding text_by
returns c = (simp (ne_eqb _ _ c.if-e-eq-SUBSTITUTION.false, c.gap_len-before.ensures.0) (omega arith), omega arith)
