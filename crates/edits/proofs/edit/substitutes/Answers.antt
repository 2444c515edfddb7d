-- `edits::edit::substitutes` meets its contract: the first test picks the case. Assumes nothing.
use Rattle.edits.specs.Code.Runs.{substitutes_only}
use borrow.Author.Tests.{eq-eqb, ne_eqb}
use Rattle.edits.proofs.edit.substitutes.Goals as goal

pub returns-then-class-eq-N : goal.returns-then-class-eq-N
unfolding substitutes_only
returns-then-class-eq-N c = simp (eq-eqb _ _ c.if-class-eq-N.true)

pub returns-else-class-eq-N : goal.returns-else-class-eq-N
unfolding substitutes_only
returns-else-class-eq-N c = simp (ne_eqb _ _ c.if-class-eq-N.false)
