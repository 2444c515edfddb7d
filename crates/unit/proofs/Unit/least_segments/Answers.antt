-- `unit::Unit::least_segments` meets its contract. Assumes nothing.
use Rattle.unit.specs.Unit.{least_segments}
use borrow.Author.Tests.{eq-eqb, ne_eqb}
use Rattle.unit.proofs.Unit.least_segments.Goals as goal

pub returns-then-class-eq-HM : goal.returns-then-class-eq-HM
unfolding least_segments
returns-then-class-eq-HM c = simp (eq-eqb _ _ c.if-class-eq-HM.true)

pub returns-else-class-eq-HM : goal.returns-else-class-eq-HM
unfolding least_segments
returns-else-class-eq-HM c = simp (ne_eqb _ _ c.if-class-eq-HM.false)
