-- `pairing::rows::mate_at` meets its contract, by the class. Assumes nothing.
use Rattle.pairing.specs.Table60.{mate_at}
use borrow.Author.Tests.{eq-eqb, ne_eqb}
use Rattle.pairing.proofs.rows.mate_at.Goals as goal

pub returns-then-class-eq-U : goal.returns-then-class-eq-U
unfolding mate_at
returns-then-class-eq-U c = simp (eq-eqb _ _ c.if-class-eq-U.true)

pub returns : goal.returns
unfolding mate_at
returns c = simp (ne_eqb _ _ c.if-class-eq-U.false)
