-- `ecigar::walk::joins` meets its contract: the tests on the way pick the case. Assumes nothing.
use borrow.Author.Tests.{eq-eqb, ne_eqb}
use Rattle.ecigar.specs.Ecigar.{joins_run}
use Rattle.ecigar.proofs.walk.joins.Goals as goal

pub returns-then-e-eq-SUBSTITUTION : goal.returns-then-e-eq-SUBSTITUTION
unfolding joins_run
returns-then-e-eq-SUBSTITUTION c = simp (eq-eqb _ _ c.if-e-eq-SUBSTITUTION.true)

pub returns-then-e-w : goal.returns-then-e-w
unfolding joins_run
returns-then-e-w c = simp (ne_eqb _ _ c.if-e-eq-SUBSTITUTION.false, ne_eqb _ _ c.if-e-w.true)

pub returns-then-e-w-2 : goal.returns-then-e-w-2
unfolding joins_run
returns-then-e-w-2 c = simp (ne_eqb _ _ c.if-e-eq-SUBSTITUTION.false, eq-eqb _ _ c.if-e-w.false, ne_eqb _ _ c.if-e-w-2.true)

pub returns : goal.returns
unfolding joins_run
returns c = simp (ne_eqb _ _ c.if-e-eq-SUBSTITUTION.false, eq-eqb _ _ c.if-e-w.false, eq-eqb _ _ c.if-e-w-2.false)
