-- `pieces::write::gain` meets its contract. Assumes nothing.
use native.Mathlib.Omega.{arith}
use borrow.Author.Tests.{eq-eqb, ne_eqb}
use Rattle.pieces.specs.Code.Written.{gain_of}
use Rattle.pieces.proofs.write.gain.Goals as goal

pub returns-then-e-eq-INSERTION : goal.returns-then-e-eq-INSERTION
unfolding gain_of
returns-then-e-eq-INSERTION c = (simp (eq-eqb _ _ c.if-e-eq-INSERTION.true), omega arith)

pub returns-then-e-eq-DELETION : goal.returns-then-e-eq-DELETION
unfolding gain_of
returns-then-e-eq-DELETION c = (simp (ne_eqb _ _ c.if-e-eq-INSERTION.false, eq-eqb _ _ c.if-e-eq-DELETION.true), omega arith)

pub returns : goal.returns
unfolding gain_of
returns c = (simp (ne_eqb _ _ c.if-e-eq-INSERTION.false, ne_eqb _ _ c.if-e-eq-DELETION.false), omega arith)
