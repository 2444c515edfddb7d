-- `edits::edit::next_offset` meets its contract: the tests on the way pick the case. Assumes nothing.
use Rattle.edits.specs.Edits.{next_offset}
use borrow.Author.Tests.{eq-eqb, ne_eqb}
use Rattle.edits.proofs.edit.next_offset.Goals as goal

pub returns-then-e-eq-DELETION : goal.returns-then-e-eq-DELETION
unfolding next_offset
returns-then-e-eq-DELETION c = simp (eq-eqb _ _ c.if-e-eq-DELETION.true)

pub returns : goal.returns
unfolding next_offset
returns c = simp (ne_eqb _ _ c.if-e-eq-DELETION.false)
