-- `edits::edit::check_deletion` meets its contract. Assumes nothing.
use Rattle.edits.specs.Edits.{deletion_refusal}
use borrow.Author.Tests.{eq-eqb, le-ltb, lt-ltb, ne_eqb}
use Rattle.edits.proofs.edit.check_deletion.Goals as goal

pub returns-then-symbol-ne-NONE : goal.returns-then-symbol-ne-NONE
unfolding deletion_refusal
returns-then-symbol-ne-NONE c = simp (ne_eqb _ _ c.if-symbol-ne-NONE.true)

pub returns-then-offset-next : goal.returns-then-offset-next
unfolding deletion_refusal
returns-then-offset-next c = simp (eq-eqb _ _ c.if-symbol-ne-NONE.false, lt-ltb _ _ c.if-offset-next.true)

pub returns-then-mapped-offset : goal.returns-then-mapped-offset
unfolding deletion_refusal
returns-then-mapped-offset c = simp (eq-eqb _ _ c.if-symbol-ne-NONE.false, le-ltb _ _ c.if-offset-next.false, lt-ltb _ _ c.if-mapped-offset.true)

pub returns : goal.returns
unfolding deletion_refusal
returns c = simp (eq-eqb _ _ c.if-symbol-ne-NONE.false, le-ltb _ _ c.if-offset-next.false, le-ltb _ _ c.if-mapped-offset.false)
