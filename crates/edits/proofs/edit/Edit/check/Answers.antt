-- `edits::edit::Edit::check` meets its contract: the tests on the way pick the case. Assumes nothing.
use Rattle.edits.specs.Edits.{edit_refusal}
use borrow.Author.Tests.{eq-eqb, le-leb, le-ltb, lt-leb, lt-ltb, ne_eqb}
use Rattle.edits.proofs.edit.Edit.check.Goals as goal

pub returns-then-self-gt-DELETION : goal.returns-then-self-gt-DELETION
unfolding edit_refusal
returns-then-self-gt-DELETION c = simp (lt-ltb _ _ c.if-self-gt-DELETION.true)

pub returns-then-self-eq-DELETION : goal.returns-then-self-eq-DELETION
unfolding edit_refusal
returns-then-self-eq-DELETION c = simp (le-ltb _ _ c.if-self-gt-DELETION.false, eq-eqb _ _ c.if-self-eq-DELETION.true) c.check_deletion.ensures

pub returns-then-symbols-self : goal.returns-then-symbols-self
unfolding edit_refusal
returns-then-symbols-self c = simp (le-ltb _ _ c.if-self-gt-DELETION.false, ne_eqb _ _ c.if-self-eq-DELETION.false, le-leb _ _ c.if-symbols-self.true)

pub returns-then-offset-next : goal.returns-then-offset-next
unfolding edit_refusal
returns-then-offset-next c = simp (le-ltb _ _ c.if-self-gt-DELETION.false, ne_eqb _ _ c.if-self-eq-DELETION.false, lt-leb _ _ c.if-symbols-self.false, lt-ltb _ _ c.if-offset-next.true)

pub returns-then-mapped-offset : goal.returns-then-mapped-offset
unfolding edit_refusal
returns-then-mapped-offset c =
    simp (le-ltb _ _ c.if-self-gt-DELETION.false, ne_eqb _ _ c.if-self-eq-DELETION.false, lt-leb _ _ c.if-symbols-self.false, le-ltb _ _ c.if-offset-next.false, le-leb _ _ c.if-mapped-offset.true)

pub returns : goal.returns
unfolding edit_refusal
returns c =
    simp (le-ltb _ _ c.if-self-gt-DELETION.false, ne_eqb _ _ c.if-self-eq-DELETION.false, lt-leb _ _ c.if-symbols-self.false, le-ltb _ _ c.if-offset-next.false, lt-leb _ _ c.if-mapped-offset.false)
