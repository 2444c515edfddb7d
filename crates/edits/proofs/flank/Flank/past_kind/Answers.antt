-- `edits::flank::Flank::past_kind` meets its contract: the tests on the way pick the case. Assumes nothing.
use borrow.Author.Tests.{eq-eqb, ne_eqb}
use Rattle.edits.specs.Code.Flank.{flank_of}
use Rattle.edits.proofs.flank.Flank.past_kind.Goals as goal

pub returns-then-kind-eq-DELETION : goal.returns-then-kind-eq-DELETION
unfolding flank_of
returns-then-kind-eq-DELETION c = rw (eq-eqb _ _ c.if-kind-eq-DELETION.true) c.past_deleted.ensures

pub returns-then-kind-eq-INSERTION : goal.returns-then-kind-eq-INSERTION
unfolding flank_of
returns-then-kind-eq-INSERTION c = simp (ne_eqb _ _ c.if-kind-eq-DELETION.false, eq-eqb _ _ c.if-kind-eq-INSERTION.true)

pub returns : goal.returns
unfolding flank_of
returns c = rw (ne_eqb _ _ c.if-kind-eq-DELETION.false, ne_eqb _ _ c.if-kind-eq-INSERTION.false) c.past_base.ensures
