-- `edits::flank::Flank::past` meets its contract: whether a match stands before the edit picks the case. Assumes nothing.
use borrow.Author.Tests.{le-ltb, lt-ltb}
use Rattle.edits.specs.Code.Flank.{flank_past}
use Rattle.edits.proofs.flank.Flank.past.Goals as goal

pub returns-then-next-e : goal.returns-then-next-e
unfolding flank_past
returns-then-next-e c = rw (lt-ltb _ _ c.if-next-e.true, ← c.past_base.ensures) c.past_kind.ensures

pub returns : goal.returns
unfolding flank_past
returns c = rw (le-ltb _ _ c.if-next-e.false) c.past_kind-2.ensures
