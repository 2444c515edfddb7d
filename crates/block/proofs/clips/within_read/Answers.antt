-- `block::clips::within_read` meets its contract. Assumes nothing.
use Rattle.block.specs.Clips.{clips_in_read}
use borrow.Author.Tests.{le-leb, lt-leb}
use Rattle.block.proofs.clips.within_read.Goals as goal

pub returns-then-length-soft : goal.returns-then-length-soft
unfolding clips_in_read
returns-then-length-soft c = rw (← c.soft.ensures) (simp (le-leb _ _ c.if-length-soft.true))

pub returns : goal.returns
unfolding clips_in_read
returns c = rw (← c.soft.ensures) (simp (lt-leb _ _ c.if-length-soft.false))
