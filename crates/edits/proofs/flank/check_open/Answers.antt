-- `edits::flank::check_open` meets its contract: the test picks the case. Assumes nothing.
use borrow.Author.Tests.{le-ltb, lt-ltb}
use Rattle.edits.specs.Code.Flank.{open_end}
use Rattle.edits.proofs.flank.check_open.Goals as goal

pub returns-then-next-mapped : goal.returns-then-next-mapped
unfolding open_end
returns-then-next-mapped c = simp (lt-ltb _ _ c.if-next-mapped.true)

pub returns : goal.returns
unfolding open_end
returns c = simp (le-ltb _ _ c.if-next-mapped.false)
