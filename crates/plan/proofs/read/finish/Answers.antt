-- `plan::read::finish` meets its contract: bytes are left over or not. Assumes nothing.
use borrow.Author.Tests.{lt-ltb, le-ltb}
use Rattle.plan.proofs.read.finish.Goals as goal

pub returns-then-c-frame : goal.returns-then-c-frame
returns-then-c-frame c = simp (lt-ltb _ _ c.if-c-frame.true)

pub returns : goal.returns
returns c = simp (le-ltb _ _ c.if-c-frame.false)
