-- `bases::lent::check_lent` meets its contract: one is outside the alphabet where the highest is, `symbols_highest`. Assumes nothing.
use borrow.Author.Tests.{le-leb, lt-leb}
use Rattle.bases.proofs.ReferenceLaws.{symbols_highest}
use Rattle.bases.proofs.lent.check_lent.Goals as goal

pub returns-then-size-from : goal.returns-then-size-from
returns-then-size-from c = rw (symbols_highest, ← c.highest.ensures, ← c.size.ensures, ← c.from.ensures, le-leb _ _ c.if-size-from.true)

pub returns : goal.returns
returns c = rw (symbols_highest, ← c.highest.ensures, ← c.size.ensures, ← c.from.ensures, lt-leb _ _ c.if-size-from.false)
