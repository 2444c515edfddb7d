-- `writing::lay::digit_of` meets its contract. Assumes nothing.
use borrow.Author.Tests.{le-ltb, lt-ltb}
use Rattle.frame.specs.Hex.{glyph}
use Rattle.writing.proofs.lay.digit_of.Goals as goal

pub returns-then-n-lt10 : goal.returns-then-n-lt10
unfolding glyph
returns-then-n-lt10 c = simp (lt-ltb _ _ c.if-n-lt10.true)

pub returns-else-n-lt10 : goal.returns-else-n-lt10
unfolding glyph
returns-else-n-lt10 c = simp (le-ltb _ _ c.if-n-lt10.false)
