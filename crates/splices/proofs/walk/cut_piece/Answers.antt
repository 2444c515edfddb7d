-- `splices::walk::cut_piece` meets its contract: whether it is the last is the test. Assumes nothing.
use mathlib.Core.Path.{sym}
use Rattle.splices.specs.Code.Walk.{cut_piece}
use borrow.Author.Tests.{le-ltb, lt-ltb}
use Rattle.splices.proofs.walk.cut_piece.Goals as goal

pub returns-then-left-lt2 : goal.returns-then-left-lt2
unfolding cut_piece
returns-then-left-lt2 c = simp (lt-ltb _ _ c.if-left-lt2.true)

pub returns : goal.returns
unfolding cut_piece
returns c = simp (le-ltb _ _ c.if-left-lt2.false, sym (c.count_before-edits.ensures.1 0))
