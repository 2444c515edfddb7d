-- `ecigar::check::check_piece` meets its contract: the tests on the way pick the case. Assumes nothing.
use Rattle.ecigar.specs.Check.{check_piece}
use borrow.Author.Tests.{le-ltb, lt-ltb}
use Rattle.ecigar.proofs.check.check_piece.Goals as goal

pub returns-then-run-gt-EDITS : goal.returns-then-run-gt-EDITS
unfolding check_piece
returns-then-run-gt-EDITS c = simp (lt-ltb _ _ c.if-run-gt-EDITS.true)

pub returns-then-run-gt-READ : goal.returns-then-run-gt-READ
unfolding check_piece
returns-then-run-gt-READ c = simp (le-ltb _ _ c.if-run-gt-EDITS.false, lt-ltb _ _ c.if-run-gt-READ.true)

pub returns-then-run-from : goal.returns-then-run-from
unfolding check_piece
returns-then-run-from c = simp (le-ltb _ _ c.if-run-gt-EDITS.false, le-ltb _ _ c.if-run-gt-READ.false, lt-ltb _ _ c.if-run-from.true)

pub returns : goal.returns
unfolding check_piece
returns c =
    simp (le-ltb _ _ c.if-run-gt-EDITS.false, le-ltb _ _ c.if-run-gt-READ.false, le-ltb _ _ c.if-run-from.false) c.check_piece_edits.ensures
