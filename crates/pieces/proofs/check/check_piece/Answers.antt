-- `pieces::check::check_piece` meets its contract: where it starts, then what its edits come to, `piece_checked_lem`. Assumes nothing.
use mathlib.Core.Path.{refl}
use Rattle.pieces.proofs.CheckLaws.{found_below, found_before, edits_accepted, edits_looked}
use borrow.Author.Tests.{le-ltb, lt-ltb}
use Rattle.pieces.proofs.check.check_piece.Goals as goal

pub returns-then-m : goal.returns-then-m
returns-then-m c = (found_below _ _ _ _ (lt-ltb _ _ c.if-m.true), tt)

pub returns-then-position-least : goal.returns-then-position-least
returns-then-position-least c = (found_before _ _ _ _ (le-ltb _ _ c.if-m.false) c.if-position-least.true, tt)

pub returns-in_err-extent : goal.returns-in_err-extent
returns-in_err-extent c = edits_accepted _ _ _ _ c.requires c.run_here-run.ensures c.check_piece.ensures c.in_err-extent.was

pub settle_piece-requires : goal.settle_piece-requires
settle_piece-requires c =
    record { ready_piece = c.requires; looked = edits_looked _ _ _ _ c.requires _ _ c.run_here-run.ensures c.check_piece.ensures c.in_ok-extent.was (le-ltb _ _ c.if-m.false) refl c.if-position-least.false }
