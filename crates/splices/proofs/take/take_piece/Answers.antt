-- `splices::take::take_piece` meets its contract: the code picks the case. Assumes nothing.
use mathlib.Core.Path.{refl}
use Rattle.std.proofs.lemmas.Result.{err_from_is_err_and}
use Rattle.splices.proofs.With.{piece_differ, piece_given, piece_missing, piece_reserved}
use Rattle.splices.specs.Table62.{next_mapping_pos, table62}
use Rattle.splices.proofs.take.take_piece.Goals as goal

pub returns-in_err-code : goal.returns-in_err-code
unfolding next_mapping_pos
returns-in_err-code c end = let p = err_from_is_err_and c.from_residual.result c.from_residual.ensures.1 in rw (p.1, p.2) (piece_missing _ _ _ _ _ _ _ c.take.ensures _ c.in_err-code.was refl)

pub returns-in-0 : goal.returns-in-0
unfolding next_mapping_pos table62
returns-in-0 c end = piece_given _ _ _ _ _ _ _ c.take.ensures _ _ c.in_ok-code.was (rw c.in-0.is (c.take_short.ensures end))

pub returns-in-2 : goal.returns-in-2
unfolding next_mapping_pos table62
returns-in-2 c end = piece_given _ _ _ _ _ _ _ c.take.ensures _ _ c.in_ok-code.was (rw c.in-2.is c.take_long.ensures)

pub returns-in_default : goal.returns-in_default
unfolding next_mapping_pos table62
returns-in_default c end = piece_given _ _ _ _ _ _ _ c.take.ensures _ _ c.in_ok-code.was (search (piece_reserved, piece_differ) depth 12)
