-- `splices::take::take_long` meets its contract: the tests on the way pick its end. Assumes nothing.
use mathlib.Core.Path.{refl}
use Rattle.std.proofs.lemmas.Result.{err_from_is_err_and}
use Rattle.splices.proofs.With.{piece_done, piece_given, piece_missing}
use Rattle.splices.specs.Table62.{same_rec_long}
use Rattle.splices.proofs.take.take_long.Goals as goal

pub returns-in_err-next : goal.returns-in_err-next
unfolding same_rec_long
returns-in_err-next c = let p = err_from_is_err_and c.from_residual.result c.from_residual.ensures.1 in rw (p.1, p.2) (piece_missing _ _ _ _ _ _ _ c.take.ensures _ c.in_err-next.was refl)

pub returns : goal.returns
unfolding same_rec_long
returns c = piece_given _ _ _ _ _ _ _ c.take.ensures _ _ c.in_ok-next.was (piece_done _ _ _ _ _ refl)
