-- `splices::take::take_short` meets its contract: the tests on the way pick its end. Assumes nothing.
use mathlib.Core.Path.{refl}
use Rattle.std.proofs.lemmas.Result.{err_from_is_err_and}
use Rattle.splices.proofs.With.{piece_done, piece_narrow, piece_wide}
use Rattle.splices.specs.Table62.{same_rec_short}
use Rattle.splices.proofs.take.take_short.Goals as goal

pub returns-in_err-next : goal.returns-in_err-next
unfolding same_rec_short
returns-in_err-next c end = let p = err_from_is_err_and c.from_residual.result c.from_residual.ensures.1 in rw (p.1, p.2) (piece_wide _ _ _ _ _ _ _ c.take_narrow.ensures _ c.in_err-next.was refl)

pub returns : goal.returns
unfolding same_rec_short
returns c end = piece_narrow _ _ _ _ _ _ _ c.take_narrow.ensures _ _ c.in_ok-next.was (piece_done _ _ _ _ _ refl)
