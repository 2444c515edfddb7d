-- `pairing::rows::split` meets its contract, by the rules of `With`. Assumes nothing.
use mathlib.Core.Path.{refl}
use Rattle.std.proofs.lemmas.Result.{err_from_is_err_and}
use Rattle.pairing.proofs.With.{done, decode_given, decode_missing}
use Rattle.pairing.specs.Table60.{split}
use Rattle.pairing.proofs.rows.split.Goals as goal

pub returns-in_err-position : goal.returns-in_err-position
unfolding split
returns-in_err-position c = let p = err_from_is_err_and c.from_residual.result c.from_residual.ensures.1 in rw (p.1, p.2) (decode_missing _ _ _ _ _ _ _ c.take.ensures _ c.in_err-position.was refl)

pub returns : goal.returns
unfolding split
returns c = decode_given _ _ _ _ _ _ _ c.take.ensures _ _ c.in_ok-position.was (done _ _ _ _ _ _ _ _ _ _ _ refl c.new.ensures refl c.mate_at-mate.ensures)
