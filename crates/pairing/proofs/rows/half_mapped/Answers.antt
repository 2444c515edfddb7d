-- `pairing::rows::half_mapped` meets its contract, by the rules of `With`. Assumes nothing.
use mathlib.Core.Path.{refl}
use Rattle.std.proofs.lemmas.Result.{err_from_is_err_and}
use Rattle.pairing.proofs.With.{done, narrow_given, narrow_missing}
use Rattle.pairing.specs.Table60.{HM_same_rec}
use Rattle.pairing.proofs.rows.half_mapped.Goals as goal

pub returns-in_err-v : goal.returns-in_err-v
unfolding HM_same_rec
returns-in_err-v c = let p = err_from_is_err_and c.from_residual.result c.from_residual.ensures.1 in rw (p.1, p.2) (narrow_missing _ _ _ _ _ _ _ c.take_narrow.ensures _ c.in_err-v.was refl)

pub returns : goal.returns
unfolding HM_same_rec
returns c = narrow_given _ _ _ _ _ _ _ c.take_narrow.ensures _ _ c.in_ok-v.was (done _ _ _ _ _ _ _ _ _ _ _ refl c.new.ensures c.read_first.ensures refl)
