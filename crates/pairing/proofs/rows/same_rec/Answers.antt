-- `pairing::rows::same_rec` meets its contract, by the rules of `With`. Assumes nothing.
use mathlib.Core.Path.{refl}
use Rattle.std.proofs.lemmas.Result.{err_from_is_err_and}
use Rattle.pairing.proofs.With.{done, narrow_given, narrow_missing, decode_same, decode_differ}
use Rattle.pairing.specs.Table60.{same_rec}
use Rattle.pairing.proofs.rows.same_rec.Goals as goal

pub returns-then-class-eq-U : goal.returns-then-class-eq-U
unfolding same_rec
returns-then-class-eq-U c = decode_same _ _ _ _ _ _ _ _ c.if-class-eq-U.true (done _ _ _ _ _ _ _ _ _ _ _ refl c.new.ensures refl refl)

pub returns-in_err-v : goal.returns-in_err-v
unfolding same_rec
returns-in_err-v c = let p = err_from_is_err_and c.from_residual.result c.from_residual.ensures.1 in rw (p.1, p.2) (decode_differ _ _ _ _ _ _ _ _ c.if-class-eq-U.false (narrow_missing _ _ _ _ _ _ _ c.take_narrow.ensures _ c.in_err-v.was refl))

pub returns : goal.returns
unfolding same_rec
returns c = decode_differ _ _ _ _ _ _ _ _ c.if-class-eq-U.false (narrow_given _ _ _ _ _ _ _ c.take_narrow.ensures _ _ c.in_ok-v.was (done _ _ _ _ _ _ _ _ _ _ _ refl c.new-2.ensures c.read_first.ensures refl))
