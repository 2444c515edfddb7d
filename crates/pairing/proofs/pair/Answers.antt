-- `pairing::pair` meets its contract, by the rules of `With`. Assumes nothing.
use mathlib.Core.Path.{refl}
use Rattle.std.proofs.lemmas.Result.{err_from_is_err_and}
use Rattle.pairing.proofs.With.{done, decode_given, decode_missing, decode_when, decode_unless, decode_same, decode_differ}
use Rattle.pairing.specs.Pairing.{pair_of, pair_steps}
use Rattle.pairing.proofs.pair.Goals as goal

pub returns-then-unit-lt-SEGMENTS : goal.returns-then-unit-lt-SEGMENTS
unfolding pair_of pair_steps
returns-then-unit-lt-SEGMENTS c = decode_when _ _ _ _ _ _ _ _ c.if-unit-lt-SEGMENTS.true (done _ _ _ _ _ _ _ _ _ _ _ refl c.new.ensures refl refl)

pub returns-then-unit-eq-HM : goal.returns-then-unit-eq-HM
unfolding pair_of pair_steps
returns-then-unit-eq-HM c = decode_unless _ _ _ _ _ _ _ _ c.if-unit-lt-SEGMENTS.false (decode_same _ _ _ _ _ _ _ _ c.if-unit-eq-HM.true c.half_mapped.ensures)

pub returns-in_err-code : goal.returns-in_err-code
unfolding pair_of pair_steps
returns-in_err-code c = let p = err_from_is_err_and c.from_residual.result c.from_residual.ensures.1 in rw (p.1, p.2) (decode_unless _ _ _ _ _ _ _ _ c.if-unit-lt-SEGMENTS.false (decode_differ _ _ _ _ _ _ _ _ c.if-unit-eq-HM.false (decode_missing _ _ _ _ _ _ _ c.take.ensures _ c.in_err-code.was refl)))

pub returns : goal.returns
unfolding pair_of pair_steps
returns c = decode_unless _ _ _ _ _ _ _ _ c.if-unit-lt-SEGMENTS.false (decode_differ _ _ _ _ _ _ _ _ c.if-unit-eq-HM.false (decode_given _ _ _ _ _ _ _ c.take.ensures _ _ c.in_ok-code.was c.by_code.ensures))
