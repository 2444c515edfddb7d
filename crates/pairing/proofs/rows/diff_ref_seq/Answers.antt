-- `pairing::rows::diff_ref_seq` meets its contract, by the rules of `With`. Assumes nothing.
use mathlib.Core.Path.{refl}
use Rattle.std.proofs.lemmas.Result.{err_from_is_err_and}
use Rattle.pairing.proofs.With.{decode_given, decode_missing, fits, above, decode_same, decode_differ}
use Rattle.pairing.specs.Table60.{diff_ref_seq}
use Rattle.pairing.proofs.rows.diff_ref_seq.Goals as goal

pub returns-in_err-sequence : goal.returns-in_err-sequence
unfolding diff_ref_seq
returns-in_err-sequence c = let p = err_from_is_err_and c.from_residual.result c.from_residual.ensures.1 in rw (p.1, p.2) (decode_missing _ _ _ _ _ _ _ c.take.ensures _ c.in_err-sequence.was refl)

pub returns-then-class-eq-U : goal.returns-then-class-eq-U
unfolding diff_ref_seq
returns-then-class-eq-U c = decode_given _ _ _ _ _ _ _ c.take.ensures _ _ c.in_ok-sequence.was (decode_same _ _ _ _ _ _ _ _ c.if-class-eq-U.true c.split.ensures)

pub returns-then-sequence-gt-LARGEST16 : goal.returns-then-sequence-gt-LARGEST16
unfolding diff_ref_seq
returns-then-sequence-gt-LARGEST16 c = decode_given _ _ _ _ _ _ _ c.take.ensures _ _ c.in_ok-sequence.was (decode_differ _ _ _ _ _ _ _ _ c.if-class-eq-U.false (above _ _ _ _ _ _ c.if-sequence-gt-LARGEST16.true refl))

pub returns : goal.returns
unfolding diff_ref_seq
returns c = decode_given _ _ _ _ _ _ _ c.take.ensures _ _ c.in_ok-sequence.was (decode_differ _ _ _ _ _ _ _ _ c.if-class-eq-U.false (fits _ _ _ _ _ _ c.if-sequence-gt-LARGEST16.false c.split-2.ensures))
