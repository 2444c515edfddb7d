-- `bases::put_edit` meets its contract. Assumes nothing.
use mathlib.Core.Path.{refl}
use Rattle.bases.proofs.BasesLaws.{laid_none_of, room_letter, laid_letter_of}
use native.Mathlib.Omega.{arith}
use lib.ListN.{length-append}
use Rattle.bases.proofs.ReferenceLaws.{length_matched}
use Rattle.alphabet.proofs.AlphabetLaws.{laid_letter}
use Rattle.bases.proofs.put_edit.Goals as goal

pub put_matched-next-requires : goal.put_matched-next-requires
put_matched-next-requires c = let p = simp (length-append, length_matched) at c.requires.e_in_bounds in record { p_bound = c.requires.p_bound; p_in_bounds = omega arith }

pub returns-then-e-eq-DELETION : goal.returns-then-e-eq-DELETION
returns-then-e-eq-DELETION c = laid_none_of _ _ c.put_matched-next.ensures c.if-e-eq-DELETION.true

pub put_letter-requires : goal.put_letter-requires
put_letter-requires c =
    room_letter c.args.alphabet c.args.e c.put_matched-next.ensures c.if-e-eq-DELETION.false c.requires.e_in_bounds

pub returns : goal.returns
returns c =
    laid_letter_of _ _ c.put_matched-next.ensures c.if-e-eq-DELETION.false refl refl (laid_letter _ _ c.requires.table_value c.put_letter.ensures.value c.put_letter.ensures.out_after)
