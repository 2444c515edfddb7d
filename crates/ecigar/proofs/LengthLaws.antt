-- How long the text of edits and of clips is: never too long.
-- Assumes nothing.
use mathlib.Core.Path.{◌≡◌, refl, ap, ◌∙◌}
use mathlib.Core.Logic.{inl, inr}
use mathlib.Core.List.{List, [], ◌∷◌, ◌++◌}
use Prim.Native.Nat.{ℕ, ◌+◌, ◌-◌, ◌*◌, ◌^◌, ◌<◌, ◌≤◌}
use native.Mathlib.Omega.{arith}
use borrow.Author.Tests.{eqb-true, eqb-false}
use lib.Dec.{eqb}
use lib.ListN.{length, length-append}
use Rattle.std.specs.Prelude.{Ok}
use Rattle.frame.proofs.HexLaws.{by_test}
use Rattle.writing.proofs.DecimalLaws.{digits_short}
use Rattle.alphabet.specs.Table35.{size_of}
use Rattle.edits.specs.Edits.{edit_list_at, Sound}
use Rattle.edits.specs.Lengths.{most_read, most_edits}
use Rattle.edits.specs.declared.edit.Edit.{Edit}
use Rattle.edits.specs.declared.Clips.{Clips}
use Rattle.edits.proofs.EditLaws.{sound_tail, length_edits, sound_accepted}
use Rattle.ecigar.specs.declared.walk.Walk.{Walk}
use Rattle.ecigar.specs.Check.{extent, check_of}
use Rattle.ecigar.specs.Table90.{round_close, square_close, print_all}
use Rattle.ecigar.specs.Ecigar.{set_out_at, past, matches, open_run, gap, mark, operations_from, ecigar_of, clip, clips_length}
use Rattle.ecigar.proofs.PrintLaws.{length_counted, length_printed}
use Rattle.ecigar.proofs.WalkLaws.{Open, length_mark, ending_both, text_on, text_end, past_next, past_open, matches_most, closed_most, edit_most, clip_soft, clip_hard, clip_none}
use Rattle.ecigar.proofs.CheckLaws.{checked_fine}

-- two characters for each mapped base and for each edit
from_most : (alphabet mapped symbols : ℕ) (w : Walk) (es : List Edit) → Open w → w.next ≤ mapped → Sound mapped symbols w.next es
    → length (print_all (operations_from alphabet mapped w es)) + 2 * w.next ≤ 2 * w.run + 2 * mapped + 2 * length es
from_most alphabet mapped symbols w [] o n s =
    omega (arith, ap length (text_end alphabet mapped w ∙ ending_both mapped w), length-append (print_all (open_run w)) (print_all (matches (mapped - w.next))), closed_most w o, matches_most (mapped - w.next))
from_most alphabet mapped symbols w (e ∷ es) o n s =
    let a = sound_accepted mapped symbols w.next e es s in
    let q = past_next w e refl in
    omega (
      arith,
      ap length (text_on alphabet mapped w e es),
      length-append (print_all (gap w e ++ mark alphabet e)) (print_all (operations_from alphabet mapped (past w e) es)),
      length_printed (gap w e) (mark alphabet e),
      length_mark alphabet e,
      edit_most w e o a.order,
      q,
      from_most alphabet mapped symbols (past w e) es (inr (past_open w e refl)) (rw q a.inside) (rw q (sound_tail mapped symbols w.next e es s)),
    )

pub piece_most : (alphabet start mapped symbols : ℕ) (es : List Edit) → start ≤ mapped → Sound mapped symbols start es
    → length (print_all (operations_from alphabet mapped (set_out_at start) es)) + 2 * start ≤ 2 * mapped + 2 * length es
piece_most alphabet start mapped symbols es h s = omega (arith, from_most alphabet mapped symbols (set_out_at start) es (inl refl) h s)

edits_most : (alphabet mapped symbols : ℕ) (es : List Edit) → Sound mapped symbols 0 es → length (ecigar_of alphabet mapped es) ≤ 2 * mapped + 2 * length es
unfolding ecigar_of
edits_most alphabet mapped symbols es s = omega (arith, piece_most alphabet 0 mapped symbols es (omega arith) s)

-- a bracketed clip of at most five digits
clip_most : (soft hard : ℕ) → soft < 2 ^ 16 → hard < 2 ^ 16 → length (print_all (clip soft hard)) ≤ 7
clip_most soft hard g h =
    by_test (eqb soft 0)
    (λ a. by_test (eqb hard 0)
    (λ b. rw (clip_none soft hard (eqb-true _ _ a) (eqb-true _ _ b)) (omega arith))
    (λ b. rw (clip_hard soft hard (eqb-true _ _ a) (eqb-false _ _ b)) (omega (arith, length_counted hard square_close, digits_short hard h))))
    (λ a. rw (clip_soft soft hard (eqb-false _ _ a)) (omega (arith, length_counted soft round_close, digits_short soft g)))

-- clips of 16 bits
pub record ClipsFit (c : Clips) : Type 0 where
  pub left_soft : c.left_soft < 2 ^ 16
  pub left_hard : c.left_hard < 2 ^ 16
  pub right_soft : c.right_soft < 2 ^ 16
  pub right_hard : c.right_hard < 2 ^ 16

pub clips_most : (c : Clips) → ClipsFit c → clips_length c ≤ 14
unfolding clips_length
clips_most c f =
    omega (
      arith,
      clip_most c.left_soft c.left_hard f.left_soft f.left_hard,
      clip_most c.right_soft c.right_hard f.right_soft f.right_hard,
    )

-- the text of what the check accepts
pub text_most : (class alphabet : ℕ) (frame : List ℕ) (at count mapped taken text : ℕ) → check_of class alphabet frame at count mapped ≡ Ok (extent taken text) → text ≤ 2 * most_read + 2 * most_edits
text_most class alphabet frame at count mapped taken text q =
    let f = checked_fine class alphabet frame at count mapped taken text q in
    omega (arith, f.text, f.few, f.short, edits_most alphabet mapped (size_of alphabet) (edit_list_at class alphabet frame count at) f.sound, length_edits class alphabet frame count at)
