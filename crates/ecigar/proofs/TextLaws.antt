-- The laws of writing a segment's text: each turn of the loop.
-- Assumes nothing.
use mathlib.Core.Path.{◌≡◌, refl}
use mathlib.Core.Bool.{false}
use mathlib.Core.List.{List, ◌++◌}
use Prim.Native.Nat.{ℕ, zero, suc, ◌+◌, ◌-◌, ◌*◌, ◌<◌, ◌≤◌}
use native.Mathlib.Omega.{arith}
use lib.ListN.{length, length-append}
use Rattle.std.specs.Prelude.{Ok}
use Rattle.writing.proofs.LayLaws.{Rest, rest_start, rest_put, rest_room}
use Rattle.writing.specs.Lay.{Laid}
use Rattle.alphabet.specs.Table35.{size_of}
use Rattle.edits.specs.Edits.{width_of, edit_at, edit_list_at, Sound, block_edits}
use Rattle.unit.specs.Unit.{class_i}
use Rattle.edits.specs.Code.Runs.{substitutes_only}
use Rattle.edits.specs.Lengths.{mapped_length}
use Rattle.edits.specs.declared.edit.Edit.{Edit}
use Rattle.edits.specs.declared.Block.{Block}
use Rattle.edits.proofs.EditLaws.{edit_full, width_full, edits_none, list_on, framed_on, accepted_on, sound_on}
use Rattle.ecigar.specs.declared.walk.Walk.{Walk}
use Rattle.ecigar.specs.Table90.{print_all}
use Rattle.ecigar.specs.Ecigar.{set_out_at, past, gap, mark, ending, operations_from, operations_of, ecigar_of, clips_length, left_clip, right_clip, block_operations, ecigar_text}
use Rattle.ecigar.specs.Check.{extent, check_of}
use Rattle.ecigar.proofs.PrintLaws.{printed_append}
use Rattle.ecigar.proofs.CheckLaws.{checked_fine}
use Rattle.ecigar.proofs.WalkLaws.{text_on, text_end, past_next}

-- ---- the classes whose edits have a type: they have one form

pub typed_i : substitutes_only class_i ≡ false
unfolding substitutes_only
typed_i = refl

pub edits_typed : (class : ℕ) → substitutes_only class ≡ false → (alphabet : ℕ) (frame : List ℕ) (k at : ℕ) → edit_list_at class_i alphabet frame k at ≡ edit_list_at class alphabet frame k at
unfolding edit_list_at
edits_typed class t alphabet frame zero at = refl
edits_typed class t alphabet frame (suc k) at =
    rw (edit_full class_i typed_i alphabet frame at, edit_full class t alphabet frame at, width_full class_i typed_i, width_full class t, edits_typed class t alphabet frame k (at + 4)) refl

-- ---- a turn of the loop

-- what holds before each turn, when k edits are left
pub record Writing (class alphabet : ℕ) (frame : List ℕ) (mapped k at : ℕ) (w : Walk) (l : List ℕ) (p : ℕ) (l₀ : List ℕ) (p₀ : ℕ) (whole : List ℕ) : Type 0 where
  pub next : w.next ≤ mapped
  pub framed : at + k * width_of class ≤ length frame
  pub sound : Sound mapped (size_of alphabet) w.next (edit_list_at class alphabet frame k at)
  pub rest : Rest l p (print_all (operations_from alphabet mapped w (edit_list_at class alphabet frame k at))) l₀ p₀ whole

-- before the first
pub writing_start : (class alphabet : ℕ) (frame : List ℕ) (mapped start k at : ℕ) (l : List ℕ) (p : ℕ) → start ≤ mapped → at + k * width_of class ≤ length frame
    → Sound mapped (size_of alphabet) start (edit_list_at class alphabet frame k at)
    → Writing class alphabet frame mapped k at (set_out_at start) l p l p (print_all (operations_from alphabet mapped (set_out_at start) (edit_list_at class alphabet frame k at)))
writing_start class alphabet frame mapped start k at l p g h s = record { next = g; framed = h; sound = s; rest = rest_start _ _ _ }

module _ (class alphabet : ℕ) (frame : List ℕ) (mapped k at step : ℕ) (e : Edit) (wide : step ≡ width_of class) (it : e ≡ edit_at class alphabet frame at) (more : 0 < k) where
  ecigar_on : (w : Walk) → print_all (operations_from alphabet mapped w (edit_list_at class alphabet frame k at))
      ≡ print_all (gap w e ++ mark alphabet e) ++ print_all (operations_from alphabet mapped (past w e) (edit_list_at class alphabet frame (k - 1) (at + step)))
  ecigar_on w = rw (list_on class alphabet frame mapped k at step e wide it more) (text_on alphabet mapped w e (edit_list_at class alphabet frame (k - 1) (at + step)))

  module _ {l l₀ whole : List ℕ} {p p₀ : ℕ} {w : Walk} (g : Writing class alphabet frame mapped k at w l p l₀ p₀ whole) where
    pub writing_order : w.next ≤ e.offset
    writing_order = (accepted_on class alphabet frame mapped k at step e wide it more w.next g.sound).order

    pub writing_room : p₀ + 2 * length whole ≤ length l₀ → p + 2 * length (print_all (gap w e ++ mark alphabet e)) ≤ length l
    writing_room b =
        rest_room (print_all (gap w e ++ mark alphabet e)) (print_all (operations_from alphabet mapped (past w e) (edit_list_at class alphabet frame (k - 1) (at + step)))) g.rest (ecigar_on w) b

    -- past the edit, when what it adds is laid
    pub writing_on : {m : List ℕ} {q : ℕ} {v : Walk} → v ≡ past w e → Laid l m p q (print_all (gap w e ++ mark alphabet e))
        → Writing class alphabet frame mapped (k - 1) (at + step) v m q l₀ p₀ whole
    writing_on moved f =
        record {
          next = omega (arith, (accepted_on class alphabet frame mapped k at step e wide it more w.next g.sound).inside, past_next w e moved);
          framed = (framed_on frame class at k step g.framed wide more).1;
          sound = rw (past_next w e moved) (sound_on class alphabet frame mapped k at step e wide it more w.next g.sound);
          rest = rw moved (rest_put g.rest (ecigar_on w) f);
        }

pub ecigar_end : (class alphabet : ℕ) (frame : List ℕ) (mapped k at : ℕ) (w : Walk) → k ≤ 0
    → print_all (operations_from alphabet mapped w (edit_list_at class alphabet frame k at)) ≡ print_all (ending mapped w)
ecigar_end class alphabet frame mapped k at w h = rw (edits_none class alphabet frame k at h) (text_end alphabet mapped w)

-- ---- the whole text

pub text_parts : (class alphabet : ℕ) (frame : List ℕ) (s : Block) → ecigar_text class alphabet frame s
    ≡ print_all (left_clip s.clips) ++ ecigar_of alphabet (mapped_length s.length s.clips) (block_edits class alphabet frame s) ++ print_all (right_clip s.clips)
unfolding ecigar_text block_operations ecigar_of
text_parts class alphabet frame s =
    let es = operations_of alphabet (mapped_length s.length s.clips) (block_edits class alphabet frame s) in
    rw (printed_append (left_clip s.clips ++ es) (right_clip s.clips), printed_append (left_clip s.clips) es)

pub length_ecigar_text : (class alphabet : ℕ) (frame : List ℕ) (s : Block) → length (ecigar_text class alphabet frame s)
    ≡ length (print_all (left_clip s.clips)) + length (ecigar_of alphabet (mapped_length s.length s.clips) (block_edits class alphabet frame s)) + length (print_all (right_clip s.clips))
length_ecigar_text class alphabet frame s = rw (text_parts class alphabet frame s, length-append, length-append)

-- ---- from the check to the writer

module _ (class alphabet : ℕ) (frame : List ℕ) (s : Block) (taken text : ℕ)
    (checked : check_of class alphabet frame s.edits_at s.edits (mapped_length s.length s.clips) ≡ Ok (extent taken text)) where
  -- the length that `check` and `clips_len` answer together is the text's
  pub checked_length : length (ecigar_text class alphabet frame s) ≡ text + clips_length s.clips
  unfolding clips_length
  checked_length = omega (arith, length_ecigar_text class alphabet frame s, (checked_fine class alphabet frame s.edits_at s.edits (mapped_length s.length s.clips) taken text checked).text)
