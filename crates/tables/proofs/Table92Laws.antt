-- The text of a segment is Table 92's ecigarString, in every class with aligned segments.
-- Assumes nothing.
use mathlib.Core.Path.{◌≡◌, refl, sym, ap, ◌∙◌}
use mathlib.Core.Bool.{true, ◌||◌}
use mathlib.Core.List.{List, [], ◌++◌, append-nil, append_assoc}
use Prim.Native.Nat.{ℕ, zero, suc, ◌+◌, ◌-◌, ◌≤◌}
use native.Mathlib.Omega.{arith}
use native.Mathlib.Nat.{sub-zero}
use borrow.Author.Tests.{eq-eqb, ne_eqb, eqb-true, eqb-false}
use lib.Dec.{eqb}
use lib.ListN.{length}
use Rattle.frame.proofs.HexLaws.{by_test}
use Rattle.unit.specs.Unit.{class_p, class_n, class_m, class_i, class_hm}
use Rattle.alphabet.specs.Table35.{letter_n, letter_of, code_of_n, size_of}
use Rattle.alphabet.proofs.AlphabetLaws.{letter_of_n}
use Rattle.edits.specs.Edits.{substitution, width_of, edit_at, edit_list_at, Sound, block_edits}
use Rattle.edits.specs.Lengths.{no_clips, mapped_length}
use Rattle.edits.specs.declared.edit.Edit.{Edit}
use Rattle.edits.specs.declared.Block.{Block}
use Rattle.edits.proofs.EditLaws.{length_edits, edits_none}
use Rattle.ecigar.specs.Table90.{print_all}
use Rattle.ecigar.specs.Ecigar.{set_out, ecigar_of, clip, left_clip, right_clip, ecigar_text, OfItsClass}
use Rattle.tables.specs.Table93.{item, decode_ecigar_mismatches}
use Rattle.tables.specs.Table92.{left_clipped, right_clipped, ecigar_string, offsets_of, letters_in, types_of}
use Rattle.ecigar.proofs.WalkLaws.{matches_some, clip_soft, clip_hard, clip_none}
use Rattle.ecigar.proofs.TextLaws.{text_parts}
use Rattle.tables.proofs.Table93Laws.{EachEdit, none, more, item_here, end_plain, indel_text, mismatch_text}

-- ---- the edits of a class

-- in N every edit is a substitution by the letter N, in M a substitution
abbrev IsN : ℕ → Edit → Type 0
IsN alphabet e = (e.kind ≡ substitution) × (e.symbol ≡ code_of_n alphabet)

abbrev IsM : Edit → Type 0
IsM e = e.kind ≡ substitution

each_n : (class alphabet : ℕ) (frame : List ℕ) (k at : ℕ) → class ≡ class_n → EachEdit (IsN alphabet) (edit_list_at class alphabet frame k at)
unfolding edit_list_at edit_at
each_n class alphabet frame zero at h = none
each_n class alphabet frame (suc k) at h =
    more (edit_at class alphabet frame at) (simp (eq-eqb _ _ h), simp (eq-eqb _ _ h)) (each_n class alphabet frame k (at + width_of class) h)

each_m : (class alphabet : ℕ) (frame : List ℕ) (k at : ℕ) → class ≡ class_m → EachEdit IsM (edit_list_at class alphabet frame k at)
unfolding edit_list_at edit_at
each_m class alphabet frame zero at h = none
each_m class alphabet frame (suc k) at h =
    more (edit_at class alphabet frame at) (simp (ne_eqb class class_n (λ z. omega arith), eq-eqb class class_m h)) (each_m class alphabet frame k (at + width_of class) h)

-- Classes I or HM
pub is_indel : (class : ℕ) → class_i ≤ class → class ≤ class_hm → (eqb class class_i || eqb class class_hm) ≡ true
is_indel class l h =
    by_test (eqb class class_i) (λ t. simp t) (λ t. let z = eqb-false class class_i t in let q : class ≡ class_hm = omega arith in simp (t, eq-eqb class class_hm q))

-- Table 93 of Classes I or HM, for any edits that are accepted
pub table93_edits : (class alphabet len : ℕ) (es : List Edit) → Sound len (size_of alphabet) 0 es → class_i ≤ class → class ≤ class_hm
    → decode_ecigar_mismatches class len (length es) (offsets_of es) (letters_in alphabet es) (types_of es) ≡ ecigar_of alphabet len es
unfolding decode_ecigar_mismatches ecigar_of
table93_edits class alphabet len es sound l h =
    simp (ne_eqb class class_p (λ z. omega arith), ne_eqb class class_n (λ z. omega arith), ne_eqb class class_m (λ z. omega arith), is_indel class l h)
    (indel_text alphabet len (size_of alphabet) es sound)

-- ---- Table 93, for the edits that a frame has

module _ (class alphabet : ℕ) (frame : List ℕ) (len k at : ℕ) where
  abbrev es : List Edit
  es = edit_list_at class alphabet frame k at

  table93_p : class ≡ class_p → k ≡ 0 → 1 ≤ len → decode_ecigar_mismatches class len 0 [] [] [] ≡ ecigar_of alphabet len es
  unfolding decode_ecigar_mismatches ecigar_of
  table93_p h z l =
      rw (eq-eqb _ _ h, edits_none class alphabet frame k at (omega arith), end_plain alphabet len set_out refl, sub-zero)
      (sym (matches_some len (λ y. omega arith)))

  -- numMismatches is their number
  many : (mms types : List ℕ) → decode_ecigar_mismatches class len k (offsets_of es) mms types ≡ decode_ecigar_mismatches class len (length es) (offsets_of es) mms types
  many mms types = ap (λ (n : ℕ). decode_ecigar_mismatches class len n (offsets_of es) mms types) (sym (length_edits class alphabet frame k at))

  module _ (sound : Sound len (size_of alphabet) 0 es) where
    table93_n : class ≡ class_n → decode_ecigar_mismatches class len k (offsets_of es) [] [] ≡ ecigar_of alphabet len es
    unfolding decode_ecigar_mismatches ecigar_of
    table93_n h =
        many [] []
        ∙ simp (ne_eqb class class_p (λ z. omega arith), eq-eqb class class_n h)
        (mismatch_text alphabet len (size_of alphabet) (λ (i : ℕ). letter_n) (IsN alphabet) (λ e p. p.0) es
        (λ i e rest q p. sym (letter_of_n alphabet) ∙ ap (λ (y : ℕ). letter_of alphabet y) (sym p.1)) (each_n class alphabet frame k at h) sound)

    table93_m : class ≡ class_m → decode_ecigar_mismatches class len k (offsets_of es) (letters_in alphabet es) [] ≡ ecigar_of alphabet len es
    unfolding decode_ecigar_mismatches ecigar_of
    table93_m h =
        many (letters_in alphabet es) []
        ∙ simp (ne_eqb class class_p (λ z. omega arith), ne_eqb class class_n (λ z. omega arith), eq-eqb class class_m h)
        (mismatch_text alphabet len (size_of alphabet) (λ (i : ℕ). item (letters_in alphabet es) i) IsM (λ e p. p) es
        (λ i e rest q p. item_here (λ (x : Edit). letter_of alphabet x.symbol) es i e rest q) (each_m class alphabet frame k at h) sound)

    table93_i : class_i ≤ class → class ≤ class_hm → decode_ecigar_mismatches class len k (offsets_of es) (letters_in alphabet es) (types_of es) ≡ ecigar_of alphabet len es
    table93_i l h = many (letters_in alphabet es) (types_of es) ∙ table93_edits class alphabet len es sound l h

-- ---- the clips

pub left_text : (soft hard : ℕ) (softClips ecigar : List ℕ) → length softClips ≡ soft → left_clipped softClips hard ecigar ≡ print_all (clip soft hard) ++ ecigar
unfolding left_clipped
left_text soft hard softClips ecigar q =
    rw q
    (by_test (eqb soft 0)
    (λ a. by_test (eqb hard 0)
    (λ b. simp (a, b, clip_none soft hard (eqb-true _ _ a) (eqb-true _ _ b)))
    (λ b. simp (a, b, clip_hard soft hard (eqb-true _ _ a) (eqb-false _ _ b))))
    (λ a. simp (a, clip_soft soft hard (eqb-false _ _ a))))

pub right_text : (soft hard : ℕ) (softClips ecigar : List ℕ) → length softClips ≡ soft → right_clipped softClips hard ecigar ≡ ecigar ++ print_all (clip soft hard)
unfolding right_clipped
right_text soft hard softClips ecigar q =
    rw q
    (by_test (eqb soft 0)
    (λ a. by_test (eqb hard 0)
    (λ b. simp (a, b, clip_none soft hard (eqb-true _ _ a) (eqb-true _ _ b)) (sym (append-nil ecigar)))
    (λ b. simp (a, b, clip_hard soft hard (eqb-true _ _ a) (eqb-false _ _ b), append_assoc)))
    (λ a. simp (a, clip_soft soft hard (eqb-false _ _ a), append_assoc)))

-- a segment without clips
bare_text : (class alphabet : ℕ) (frame : List ℕ) (s : Block) → s.clips ≡ no_clips → ecigar_text class alphabet frame s ≡ ecigar_of alphabet s.length (block_edits class alphabet frame s)
bare_text class alphabet frame s h = text_parts class alphabet frame s ∙ rw (h, clip_none 0 0 refl refl, sub-zero) (append-nil _)

-- ---- the whole

-- For every segment whose edits are accepted, in class P, N, M, I or HM, the text is Table 92's.
-- leftSoftClips and rightSoftClips are the clipped bases, of which only the number counts.
-- Every aligned segment that is read in one piece is one: `text_is_table92` (segment, proofs/PiecedLaws).
pub ecigar_is_table92 : (class alphabet : ℕ) (frame : List ℕ) (s : Block) (left_soft_clips right_soft_clips : List ℕ)
    → OfItsClass class s
    → Sound (mapped_length s.length s.clips) (size_of alphabet) 0 (block_edits class alphabet frame s)
    → length left_soft_clips ≡ s.clips.left_soft → length right_soft_clips ≡ s.clips.right_soft
    → ecigar_text class alphabet frame s
    ≡ ecigar_string class s.length s.edits (offsets_of (block_edits class alphabet frame s)) (letters_in alphabet (block_edits class alphabet frame s)) (types_of (block_edits class alphabet frame s))
    left_soft_clips right_soft_clips s.clips.left_hard s.clips.right_hard
unfolding ecigar_string
ecigar_is_table92 class alphabet frame s left_soft_clips right_soft_clips a sound l r =
    by_test (eqb class class_p)
    (λ p.
    let h = eqb-true class class_p p in
    let c = a.clips (omega arith) in
    rw p (bare_text class alphabet frame s c ∙ sym (table93_p class alphabet frame s.length s.edits s.edits_at h (a.edits h) (omega (arith, a.mapped)))))
    (λ p. by_test (eqb class class_n)
    (λ t.
    let h = eqb-true class class_n t in
    let c = a.clips (omega arith) in
    let m : mapped_length s.length s.clips ≡ s.length = rw (c, sub-zero) in
    rw (p, t) (bare_text class alphabet frame s c ∙ sym (table93_n class alphabet frame s.length s.edits s.edits_at (rw m at sound) h)))
    (λ t. by_test (eqb class class_m)
    (λ u.
    let h = eqb-true class class_m u in
    let c = a.clips (omega arith) in
    let m : mapped_length s.length s.clips ≡ s.length = rw (c, sub-zero) in
    rw (p, t, u) (bare_text class alphabet frame s c ∙ sym (table93_m class alphabet frame s.length s.edits s.edits_at (rw m at sound) h)))
    (λ u.
    let i : class_i ≤ class = omega (arith, a.first, eqb-false class class_p p, eqb-false class class_n t, eqb-false class class_m u) in
    let m : s.length - length left_soft_clips - length right_soft_clips ≡ mapped_length s.length s.clips = omega arith in
    let c = s.clips in
    rw (p, t, u, is_indel class i a.last, m)
    (text_parts class alphabet frame s
    ∙ sym
    (right_text c.right_soft c.right_hard right_soft_clips _ r
    ∙ ap (λ (x : List ℕ). x ++ print_all (right_clip c)) (left_text c.left_soft c.left_hard left_soft_clips _ l
    ∙ ap (λ (x : List ℕ). print_all (left_clip c) ++ x) (table93_i class alphabet frame (mapped_length s.length c) s.edits s.edits_at sound i a.last)))))))
