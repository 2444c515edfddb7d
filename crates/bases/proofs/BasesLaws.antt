-- The laws of both pointers and of the bases they bring.
-- Assumes nothing.
use Prim.Native.Nat.{ℕ, ◌+◌, ◌-◌, ◌*◌, ◌^◌, ◌<◌, ◌≤◌}
use mathlib.Core.Path.{◌≡◌, refl, ap, ◌∙◌}
use mathlib.Core.Bool.{cond}
use mathlib.Core.List.{List, [], ◌∷◌, ◌++◌, append-nil}
use native.Mathlib.Omega.{arith}
use borrow.Author.Tests.{eq-eqb, ne_eqb, eqb-true}
use lib.Dec.{eqb}
use lib.ListN.{length, length-append}
use Rattle.std.specs.Prelude.{⊤, Ok, Err}
use Rattle.refusal.specs.declared.Refusal.{Refusal}
use Rattle.refusal.specs.Answers.{OrRefused}
use Rattle.writing.specs.Lay.{Laid}
use Rattle.frame.proofs.HexLaws.{by_test}
use Rattle.writing.proofs.LayLaws.{Rest, rest_room, laid_then, laid_room, length_laid}
use Rattle.alphabet.specs.Table35.{letter_of}
use Rattle.edits.specs.declared.edit.Edit.{Edit}
use Rattle.edits.specs.declared.Block.{Block}
use Rattle.edits.specs.declared.Run.{Run}
use Rattle.edits.specs.Lengths.{mapped_length}
use Rattle.edits.specs.Code.Runs.{run_of}
use Rattle.edits.specs.Edits.{insertion, deletion, width_of, edit_at, edit_list_at, next_offset}
use Rattle.edits.proofs.EditLaws.{edits_on, edits_none, framed_on}
use Rattle.bases.specs.declared.places.Places.{Places}
use Rattle.bases.specs.Reference.{matched_bases, match_refusal}
use Rattle.bases.specs.Bases.{R, r, pointers, past_edit, edit_bases, bases_from, refusal_from, letters_at, mapped_bases, bases_text}
use Rattle.bases.specs.Code.Helpers.{farthest}
use Rattle.bases.proofs.ReferenceLaws.{length_letters}

-- ---- both pointers behind an edit

pub past_read : (e : Edit) (p : Places) → r (past_edit e p) ≡ next_offset e
unfolding past_edit next_offset
past_read e p =
    by_test (eqb e.kind insertion)
    (λ t. let k = eqb-true e.kind insertion t in simp (t, ne_eqb e.kind deletion (λ h. omega arith)))
    (λ t. by_test (eqb e.kind deletion) (λ u. simp (t, u)) (λ u. simp (t, u)))

pub past_reference : (e : Edit) (p : Places) → R (past_edit e p) ≡ R p + (e.offset - r p) + cond (eqb e.kind insertion) 0 1
unfolding past_edit
past_reference e p =
    by_test (eqb e.kind insertion) (λ t. simp t (omega arith))
    (λ t. by_test (eqb e.kind deletion) (λ u. simp (t, u)) (λ u. simp (t, u)))

pub past_most : (e : Edit) (p q : Places) → q ≡ past_edit e p → R q ≤ R p + e.offset + 1
past_most e p q h =
    let m = ap (λ (x : Places). R x) h ∙ past_reference e p in
    by_test (eqb e.kind insertion) (λ t. let k = rw t at m in omega arith) (λ t. let k = rw t at m in omega arith)

-- ---- an edit's own letter

pub edit_none : (alphabet : ℕ) (e : Edit) → e.kind ≡ deletion → edit_bases alphabet e ≡ []
unfolding edit_bases
edit_none alphabet e h = rw (eq-eqb _ _ h)

pub edit_letter : (alphabet : ℕ) (e : Edit) {y b : ℕ} → (e.kind ≡ deletion → ⊥) → y ≡ e.symbol → b ≡ letter_of alphabet y → edit_bases alphabet e ≡ b ∷ []
unfolding edit_bases
edit_letter alphabet e h q f = rw (ne_eqb _ _ h, ← q, f)

-- a writer has laid the match before an edit, and lays its letter, if it has one
module _ (alphabet : ℕ) (e : Edit) {a b : List ℕ} {at p : ℕ} {xs : List ℕ} (f : Laid a b at p xs) where
  pub laid_none_of : e.kind ≡ deletion → Laid a b at p (xs ++ edit_bases alphabet e)
  laid_none_of h = rw (edit_none alphabet e h, append-nil) f

  pub room_letter : (e.kind ≡ deletion → ⊥) → at + 2 * length (xs ++ edit_bases alphabet e) ≤ length a → p + 2 ≤ length b
  room_letter h m =
      let k = rw (edit_letter alphabet e h refl refl, length-append xs (letter_of alphabet e.symbol ∷ [])) at m in
      laid_room (length xs) 2 f refl (omega arith)

  pub laid_letter_of : {y l q : ℕ} {c : List ℕ} → (e.kind ≡ deletion → ⊥) → y ≡ e.symbol → l ≡ letter_of alphabet y → Laid b c p q (l ∷ []) → Laid a c at q (xs ++ edit_bases alphabet e)
  laid_letter_of h y l g = rw (edit_letter alphabet e h y l) (laid_then f g)

-- ---- the edits one by one

module _ (class alphabet : ℕ) (frame reference : List ℕ) (first mapped : ℕ) (p : Places) (k at : ℕ) where
  pub bases_on : (e : Edit) → e ≡ edit_at class alphabet frame at → 0 < k
      → bases_from alphabet reference first mapped p (edit_list_at class alphabet frame k at)
      ≡ (matched_bases alphabet reference first (R p) (e.offset - r p) ++ edit_bases alphabet e) ++ bases_from alphabet reference first mapped (past_edit e p) (edit_list_at class alphabet frame (k - 1) (at + width_of class))
  unfolding bases_from
  bases_on e q h = rw (edits_on class alphabet frame k at e q h)

  pub bases_room : (e : Edit) {l l₀ xs₀ : List ℕ} {to to₀ : ℕ} → e ≡ edit_at class alphabet frame at → 0 < k
      → Rest l to (bases_from alphabet reference first mapped p (edit_list_at class alphabet frame k at)) l₀ to₀ xs₀ → to₀ + 2 * length xs₀ ≤ length l₀
      → to + 2 * length (matched_bases alphabet reference first (R p) (e.offset - r p) ++ edit_bases alphabet e) ≤ length l
  bases_room e q h s b = rest_room (matched_bases alphabet reference first (R p) (e.offset - r p) ++ edit_bases alphabet e) (bases_from alphabet reference first mapped (past_edit e p) (edit_list_at class alphabet frame (k - 1) (at + width_of class))) s (bases_on e q h) b

  pub bases_end : k ≤ 0 → bases_from alphabet reference first mapped p (edit_list_at class alphabet frame k at) ≡ matched_bases alphabet reference first (R p) (mapped - r p)
  unfolding bases_from
  bases_end h = rw (edits_none class alphabet frame k at h)

  pub refusal_on : (e : Edit) {n : OrRefused ⊤} {t : ⊤} → e ≡ edit_at class alphabet frame at → 0 < k → n ≡ match_refusal alphabet reference first (R p) (e.offset - r p) → n ≡ Ok t
      → refusal_from alphabet reference first mapped p (edit_list_at class alphabet frame k at) ≡ refusal_from alphabet reference first mapped (past_edit e p) (edit_list_at class alphabet frame (k - 1) (at + width_of class))
  unfolding refusal_from
  refusal_on e q h m z = rw (edits_on class alphabet frame k at e q h, ← m, z)

  pub refusal_out : (e : Edit) {n : OrRefused ⊤} {refusal : Refusal} → e ≡ edit_at class alphabet frame at → 0 < k → n ≡ match_refusal alphabet reference first (R p) (e.offset - r p) → n ≡ Err refusal
      → refusal_from alphabet reference first mapped p (edit_list_at class alphabet frame k at) ≡ Err refusal
  unfolding refusal_from
  refusal_out e q h m z = rw (edits_on class alphabet frame k at e q h, ← m, z)

  pub refusal_end : k ≤ 0 → refusal_from alphabet reference first mapped p (edit_list_at class alphabet frame k at) ≡ match_refusal alphabet reference first (R p) (mapped - r p)
  unfolding refusal_from
  refusal_end h = rw (edits_none class alphabet frame k at h)

-- ---- how far a walk over the edits comes: pointer R stays within what 64 bits hold, and the place within the frame

-- one more than the largest offset, which has 16 bits
abbrev pub offsets : ℕ
offsets = 2 ^ 16

pub record BasesWalk (class : ℕ) (frame : List ℕ) (p : Places) (left at : ℕ) : Type 0 where
  pub reference : R p + offsets * left ≤ farthest
  pub framed : at + left * width_of class ≤ length frame

-- pointer R starts within 32 bits, and there are fewer than 2 ^ 32 edits
pub walk_start : (class : ℕ) (frame : List ℕ) (position start count at : ℕ) {p : Places} → p ≡ pointers position start → position < 2 ^ 32 → count < 2 ^ 32 → at + count * width_of class ≤ length frame → BasesWalk class frame p count at
walk_start class frame position start count at q h k f = record { reference = omega (arith, ap (λ (x : Places). R x) q); framed = f }

module _ {class : ℕ} {frame : List ℕ} {p : Places} {left at : ℕ} (w : BasesWalk class frame p left at) where
  pub walk_near : R p ≤ farthest
  walk_near = omega (arith, w.reference)

  pub walk_room : {step : ℕ} → 0 < left → step ≡ width_of class → at + step ≤ length frame
  walk_room h s = (framed_on frame class at left _ w.framed s h).0

  pub walk_on : (q : Places) {step : ℕ} (e : Edit) → 0 < left → e.offset < offsets → q ≡ past_edit e p → step ≡ width_of class → BasesWalk class frame q (left - 1) (at + step)
  walk_on q e h o m s = record { reference = omega (arith, w.reference, past_most e p q m); framed = (framed_on frame class at left _ w.framed s h).1 }

-- ---- the whole read, piece by piece

pub length_bases_text : (class alphabet : ℕ) (frame reference : List ℕ) (first position : ℕ) (s : Block) → length (bases_text class alphabet frame reference first position s)
    ≡ s.clips.left_soft + length (mapped_bases class alphabet frame reference first position (mapped_length s.length s.clips) s.edits s.edits_at) + s.clips.right_soft
unfolding bases_text
length_bases_text class alphabet frame reference first position s = simp (length-append, length_letters)

module _ (class alphabet : ℕ) (frame reference : List ℕ) (first position : ℕ) (s : Block) {run : Run} (q : run ≡ run_of s) where
  pub text_pieces : (letters_at alphabet frame s.soft_at (s.soft_at + s.clips.left_soft - s.soft_at) ++ mapped_bases class alphabet frame reference first position run.mapped run.edits run.edits_at)
      ++ letters_at alphabet frame (s.soft_at + s.clips.left_soft) (s.soft_at + s.clips.left_soft + s.clips.right_soft - (s.soft_at + s.clips.left_soft))
      ≡ bases_text class alphabet frame reference first position s
  unfolding bases_text
  text_pieces =
      let a : s.soft_at + s.clips.left_soft - s.soft_at ≡ s.clips.left_soft = omega arith in
      let b : s.soft_at + s.clips.left_soft + s.clips.right_soft - (s.soft_at + s.clips.left_soft) ≡ s.clips.right_soft = omega arith in
      rw (a, b, q)

  module _ (out : List ℕ) (at : ℕ) (room : at + 2 * length (bases_text class alphabet frame reference first position s) ≤ length out) where
    pub room_left : at + 2 * (s.soft_at + s.clips.left_soft - s.soft_at) ≤ length out
    room_left = omega (arith, length_bases_text class alphabet frame reference first position s)

    pub room_mapped : {b : List ℕ} {p : ℕ} → Laid out b at p (letters_at alphabet frame s.soft_at (s.soft_at + s.clips.left_soft - s.soft_at))
        → p + 2 * length (mapped_bases class alphabet frame reference first position run.mapped run.edits run.edits_at) ≤ length b
    room_mapped f =
        rw q
        (laid_room (s.soft_at + s.clips.left_soft - s.soft_at) _ f (length_letters alphabet frame s.soft_at _)
        (omega (arith, length_bases_text class alphabet frame reference first position s)))

    pub room_right : {b c : List ℕ} {p z : ℕ} → Laid out b at p (letters_at alphabet frame s.soft_at (s.soft_at + s.clips.left_soft - s.soft_at))
        → Laid b c p z (mapped_bases class alphabet frame reference first position run.mapped run.edits run.edits_at)
        → z + 2 * (s.soft_at + s.clips.left_soft + s.clips.right_soft - (s.soft_at + s.clips.left_soft)) ≤ length c
    room_right f g =
        let m = rw q at g.to in
        omega (arith, length_bases_text class alphabet frame reference first position s, f.to, length_laid f, length_laid g, length_letters alphabet frame s.soft_at (s.soft_at + s.clips.left_soft - s.soft_at))
