-- The laws of a whole read whose block was accepted: its length, and where each of its letters comes from.
-- Assumes nothing.
use Prim.Native.Nat.{ℕ, zero, suc, ◌+◌, ◌-◌, ◌<◌}
use mathlib.Core.Path.{◌≡◌, ◌∙◌}
use mathlib.Core.Logic.{◌⊎◌}
use mathlib.Core.List.{List, ◌++◌}
use native.Mathlib.Omega.{arith}
use native.Mathlib.Nat.{sub-zero, add-zero}
use lib.ListN.{length, get_or, length-append, get_or-append}
use Rattle.alphabet.specs.Table35.{size_of, letter_of}
use Rattle.edits.specs.declared.edit.Edit.{Edit}
use Rattle.edits.specs.declared.Block.{Block}
use Rattle.edits.specs.Edits.{edit_list_at}
use Rattle.edits.specs.Lengths.{mapped_length}
use Rattle.bases.specs.Reference.{base_at}
use Rattle.bases.specs.Bases.{beginning, letters_at, mapped_bases, bases_text}
use Rattle.bases.specs.Alignment.{UnderMatch, OfEdit, Acceptable}
use Rattle.bases.proofs.ReferenceLaws.{length_letters}
use Rattle.bases.proofs.BasesLaws.{length_bases_text}
use Rattle.bases.proofs.AlignmentLaws.{length_bases_from, get_d_back, match_at, edit_at_lem, from_somewhere, under_most, edit_below}

pub get_d_letters : (alphabet : ℕ) (s : List ℕ) (at n i : ℕ) → i < n → get_or (letters_at alphabet s at n) i 0 ≡ letter_of alphabet (get_or s (at + i) 0)
unfolding letters_at
get_d_letters alphabet s at zero i h = absurd (omega arith)
get_d_letters alphabet s at (suc n) zero h = rw (add-zero at)
get_d_letters alphabet s at (suc n) (suc i) h = let e : at + suc i ≡ at + 1 + i = omega arith in rw e (get_d_letters alphabet s (at + 1) n i (omega arith))

module _ (class alphabet : ℕ) (frame reference : List ℕ) (first position : ℕ) (s : Block) (a : Acceptable class alphabet frame s) where
  pub mapped_length_lem : length (mapped_bases class alphabet frame reference first position (mapped_length s.length s.clips) s.edits s.edits_at) ≡ mapped_length s.length s.clips
  mapped_length_lem =
      length_bases_from alphabet reference first (mapped_length s.length s.clips) (beginning position) (edit_list_at class alphabet frame s.edits s.edits_at) a.edits (omega arith)
      ∙ sub-zero (mapped_length s.length s.clips)

  pub read_length : length (bases_text class alphabet frame reference first position s) ≡ s.length
  read_length = omega (arith, length_bases_text class alphabet frame reference first position s, mapped_length_lem, a.clips)

  -- a mapped base stands behind the left soft clip
  mapped_at : (i : ℕ) → i < mapped_length s.length s.clips
      → get_or (bases_text class alphabet frame reference first position s) (s.clips.left_soft + i) 0
      ≡ get_or (mapped_bases class alphabet frame reference first position (mapped_length s.length s.clips) s.edits s.edits_at) i 0
  unfolding bases_text
  mapped_at i h =
      let left = letters_at alphabet frame s.soft_at s.clips.left_soft in
      let mapped = mapped_bases class alphabet frame reference first position (mapped_length s.length s.clips) s.edits s.edits_at in
      let right = letters_at alphabet frame (s.soft_at + s.clips.left_soft) s.clips.right_soft in
      let n = length_letters alphabet frame s.soft_at s.clips.left_soft in
      let k : s.clips.left_soft + i - length left ≡ i = omega arith in
      get_or-append (left ++ mapped) right 0 (s.clips.left_soft + i) (omega (arith, length-append left mapped, mapped_length_lem))
      ∙ get_d_back left mapped (s.clips.left_soft + i) (omega arith)
      ∙ rw k

  -- a base under a match is the reference's base at its position, or N where the reference is not lent there
  pub base_under_match : (i at : ℕ) → UnderMatch (mapped_length s.length s.clips) (beginning position) (edit_list_at class alphabet frame s.edits s.edits_at) i at
      → get_or (bases_text class alphabet frame reference first position s) (s.clips.left_soft + i) 0 ≡ base_at alphabet reference first at
  base_under_match i at u =
      let es = edit_list_at class alphabet frame s.edits s.edits_at in
      mapped_at i (under_most (mapped_length s.length s.clips) (size_of alphabet) (beginning position) es i at a.edits u)
      ∙ rw sub-zero at (match_at alphabet reference first (mapped_length s.length s.clips) (beginning position) es i at a.edits u)

  -- a substituted or inserted base is the letter that its edit brings
  pub base_of_edit : (i : ℕ) (d : Edit) → OfEdit (edit_list_at class alphabet frame s.edits s.edits_at) i d
      → get_or (bases_text class alphabet frame reference first position s) (s.clips.left_soft + i) 0 ≡ letter_of alphabet d.symbol
  base_of_edit i d u =
      let es = edit_list_at class alphabet frame s.edits s.edits_at in
      mapped_at i (edit_below (mapped_length s.length s.clips) (size_of alphabet) 0 es i d a.edits u)
      ∙ rw sub-zero at (edit_at_lem alphabet reference first (mapped_length s.length s.clips) (beginning position) es i d a.edits u)

  -- and there is no other mapped base
  pub base_from : (i : ℕ) → i < mapped_length s.length s.clips
      → ((at : ℕ) × UnderMatch (mapped_length s.length s.clips) (beginning position) (edit_list_at class alphabet frame s.edits s.edits_at) i at) ⊎ ((d : Edit) × OfEdit (edit_list_at class alphabet frame s.edits s.edits_at) i d)
  base_from i h = from_somewhere (mapped_length s.length s.clips) (size_of alphabet) (beginning position) (edit_list_at class alphabet frame s.edits s.edits_at) i a.edits (omega arith) h
