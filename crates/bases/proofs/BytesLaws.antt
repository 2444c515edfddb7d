-- The laws of a read's bytes: each base is below 256, whatever the segment is.
-- Assumes nothing.
use mathlib.Core.List.{List, [], ◌∷◌, ◌++◌}
use Prim.Native.Nat.{ℕ, zero, suc, ◌+◌, ◌-◌, ◌<◌}
use lib.Dec.{eqb, lit<}
use lib.ListN.{get_or}
use Rattle.frame.specs.Hex.{Bytes}
use Rattle.frame.proofs.HexLaws.{bytes_append}
use Rattle.frame.proofs.Tests.{one_of}
use Rattle.alphabet.proofs.AlphabetLaws.{letter_byte}
use Rattle.edits.specs.Edits.{deletion}
use Rattle.edits.specs.declared.edit.Edit.{Edit}
use Rattle.bases.specs.Reference.{is_lent, base_at, matched_bases}
use Rattle.bases.specs.Bases.{R, r, past_edit, edit_bases, bases_from, letters_at}
use Rattle.bases.specs.declared.places.Places.{Places}

-- ---- letters

pub bytes_letters : (alphabet : ℕ) (symbols : List ℕ) (at n : ℕ) → Bytes (letters_at alphabet symbols at n)
unfolding letters_at Bytes
bytes_letters alphabet symbols at zero = tt
bytes_letters alphabet symbols at (suc n) = (letter_byte alphabet (get_or symbols at 0), bytes_letters alphabet symbols (at + 1) n)

-- ---- the bases of a read

base_byte : (alphabet : ℕ) (reference : List ℕ) (first position : ℕ) → base_at alphabet reference first position < 256
unfolding base_at
base_byte alphabet reference first position = one_of (λ (b : ℕ). b < 256) (is_lent reference first position) _ _ (letter_byte alphabet _) (lit< tt)

bytes_matched : (alphabet : ℕ) (reference : List ℕ) (first position n : ℕ) → Bytes (matched_bases alphabet reference first position n)
unfolding matched_bases Bytes
bytes_matched alphabet reference first position zero = tt
bytes_matched alphabet reference first position (suc n) = (base_byte alphabet reference first position, bytes_matched alphabet reference first (position + 1) n)

bytes_edit : (alphabet : ℕ) (e : Edit) → Bytes (edit_bases alphabet e)
unfolding edit_bases Bytes
bytes_edit alphabet e = one_of Bytes (eqb e.kind deletion) _ _ tt (letter_byte alphabet e.symbol, tt)

pub bytes_mapped : (alphabet : ℕ) (reference : List ℕ) (first mapped : ℕ) (p : Places) (es : List Edit) → Bytes (bases_from alphabet reference first mapped p es)
unfolding bases_from
bytes_mapped alphabet reference first mapped p [] = bytes_matched alphabet reference first (R p) (mapped - r p)
bytes_mapped alphabet reference first mapped p (e ∷ es) =
    bytes_append (matched_bases alphabet reference first (R p) (e.offset - r p) ++ edit_bases alphabet e) _
    (bytes_append (matched_bases alphabet reference first (R p) (e.offset - r p)) _ (bytes_matched alphabet reference first (R p) (e.offset - r p)) (bytes_edit alphabet e))
    (bytes_mapped alphabet reference first mapped (past_edit e p) es)
