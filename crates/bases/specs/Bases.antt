-- The bases of a read (10.6.1; document 01, Building a read): pointer R and pointer r over the edits, and the soft-clipped bases on both sides.
-- Assumes nothing.
use Rattle.std.specs.Prelude.{ℕ, zero, suc, ◌+◌, ◌-◌, cond, List, [], ◌∷◌, ◌++◌, eqb, get_or, ⊤}
use Rattle.refusal.specs.Answers.{OrRefused, checked}
use Rattle.alphabet.specs.Table35.{letter_of}
use Rattle.edits.specs.declared.edit.Edit.{Edit}
use Rattle.edits.specs.declared.Block.{Block}
use Rattle.edits.specs.Edits.{insertion, deletion, edit_list_at}
use Rattle.edits.specs.Lengths.{mapped_length}
use Rattle.bases.specs.declared.places.Places.{Places}
use Rattle.bases.specs.Reference.{matched_bases, match_refusal}

-- pointer R: the current position within the reference
abbrev pub R : Places → ℕ
R p = p.reference.0

-- pointer r: the current position within the mapped bases. Table 90's row (n) moves r over the left soft clip first: base r here is base left soft + r of the read
abbrev pub r : Places → ℕ
r p = p.read.0

-- both pointers
abbrev pub pointers : (atReference atRead : ℕ) → Places
pointers atReference atRead = record { reference = record { 0 = atReference }; read = record { 0 = atRead } }

-- 10.6.1 sets both to 0, "the 0 of the reference being the position of the match": here R counts from position 0 of the sequence, and begins at the segment's
abbrev pub beginning : (position : ℕ) → Places
beginning position = pointers position 0

-- ---- Table 90, row by row

-- n= : matching bases up to a place of the read; both pointers move by as many
abbrev pub past_match : (to : ℕ) → Places → Places
past_match to p = pointers (R p + (to - r p)) to

-- a letter: a substitution moves both pointers by 1
abbrev pub past_substitution : Places → Places
past_substitution p = pointers (R p + 1) (r p + 1)

-- n+ : an inserted base moves r by 1
abbrev pub past_insertion : Places → Places
past_insertion p = pointers (R p) (r p + 1)

-- n- : a deleted base moves R by 1
abbrev pub past_deletion : Places → Places
past_deletion p = pointers (R p + 1) (r p)

-- ---- an edit: the match up to its offset, and then its own row

unfoldable pub past_edit : Edit → Places → Places
past_edit e p =
    cond (eqb e.kind insertion) (past_insertion (past_match e.offset p))
    (cond (eqb e.kind deletion) (past_deletion (past_match e.offset p))
    (past_substitution (past_match e.offset p)))

-- a substitution and an insertion bring the letter of their symbol, a deletion none (Tables 40 and 41)
unfoldable pub edit_bases : (alphabet : ℕ) → Edit → List ℕ
edit_bases alphabet e = cond (eqb e.kind deletion) [] (letter_of alphabet e.symbol ∷ [])

-- ---- the edits of a segment, one after the other, and the match behind the last

-- the mapped bases, from both pointers on
unfoldable pub bases_from : (alphabet : ℕ) (reference : List ℕ) (first mapped : ℕ) → Places → List Edit → List ℕ
bases_from alphabet reference first mapped p [] = matched_bases alphabet reference first (R p) (mapped - r p)
bases_from alphabet reference first mapped p (e ∷ es) =
    matched_bases alphabet reference first (R p) (e.offset - r p)
    ++ edit_bases alphabet e
    ++ bases_from alphabet reference first mapped (past_edit e p) es

-- refusal 10 of the reference: a lent byte outside the alphabet that stands under a match
unfoldable pub refusal_from : (alphabet : ℕ) (reference : List ℕ) (first mapped : ℕ) → Places → List Edit → OrRefused ⊤
refusal_from alphabet reference first mapped p [] = match_refusal alphabet reference first (R p) (mapped - r p)
refusal_from alphabet reference first mapped p (e ∷ es) =
    checked (match_refusal alphabet reference first (R p) (e.offset - r p))
    (refusal_from alphabet reference first mapped (past_edit e p) es)

-- ---- the whole read

-- the letters of n symbols, from a place on
unfoldable pub letters_at : (alphabet : ℕ) (symbols : List ℕ) (at n : ℕ) → List ℕ
letters_at alphabet symbols at zero = []
letters_at alphabet symbols at (suc n) = letter_of alphabet (get_or symbols at 0) ∷ letters_at alphabet symbols (at + 1) n

-- refusal 10 of the reference under a segment's edits, which stand in the frame from a place on
abbrev pub reference_refusal : (class alphabet : ℕ) (frame reference : List ℕ) (first position mapped count place : ℕ) → OrRefused ⊤
reference_refusal class alphabet frame reference first position mapped count place =
    refusal_from alphabet reference first mapped (beginning position) (edit_list_at class alphabet frame count place)

-- the mapped bases of a segment
abbrev pub mapped_bases : (class alphabet : ℕ) (frame reference : List ℕ) (first position mapped count place : ℕ) → List ℕ
mapped_bases class alphabet frame reference first position mapped count place =
    bases_from alphabet reference first mapped (beginning position) (edit_list_at class alphabet frame count place)

-- the read on the forward strand (Table 43: softClips[0], the mapped bases, softClips[1]); rcomp is passed through and turns nothing
unfoldable pub bases_text : (class alphabet : ℕ) (frame reference : List ℕ) (first position : ℕ) → Block → List ℕ
bases_text class alphabet frame reference first position s =
    letters_at alphabet frame s.soft_at s.clips.left_soft
    ++ mapped_bases class alphabet frame reference first position (mapped_length s.length s.clips) s.edits s.edits_at
    ++ letters_at alphabet frame (s.soft_at + s.clips.left_soft) s.clips.right_soft
