-- The bases of a read over introns (document 02, Wish 1): those of its pieces one after the other, and the soft-clipped bases on both sides.
-- Assumes nothing.
use Rattle.std.specs.Prelude.{ℕ, ◌+◌, List, [], ◌∷◌, ◌++◌, ⊤}
use Rattle.refusal.specs.Answers.{OrRefused}
use Rattle.edits.specs.Pieces.{Piece, begins_at}
use Rattle.bases.specs.declared.places.Places.{Places}
use Rattle.bases.specs.Bases.{pointers, bases_from, refusal_from, letters_at}

-- both pointers begin anew with each piece: R at its position, r at the mapped base that it begins with
abbrev pub piece_beginning : Piece → Places
piece_beginning p = pointers (begins_at p) p.start

-- the mapped bases of a piece, up to where the next begins
abbrev pub piece_bases : (alphabet : ℕ) (reference : List ℕ) (first : ℕ) → Piece → List ℕ
piece_bases alphabet reference first p = bases_from alphabet reference first p.until (piece_beginning p) p.edits

-- refusal 10 of the reference under a piece's matches; what lies between two pieces is an intron, and is not looked at
abbrev pub piece_refusal : (alphabet : ℕ) (reference : List ℕ) (first : ℕ) → Piece → OrRefused ⊤
piece_refusal alphabet reference first p = refusal_from alphabet reference first p.until (piece_beginning p) p.edits

-- the mapped bases of a read: an intron brings none
unfoldable pub pieces_bases : (alphabet : ℕ) (reference : List ℕ) (first : ℕ) → List Piece → List ℕ
pieces_bases alphabet reference first [] = []
pieces_bases alphabet reference first (p ∷ ps) = piece_bases alphabet reference first p ++ pieces_bases alphabet reference first ps

-- THE READ, on the forward strand as `bases_text`: the soft-clipped symbols stand from `place` on, the left ones first
unfoldable pub read_bases : (alphabet : ℕ) (symbols reference : List ℕ) (first place left right : ℕ) → List Piece → List ℕ
read_bases alphabet symbols reference first place left right pieces =
    letters_at alphabet symbols place left ++ pieces_bases alphabet reference first pieces ++ letters_at alphabet symbols (place + left) right
