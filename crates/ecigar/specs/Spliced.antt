-- The text of a read over introns: Table 93's for each piece, a splice between two, and the clips around. Nobody need read this beside the standard:
-- `read_is_table94` (tables, proofs/Table94Laws) says that it is Table 94's for every read that is accepted, and `read_one` (tables, proofs/SplicedLaws) that a read in one
-- piece has the text that it has without splices.
-- Assumes nothing.
use Rattle.std.specs.Prelude.{ℕ, ◌+◌, ◌-◌, ◌<◌, cond, List, [], ◌∷◌, ◌++◌, eqb, length}
use Rattle.writing.specs.Decimal.{decimal}
use Rattle.edits.specs.Pieces.{Piece, begins_at, end_of, last_length}
use Rattle.edits.specs.declared.Clips.{Clips}
use Rattle.ecigar.specs.Table90.{Operation, spliced_undirected, spliced_forward, spliced_reverse, print_all}
use Rattle.ecigar.specs.Ecigar.{set_out_at, operations_from, left_clip, right_clip}

-- a splice of so many positions, by the read's strand: forward for 0, reverse for 1, undirected for 2 (Table 94)
unfoldable pub splice_of : (rcomp n : ℕ) → Operation
splice_of rcomp n = cond (eqb rcomp 0) (spliced_forward n) (cond (eqb rcomp 1) (spliced_reverse n) (spliced_undirected n))

-- its count and its sign, whatever the sign is
abbrev pub splice_length : (n : ℕ) → ℕ
splice_length n = length (decimal n) + 1

-- the operations of one piece: its walk begins at its first base and ends behind its last
abbrev pub piece_operations : (alphabet : ℕ) → Piece → List Operation
piece_operations alphabet p = operations_from alphabet p.until (set_out_at p.start) p.edits

-- the pieces behind one that ends at this position: each with the splice in front of it, which counts the positions from the end of the piece before it
unfoldable pub splices_from : (alphabet rcomp end : ℕ) → List Piece → List Operation
splices_from alphabet rcomp end [] = []
splices_from alphabet rcomp end (p ∷ ps) = splice_of rcomp (begins_at p - end) ∷ [] ++ piece_operations alphabet p ++ splices_from alphabet rcomp (end_of p) ps

-- the operations of all pieces, without clips
unfoldable pub pieces_operations : (alphabet rcomp : ℕ) → List Piece → List Operation
pieces_operations alphabet rcomp [] = []
pieces_operations alphabet rcomp (p ∷ ps) = piece_operations alphabet p ++ splices_from alphabet rcomp (end_of p) ps

-- the operations of a read: left clip, pieces, right clip
unfoldable pub read_operations : (alphabet rcomp : ℕ) → Clips → List Piece → List Operation
read_operations alphabet rcomp clips ps = left_clip clips ++ pieces_operations alphabet rcomp ps ++ right_clip clips

-- THE TEXT OF A READ
unfoldable pub read_text : (alphabet rcomp : ℕ) → Clips → List Piece → List ℕ
read_text alphabet rcomp clips ps = print_all (read_operations alphabet rcomp clips ps)

-- ---- what is known of the pieces

-- refusal 9 (decision 77): both soft clips leave a read in one piece a base; else the left one the first piece, and the right one the last
unfoldable pub ClipsLeave : (leftSoft rightSoft : ℕ) (lengths : List ℕ) → Type 0
ClipsLeave leftSoft rightSoft [] = ⊥
ClipsLeave leftSoft rightSoft (n ∷ []) = leftSoft + rightSoft < n
ClipsLeave leftSoft rightSoft (n ∷ m ∷ ns) = (leftSoft < n) × (rightSoft < last_length (m ∷ ns))

-- each piece begins behind the end of the one before it, so that no splice counts 0 (decision 78: refusal 13 otherwise)
unfoldable pub Apart : (end : ℕ) → List Piece → Type 0
Apart end [] = Unit
Apart end (p ∷ ps) = (end < begins_at p) × Apart (end_of p) ps

-- the last piece
unfoldable pub last_piece : Piece → List Piece → Piece
last_piece p [] = p
last_piece p (q ∷ ps) = last_piece q ps

-- the edits of all pieces, counted
unfoldable pub pieces_edits : List Piece → ℕ
pieces_edits [] = 0
pieces_edits (p ∷ ps) = length p.edits + pieces_edits ps
