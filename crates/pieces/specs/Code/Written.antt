-- For the code, not for the reader.
-- What the writing of a read's pieces asks for, and what an edit adds to the reference positions that its piece takes.
-- Assumes nothing.
use Rattle.std.specs.Prelude.{ℕ, ◌+◌, ◌^◌, ◌<◌, ◌≤◌, ◌≡◌, false, cond, List, [], ◌∷◌, ◌++◌, eqb}
use Rattle.edits.specs.Edits.{insertion, deletion}
use Rattle.edits.specs.Pieces.{Piece, below_zero, begins_at}
use Rattle.edits.specs.declared.edit.Edit.{Edit}
use Rattle.ecigar.specs.Table90.{Operation}
use Rattle.ecigar.specs.Spliced.{piece_operations}
use Rattle.pieces.specs.Placed.{least_behind}
use Rattle.pieces.specs.Code.Checked.{splice_before}

-- ---- what the code asks for

-- a piece has a position, of 32 bits
abbrev pub Standing : Piece → Type 0
Standing p = (below_zero p.at ≡ false) × (begins_at p < 2 ^ 32)

-- each piece begins at the least position that it may have, or behind it
unfoldable pub Ordered : (least : ℕ) → List Piece → Type 0
Ordered least [] = Unit
Ordered least (p ∷ ps) = (least ≤ begins_at p) × Ordered (least_behind p) ps

-- ---- a piece's text, with the splice in front of it

abbrev pub operations_of_piece : (alphabet rcomp least : ℕ) → Piece → List Operation
operations_of_piece alphabet rcomp least p = splice_before rcomp least p ++ piece_operations alphabet p

-- ---- how far a piece reaches

-- the reference position that an edit takes less the base that it brings, and one more: an insertion takes none, and a deletion brings none
unfoldable pub gain_of : Edit → ℕ
gain_of e = cond (eqb e.kind insertion) 0 (cond (eqb e.kind deletion) 2 1)

-- of all edits
unfoldable pub gains_of : List Edit → ℕ
gains_of [] = 0
gains_of (e ∷ es) = gain_of e + gains_of es
