-- What is refused of a read's pieces behind its last edit (document 02, Wish 1; decision 78): piece by piece its place in the unit (13), then the reference under its matches (10).
-- Assumes nothing.
use Rattle.std.specs.Prelude.{ℕ, ◌+◌, cond, List, [], ◌∷◌, ltb, ⊤, Err}
use Rattle.refusal.specs.Answers.{OrRefused, no_refusal, checked}
use Rattle.refusal.specs.declared.Refusal.TheVariants.{PositionOut}
use Rattle.unit.specs.declared.Unit.{Unit}
use Rattle.edits.specs.Pieces.{Piece, below_zero, begins_at, spliced_seg_mapped_length, end_of}
use Rattle.bases.specs.Spliced.{piece_refusal}
use Rattle.pieces.specs.Place.{place_refusal}

-- 13: it would start below 0; or before the least position that it may have, so that the splice in front of it would count 0 or less; or it does not lie inside the unit
unfoldable pub piece_out : Unit → (least : ℕ) → Piece → OrRefused ⊤
piece_out u least p =
    cond (below_zero p.at) (Err PositionOut)
    (cond (ltb (begins_at p) least) (Err PositionOut)
    (place_refusal u.start u.end (begins_at p) (spliced_seg_mapped_length p)))

-- 13, then 10 for the reference
abbrev pub placed_piece : Unit → (reference : List ℕ) (least : ℕ) → Piece → OrRefused ⊤
placed_piece u reference least p = checked (piece_out u least p) (piece_refusal u.alphabet reference u.first p)

-- the next piece begins at least one position behind the end of the one before it: a splice counts 1 or more
abbrev pub least_behind : Piece → ℕ
least_behind p = end_of p + 1

-- piece by piece, so that a bad reference byte under the first is told before a second that is misplaced; the first may begin anywhere
unfoldable pub pieces_refusal : Unit → (reference : List ℕ) (least : ℕ) → List Piece → OrRefused ⊤
pieces_refusal u reference least [] = no_refusal
pieces_refusal u reference least (p ∷ ps) = checked (placed_piece u reference least p) (pieces_refusal u reference (least_behind p) ps)
