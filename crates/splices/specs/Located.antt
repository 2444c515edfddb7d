-- Where the pieces of a read lie, looked up again: its lengths stand in the frame, its symbols in the table, and what was kept is where the first of them stand.
-- `head_positions` (block, proofs/HeadLaws) says that these are the positions that Table 62 comes to when the symbols are taken.
-- Assumes nothing.
use Rattle.std.specs.Prelude.{ℕ, ◌+◌, cond, List, [], ◌∷◌, eqb, get_or}
use Rattle.state.specs.Listed.{words_at}
use Rattle.unit.specs.Pairs.{symbol_place}
use Rattle.edits.specs.Edits.{block_edits}
use Rattle.edits.specs.Lengths.{mapped_length}
use Rattle.edits.specs.Pieces.{SignedPosition, straight, onwards, Piece, pieces_of}
use Rattle.edits.specs.declared.Block.{Block}
use Rattle.splices.specs.Table62.{by_delta}
use Rattle.splices.specs.declared.Splices.{Splices}
use Rattle.splices.specs.declared.mapping.Mapping.{Mapping}

-- ---- the positions

-- symbol k of subsequence s
abbrev pub symbol_at : (symbols : List ℕ) (s k : ℕ) → ℕ
symbol_at symbols s k = get_or symbols (symbol_place s k) 0

-- a piece's position; a mapping has beside it how many symbols of subsequences 0, 1 and 3 stand before those of the next piece
abbrev pub position_in : Mapping → SignedPosition
position_in m = record { above = m.above; below = m.below }

abbrev pub mapping_of : SignedPosition → (codes deltas places : ℕ) → Mapping
mapping_of p codes deltas places = record { above = p.above; below = p.below; codes = codes; deltas = deltas; places = places }

-- that of the next piece, behind one of so many bases of the read: by a code of 0 Table 62's same_rec_short, by any other (2, when it was taken) same_rec_long
unfoldable pub following : (symbols : List ℕ) → Mapping → (length : ℕ) → Mapping
following symbols m length =
    cond (eqb (symbol_at symbols 0 m.codes) 0)
    (mapping_of (by_delta (onwards length (position_in m)) (symbol_at symbols 1 m.deltas)) (m.codes + 1) (m.deltas + 1) m.places)
    (mapping_of (straight (symbol_at symbols 3 m.places)) (m.codes + 1) m.deltas (m.places + 1))

-- those of a piece and of the pieces behind it
unfoldable pub positions_from : (symbols : List ℕ) → Mapping → (lengths : List ℕ) → List SignedPosition
positions_from symbols m [] = []
positions_from symbols m (n ∷ []) = position_in m ∷ []
positions_from symbols m (n ∷ k ∷ ns) = position_in m ∷ positions_from symbols (following symbols m n) (k ∷ ns)

-- ---- the read

-- one piece, in the classes that have no splices
abbrev pub unspliced : Splices
unspliced = record { count = 1; lengths_at = 0; codes = 0; deltas = 0; places = 0 }

-- splicedSegLength: the lengths of a read's pieces, as they stand in the frame
abbrev pub lengths_in : (frame : List ℕ) → Splices → List ℕ
lengths_in frame s = words_at s.count frame s.lengths_at

-- where its first piece maps, and where the symbols of the others stand
abbrev pub first_mapping : Splices → (position : ℕ) → Mapping
first_mapping s position = mapping_of (straight position) s.codes s.deltas s.places

-- THE PIECES OF A READ at a position, with its lengths in the frame and its symbols in the table
unfoldable pub pieces_in : (class alphabet : ℕ) (frame symbols : List ℕ) → Block → Splices → (position : ℕ) → List Piece
pieces_in class alphabet frame symbols b s position =
    pieces_of (mapped_length b.length b.clips) b.clips.left_soft (block_edits class alphabet frame b) (lengths_in frame s)
    (positions_from symbols (first_mapping s position) (lengths_in frame s))
