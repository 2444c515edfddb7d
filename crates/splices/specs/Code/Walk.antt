-- For the code, not for the reader.
-- The pieces of a read, one by one: `pieces_on`, `pieces_last` and `pieces_begin` (proofs/WalkLaws) say that these are its pieces.
-- Assumes nothing.
use Rattle.std.specs.Prelude.{ℕ, ◌+◌, ◌-◌, ◌*◌, ◌^◌, ◌<◌, ◌≤◌, cond, List, ◌∷◌, ltb, length}
use Rattle.frame.specs.Field.{big_at}
use Rattle.state.specs.Listed.{words_at}
use Rattle.edits.specs.Edits.{width_of, edit_list_at}
use Rattle.edits.specs.Pieces.{Piece, edits_before, pieces_from}
use Rattle.edits.specs.Code.Runs.{run_of}
use Rattle.edits.specs.declared.Block.{Block}
use Rattle.edits.specs.declared.Run.{Run}
use Rattle.splices.specs.declared.Splices.{Splices}
use Rattle.splices.specs.declared.mapping.Mapping.{Mapping}
use Rattle.splices.specs.declared.walk.PieceWalk.{PieceWalk}
use Rattle.splices.specs.Located.{position_in, following, positions_from, first_mapping}
use Rattle.splices.specs.Code.Mapping.{RoomFor}

-- its numbers fit 32 bits
pub record NarrowSplices (s : Splices) : Type 0 where
  pub codes : s.codes < 2 ^ 32
  pub deltas : s.deltas < 2 ^ 32
  pub places : s.places < 2 ^ 32

-- how many of a run's edits stand before an offset (the same in every alphabet)
abbrev pub edits_to : (class : ℕ) (frame : List ℕ) → Run → (offset : ℕ) → ℕ
edits_to class frame run offset = length (edits_before offset (edit_list_at class 0 frame run.edits run.edits_at))

-- ---- one by one

-- a piece that ends at `until`, with the edits before it; the last ends with the mapped bases, and has all edits that are left
unfoldable pub cut_piece : (class : ℕ) (frame : List ℕ) → Run → (left start until lengths_at : ℕ) → Mapping → PieceWalk
cut_piece class frame run left start until lengths_at m =
    cond (ltb left 2)
    (record { left = left; start = start; until = run.mapped; edits = run.edits; edits_at = run.edits_at; behind = 0; lengths_at = lengths_at; mapping = m })
    (record {
      left = left;
      start = start;
      until = until;
      edits = edits_to class frame run until;
      edits_at = run.edits_at;
      behind = run.edits - edits_to class frame run until;
      lengths_at = lengths_at;
      mapping = m;
    })

-- the first
unfoldable pub first_piece : (class : ℕ) (frame : List ℕ) → Block → Splices → (position : ℕ) → PieceWalk
first_piece class frame b s position =
    cut_piece class frame (run_of b) s.count 0 (big_at 2 frame s.lengths_at - b.clips.left_soft) s.lengths_at (first_mapping s position)

-- the run behind a piece
abbrev pub run_behind : (class mapped : ℕ) → PieceWalk → Run
run_behind class mapped w = record { mapped = mapped; edits = w.behind; edits_at = w.edits_at + w.edits * width_of class }

-- the one behind a piece
unfoldable pub next_piece : (class : ℕ) (frame symbols : List ℕ) (mapped : ℕ) → PieceWalk → PieceWalk
next_piece class frame symbols mapped w =
    cut_piece class frame (run_behind class mapped w) (w.left - 1) w.until (w.until + big_at 2 frame (w.lengths_at + 2)) (w.lengths_at + 2)
    (following symbols w.mapping (big_at 2 frame w.lengths_at))

-- a piece as it stands in the frame
abbrev pub piece_here : (class alphabet : ℕ) (frame : List ℕ) → PieceWalk → Piece
piece_here class alphabet frame w = record { at = position_in w.mapping; start = w.start; until = w.until; edits = edit_list_at class alphabet frame w.edits w.edits_at }

-- it, and those behind it
unfoldable pub pieces_left : (class alphabet : ℕ) (frame symbols : List ℕ) (mapped : ℕ) → PieceWalk → List Piece
pieces_left class alphabet frame symbols mapped w =
    pieces_from mapped w.start (edit_list_at class alphabet frame (w.edits + w.behind) w.edits_at)
    ((w.until - w.start) ∷ words_at (w.left - 1) frame (w.lengths_at + 2))
    (positions_from symbols w.mapping (words_at w.left frame w.lengths_at))

-- ---- what the code asks for

-- of a read: its lengths and edits stand in the frame, and its left soft clip leaves its first piece a base
pub record Begun (class : ℕ) (frame : List ℕ) (b : Block) (s : Splices) : Type 0 where
  pub lengths : s.lengths_at + 2 ≤ length frame
  pub clip : b.clips.left_soft ≤ big_at 2 frame s.lengths_at
  pub framed : b.edits_at + b.edits * width_of class ≤ length frame

-- of a piece that is not the last
pub record Walkable (class : ℕ) (frame : List ℕ) (w : PieceWalk) : Type 0 where
  pub more : 2 ≤ w.left
  pub lengths : w.lengths_at + 4 ≤ length frame
  pub short : w.until ≤ 65536
  pub framed : w.edits_at + (w.edits + w.behind) * width_of class ≤ length frame
  pub roomy : RoomFor 1 w.mapping
