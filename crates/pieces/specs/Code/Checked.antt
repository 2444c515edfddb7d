-- For the code, not for the reader.
-- What the check of a read's pieces answers, and what it leaves for their writing.
-- Assumes nothing.
use Rattle.std.specs.Prelude.{ℕ, ◌+◌, ◌-◌, ◌*◌, ◌^◌, ◌≤◌, ◌≡◌, false, cond, List, [], ◌∷◌, ◌++◌, eqb, length, ⊤, Ok, Err}
use Rattle.refusal.specs.Answers.{OrRefused, checked}
use Rattle.unit.specs.declared.Unit.{Unit}
use Rattle.alphabet.specs.Table35.{size_of}
use Rattle.limits.specs.Limits.{most_read, most_edits, most_splice, most_pieces}
use Rattle.edits.specs.Edits.{width_of}
use Rattle.edits.specs.Code.Runs.{substitutes_only}
use Rattle.edits.specs.Lengths.{mapped_length}
use Rattle.edits.specs.Pieces.{Piece, below_zero, begins_at, spliced_seg_mapped_length, end_of, EachPiece, Spans}
use Rattle.edits.specs.declared.Block.{Block}
use Rattle.edits.specs.declared.Run.{Run}
use Rattle.edits.proofs.PieceLaws.{PieceSound}
use Rattle.splices.specs.declared.walk.PieceWalk.{PieceWalk}
use Rattle.splices.specs.Code.Mapping.{RoomFor}
use Rattle.splices.specs.declared.Splices.{Splices}
use Rattle.splices.specs.Code.Walk.{piece_here, first_piece, pieces_left, Begun}
use Rattle.splices.proofs.WalkLaws.{CutPiece}
use Rattle.ecigar.specs.Table90.{Operation, print_all}
use Rattle.ecigar.specs.Spliced.{splice_of, splice_length, piece_operations}
use Rattle.pieces.specs.Placed.{least_behind, placed_piece, pieces_refusal}
use Rattle.pieces.specs.declared.check.PieceFound.{PieceFound}

-- ---- the text, from a piece on

-- the splice in front of a piece, by the least position that it may have; the first piece has none
unfoldable pub splice_before : (rcomp least : ℕ) → Piece → List Operation
splice_before rcomp least p = cond (eqb least 0) [] (splice_of rcomp (begins_at p + 1 - least) ∷ [])

unfoldable pub operations_behind : (alphabet rcomp least : ℕ) → List Piece → List Operation
operations_behind alphabet rcomp least [] = []
operations_behind alphabet rcomp least (p ∷ ps) = splice_before rcomp least p ++ piece_operations alphabet p ++ operations_behind alphabet rcomp (least_behind p) ps

-- how long the splice in front of a piece is
unfoldable pub splice_text : (position least : ℕ) → ℕ
splice_text position least = cond (eqb least 0) 0 (splice_length (position + 1 - least))

-- how long a piece's text is, with it
abbrev pub text_of_piece : (alphabet least : ℕ) → Piece → ℕ
text_of_piece alphabet least p = splice_text (begins_at p) least + length (print_all (piece_operations alphabet p))

-- and that of the pieces from one on
unfoldable pub text_behind : (alphabet least : ℕ) → List Piece → ℕ
text_behind alphabet least [] = 0
text_behind alphabet least (p ∷ ps) = text_of_piece alphabet least p + text_behind alphabet (least_behind p) ps

-- ---- the answers

-- a piece's bases and edits
abbrev pub run_here : PieceWalk → Run
run_here w = record { mapped = w.until; edits = w.edits; edits_at = w.edits_at }

-- of one piece: the position behind it and the length of its text, or its refusal
unfoldable pub piece_found : Unit → (reference : List ℕ) (least : ℕ) → Piece → OrRefused PieceFound
piece_found u reference least p = checked (placed_piece u reference least p) (Ok record { end = end_of p; text = text_of_piece u.alphabet least p })

-- how far an accepted piece reaches, and how long its text can be
abbrev pub Within : OrRefused PieceFound → Type 0
Within (Ok found) = (found.text ≤ 2 * most_read + 2 * most_edits + most_splice) × (found.end ≤ 2 ^ 33)
Within (Err refusal) = ⊤

-- of the pieces from one on, behind so much text: the length of it all, or the first refusal
unfoldable pub pieces_found : Unit → (reference : List ℕ) (text least : ℕ) → List Piece → OrRefused ℕ
pieces_found u reference text least ps = checked (pieces_refusal u reference least ps) (Ok (text + text_behind u.alphabet least ps))

-- ---- what the code asks for

-- a piece that stands in the frame, whose edits have a type and are accepted
pub record ReadyPiece (class alphabet : ℕ) (frame : List ℕ) (w : PieceWalk) : Type 0 where
  pub typed : substitutes_only class ≡ false
  pub few : w.edits ≤ most_edits
  pub short : w.until ≤ most_read
  pub framed : w.edits_at + w.edits * width_of class ≤ length frame
  pub sound : PieceSound (size_of alphabet) (piece_here class alphabet frame w)

-- what is known of a piece that starts where it may: its position, what it takes and how long its text is
pub record Looked (alphabet : ℕ) (p : Piece) (least position taken text : ℕ) : Type 0 where
  pub straight : below_zero p.at ≡ false
  pub is : position ≡ begins_at p
  pub far : least ≤ position
  pub takes : taken ≡ spliced_seg_mapped_length p
  pub long : text ≡ length (print_all (piece_operations alphabet p))
  pub most : text ≤ 2 * most_read + 2 * most_edits

-- the pieces from one on, up to the end of the mapped bases: they stand in the frame, and their edits have a type and are accepted
pub record Walking (class alphabet : ℕ) (frame symbols : List ℕ) (mapped : ℕ) (w : PieceWalk) : Type 0 where
  pub typed : substitutes_only class ≡ false
  pub cut : CutPiece class frame mapped w
  pub many : w.left ≤ most_pieces
  pub short : mapped ≤ most_read
  pub few : w.edits + w.behind ≤ most_edits
  pub framed : w.edits_at + (w.edits + w.behind) * width_of class ≤ length frame
  pub lengths : w.lengths_at + 2 * w.left ≤ length frame
  pub each : EachPiece (PieceSound (size_of alphabet)) (pieces_left class alphabet frame symbols mapped w)
  pub spans : Spans w.start (pieces_left class alphabet frame symbols mapped w) mapped
  pub roomy : RoomFor w.left w.mapping

-- a read whose pieces can be walked over, from its first
pub record WalkBegun (class alphabet : ℕ) (frame symbols : List ℕ) (b : Block) (s : Splices) (position : ℕ) : Type 0 where
  pub begun : Begun class frame b s
  pub least : 1 ≤ s.count
  pub walking : Walking class alphabet frame symbols (mapped_length b.length b.clips) (first_piece class frame b s position)
