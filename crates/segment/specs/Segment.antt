-- A segment of a record: what is refused of it, and the bytes that list it (document 01, The listing and Order).
-- Assumes nothing.
use Rattle.std.specs.Prelude.{ℕ, ◌+◌, List, [], ◌++◌, length, Ok}
use Rattle.refusal.specs.Answers.{OrRefused, after_ok, checked}
use Rattle.frame.specs.declared.field.Cursor.{Cursor}
use Rattle.frame.specs.Hex.{be}
use Rattle.unit.specs.declared.Unit.{Unit}
use Rattle.edits.specs.declared.edit.Edit.{Edit}
use Rattle.edits.specs.Edits.{block_edits}
use Rattle.edits.specs.Pieces.{Piece}
use Rattle.splices.specs.Located.{lengths_in, pieces_in}
use Rattle.tables.specs.Table92.{ecigar_string, offsets_of, letters_in, types_of}
use Rattle.tables.specs.Table94.{spliced_ecigar_string, spliced_segs_from}
use Rattle.ecigar.specs.Spliced.{read_text}
use Rattle.bases.specs.Bases.{letters_at}
use Rattle.bases.specs.Spliced.{read_bases}
use Rattle.pieces.specs.Placed.{pieces_refusal}
use Rattle.block.specs.Aligned.{aligned_at}
use Rattle.block.specs.Unaligned.{unaligned_at}
use Rattle.block.specs.declared.head.BlockHead.{BlockHead}
use Rattle.block.specs.declared.aligned.AlignedBlock.{AlignedBlock}
use Rattle.block.specs.declared.unaligned.UnalignedBlock.{UnalignedBlock}
use Rattle.segment.specs.declared.Placed.{Placed}
use Rattle.segment.specs.declared.Segment.{Segment}
use Rattle.segment.specs.declared.Segment.TheVariants.{Aligned, Unaligned, Absent}

-- ---- what is refused

-- the pieces of a block at a position: one, unless it is a read over introns
abbrev pub block_pieces : Unit → (symbols frame : List ℕ) (position : ℕ) → AlignedBlock → List Piece
block_pieces u symbols frame position a = pieces_in u.class u.alphabet frame symbols a.block a.splices position

-- how long its E-CIGAR is
abbrev pub text_length : Unit → (symbols frame : List ℕ) (position : ℕ) → AlignedBlock → ℕ
text_length u symbols frame position a = length (read_text u.alphabet a.block.rcomp a.block.clips (block_pieces u symbols frame position a))

-- what the record has of it
abbrev pub placement : Unit → (symbols frame : List ℕ) (position : ℕ) → AlignedBlock → Placed
placement u symbols frame position a = record { block = a.block; splices = a.splices; position = position; text = text_length u symbols frame position a }

abbrev pub placed_segment : Unit → (symbols frame : List ℕ) (position : ℕ) → AlignedBlock → Segment
placed_segment u symbols frame position a = Aligned (placement u symbols frame position a)

-- after each aligned segment, whose deletions are all flanked by now (12), piece by piece, 13, then 10 for the reference
unfoldable pub placed : Unit → (reference symbols frame : List ℕ) (position : ℕ) → AlignedBlock → OrRefused (Segment × Cursor)
placed u reference symbols frame position a =
    checked (pieces_refusal u reference 0 (block_pieces u symbols frame position a)) (Ok (placed_segment u symbols frame position a, a.next))

-- an aligned segment of the unit, behind the head of its block, and the place behind the block; a block's refusal is the segment's
unfoldable pub placed_at : Unit → (reference symbols frame : List ℕ) (position : ℕ) → BlockHead → OrRefused (Segment × Cursor)
placed_at u reference symbols frame position head =
    after_ok (aligned_at u.class u.alphabet frame head) (λ a. placed u reference symbols frame position a)

-- an unaligned segment, and the place behind its block
unfoldable pub plain_at : Unit → (frame : List ℕ) (at : ℕ) → OrRefused (Segment × Cursor)
plain_at u frame at = after_ok (unaligned_at u.alphabet frame at) (λ s. Ok (Unaligned s, s.next))

-- ---- what lists it

-- its pieces
abbrev pub pieces_at : Unit → (symbols frame : List ℕ) → Placed → List Piece
pieces_at u symbols frame p = pieces_in u.class u.alphabet frame symbols p.block p.splices p.position

-- what Table 94 takes of an aligned segment: its edits, and leftSoftClips and rightSoftClips, the letters of its soft-clipped bases
abbrev pub edits_in : Unit → (frame : List ℕ) → Placed → List Edit
edits_in u frame p = block_edits u.class u.alphabet frame p.block

abbrev pub left_soft_clips : Unit → (frame : List ℕ) → Placed → List ℕ
left_soft_clips u frame p = letters_at u.alphabet frame p.block.soft_at p.block.clips.left_soft

abbrev pub right_soft_clips : Unit → (frame : List ℕ) → Placed → List ℕ
right_soft_clips u frame p = letters_at u.alphabet frame (p.block.soft_at + p.block.clips.left_soft) p.block.clips.right_soft

-- and splicedSegLength: the lengths of its pieces, as they stand in the frame
abbrev pub lengths_of : (frame : List ℕ) → Placed → List ℕ
lengths_of frame p = lengths_in frame p.splices

-- its ecigarString
abbrev pub table94 : Unit → (symbols frame : List ℕ) → Placed → List ℕ
table94 u symbols frame p =
    spliced_ecigar_string u.class p.block.length p.block.edits
    (offsets_of (edits_in u frame p)) (letters_in u.alphabet (edits_in u frame p)) (types_of (edits_in u frame p))
    p.splices.count (spliced_segs_from p.block.rcomp 0 (lengths_of frame p) (pieces_at u symbols frame p))
    (left_soft_clips u frame p) (right_soft_clips u frame p) p.block.clips.left_hard p.block.clips.right_hard

-- of a read in one piece, ecigarString of Table 92
abbrev pub table92 : Unit → (frame : List ℕ) → Placed → List ℕ
table92 u frame p =
    ecigar_string u.class p.block.length p.block.edits
    (offsets_of (edits_in u frame p)) (letters_in u.alphabet (edits_in u frame p)) (types_of (edits_in u frame p))
    (left_soft_clips u frame p) (right_soft_clips u frame p) p.block.clips.left_hard p.block.clips.right_hard

-- its bases on the forward strand (Table 43: softClips[0], the mapped bases of its pieces, softClips[1]); rcomp is passed through and turns nothing
abbrev pub bases_listed : Unit → (reference symbols frame : List ℕ) → Placed → List ℕ
bases_listed u reference symbols frame p =
    read_bases u.alphabet frame reference u.first p.block.soft_at p.block.clips.left_soft p.block.clips.right_soft (pieces_at u symbols frame p)

-- position u32, rcomp, read length u16, bases as letters, E-CIGAR length u16, E-CIGAR as ASCII
unfoldable pub aligned_bytes : Unit → (reference symbols frame : List ℕ) → Placed → List ℕ
aligned_bytes u reference symbols frame p =
    be 4 p.position
    ++ be 1 p.block.rcomp
    ++ be 2 p.block.length
    ++ bases_listed u reference symbols frame p
    ++ be 2 (length (table94 u symbols frame p))
    ++ table94 u symbols frame p

-- an unaligned segment has position 0, rcomp 0 and E-CIGAR length 0
unfoldable pub unaligned_bytes : Unit → (frame : List ℕ) → UnalignedBlock → List ℕ
unaligned_bytes u frame s =
    be 4 0 ++ be 1 0 ++ be 2 s.length ++ letters_at u.alphabet frame s.at s.length ++ be 2 0

unfoldable pub segment_bytes : Unit → (reference symbols frame : List ℕ) → Segment → List ℕ
segment_bytes u reference symbols frame (Aligned p) = aligned_bytes u reference symbols frame p
segment_bytes u reference symbols frame (Unaligned s) = unaligned_bytes u frame s
segment_bytes u reference symbols frame Absent = []
