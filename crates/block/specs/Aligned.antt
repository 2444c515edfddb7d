-- An aligned block (document 01, Lines: blocks): its fields left to right, each refused when it is complete.
--
-- field, in order                                      read by                               refused by (2 wherever the frame ends within it)
-- read length u16                                      Head.head_at, Checked.length_at       8
-- rcomp                                                Head.from_rcomp, Checked.rcomp_at     11
-- I, HM: number of pieces                              Head.from_pieces, Checked.number_at   8
-- I, HM: their lengths u16 each                        Head.from_pieces, Checked.lengths_at  8, each for 0, and once all are read
-- I, HM: no field, but Table 62's symbols              Head.splice_steps, Table62            5, 6, 7, piece by piece
-- I, HM: left soft, left hard, right soft, right hard  from_clips, Clips.clips_at            9, once all four are read
-- I, HM: soft-clipped bases, left then right           from_soft, Symbols.symbol_run         10
-- all but P: edit count u16                            from_edits, Checked.count_at          11
-- the edits                                            edits_tallied, Check.edits_refusal    11, 10, 12, edit by edit
-- no field, but all edits together                     edits_tallied, Flanks.flank_refusal   12, of a deletion with no match or substitution before it, or none behind it
-- then, in Segment.placed: 13 (Place), 10 of the reference (bases)
-- Assumes nothing.
use Rattle.std.specs.Prelude.{ℕ, ◌+◌, ◌*◌, cond, List, ltb, eqb, Ok, Err}
use Rattle.refusal.specs.Answers.{OrRefused, after_ok}
use Rattle.frame.specs.Field.{after_field}
use Rattle.unit.specs.Unit.{class_p, class_i}
use Rattle.edits.specs.declared.Clips.{Clips}
use Rattle.edits.specs.declared.Block.{Block}
use Rattle.edits.specs.Lengths.{no_clips, soft_bases, mapped_length}
use Rattle.edits.specs.Edits.{width_of}
use Rattle.splices.specs.declared.Splices.{Splices}
use Rattle.ecigar.specs.Check.{check_of}
use Rattle.ecigar.specs.Ecigar.{clips_length}
use Rattle.block.specs.Checked.{count_at}
use Rattle.block.specs.Clips.{clips_at}
use Rattle.block.specs.Symbols.{symbol_run}
use Rattle.block.specs.declared.head.BlockHead.{BlockHead}
use Rattle.block.specs.declared.aligned.AlignedBlock.{AlignedBlock}

abbrev pub block_of : (length rcomp : ℕ) → Clips → (softAt edits editsAt : ℕ) → Block
block_of length rcomp clips softAt edits editsAt =
    record { length = length; rcomp = rcomp; clips = clips; soft_at = softAt; edits = edits; edits_at = editsAt }

-- the place behind a block: its edits stand last
abbrev pub block_end : (class : ℕ) → Block → ℕ
block_end class s = s.edits_at + s.edits * width_of class

-- a whole block, by what its edits come to: positions taken, and the E-CIGAR's length with its clips
abbrev pub block_whole : (class : ℕ) → Block → Splices → (taken text : ℕ) → AlignedBlock
block_whole class s splices taken text =
    record { block = s; splices = splices; taken = taken; text = text + clips_length s.clips; next = record { at = block_end class s } }

-- the edits, one by one
unfoldable pub edits_tallied : (class alphabet : ℕ) (frame : List ℕ) → Block → Splices → OrRefused AlignedBlock
edits_tallied class alphabet frame s splices =
    after_ok (check_of class alphabet frame s.edits_at s.edits (mapped_length s.length s.clips)) (λ e. Ok (block_whole class s splices e.taken e.text))

-- in all but P an edit count and the edits
unfoldable pub from_edits : (class alphabet : ℕ) (frame : List ℕ) (length rcomp : ℕ) → Splices → Clips → (softAt at : ℕ) → OrRefused AlignedBlock
from_edits class alphabet frame length rcomp splices c softAt at =
    cond (eqb class class_p) (edits_tallied class alphabet frame (block_of length rcomp c softAt 0 at) splices)
    (after_field Err (count_at frame at) (λ count next. edits_tallied class alphabet frame (block_of length rcomp c softAt count next.at) splices))

-- the soft-clipped bases, left then right, one index a byte
unfoldable pub from_soft : (class alphabet : ℕ) (frame : List ℕ) (length rcomp : ℕ) → Splices → Clips → (at : ℕ) → OrRefused AlignedBlock
from_soft class alphabet frame length rcomp splices c at =
    after_field Err (symbol_run alphabet frame (soft_bases c) at) (λ count next. from_edits class alphabet frame length rcomp splices c at next.at)

-- in I and HM the clips and the soft-clipped bases
unfoldable pub from_clips : (class alphabet : ℕ) (frame : List ℕ) (length rcomp : ℕ) → Splices → (at : ℕ) → OrRefused AlignedBlock
from_clips class alphabet frame length rcomp splices at =
    cond (ltb class class_i) (from_edits class alphabet frame length rcomp splices no_clips at at)
    (after_ok (clips_at frame length splices at) (λ read. from_soft class alphabet frame length rcomp splices read.1 read.0.at))

-- behind its head, by the class
unfoldable pub aligned_at : (class alphabet : ℕ) (frame : List ℕ) → BlockHead → OrRefused AlignedBlock
aligned_at class alphabet frame head = from_clips class alphabet frame head.length head.rcomp head.splices head.next.at
