-- For the code, not for the reader.
-- A segment of one piece, as the code looks at it: `one-refusal` (proofs/OneLaws) says that this is what is refused of its only piece.
-- Assumes nothing.
use Rattle.std.specs.Prelude.{ℕ, List, ⊤}
use Rattle.refusal.specs.Answers.{OrRefused}
use Rattle.frame.specs.declared.field.Cursor.{Cursor}
use Rattle.unit.specs.declared.Unit.{Unit}
use Rattle.edits.specs.declared.Block.{Block}
use Rattle.edits.specs.Lengths.{mapped_length}
use Rattle.bases.specs.Bases.{reference_refusal}
use Rattle.block.specs.declared.aligned.AlignedBlock.{AlignedBlock}
use Rattle.segment.specs.declared.Segment.TheVariants.{Aligned}
use Rattle.segment.specs.declared.Segment.{Segment}

-- refusal 10 for the reference, under the matches of a segment
abbrev pub under_matches : Unit → (reference frame : List ℕ) (position : ℕ) → Block → OrRefused ⊤
under_matches u reference frame position s =
    reference_refusal u.class u.alphabet frame reference u.first position (mapped_length s.length s.clips) s.edits s.edits_at

-- a segment at its position, with the length of its E-CIGAR
abbrev pub whole_at : AlignedBlock → (position text : ℕ) → Segment × Cursor
whole_at a position text = (Aligned record { block = a.block; splices = a.splices; position = position; text = text }, a.next)
