-- For the code, not for the reader.
-- What the check of a segment leaves for its writing: `placed_taken` and `plain_taken` (proofs/SegmentLaws) show it of every segment that was accepted.
-- Assumes nothing.
use Rattle.std.specs.Prelude.{ℕ, ◌+◌, ◌*◌, ◌<◌, ◌≤◌, ◌≡◌, List, length}
use Rattle.unit.specs.declared.Unit.{Unit as UnitOf}
use Rattle.unit.specs.Unit.{class_i}
use Rattle.alphabet.specs.Table35.{size_of}
use Rattle.edits.specs.Lengths.{most_read, most_edits, most_pieces, soft_bases, mapped_length}
use Rattle.edits.specs.Edits.{width_of, Sound, taken_from, block_edits}
use Rattle.edits.specs.Pieces.{sum_of, EachPiece}
use Rattle.edits.specs.declared.Block.{Block}
use Rattle.edits.proofs.PieceLaws.{NoneZero}
use Rattle.splices.specs.declared.Splices.{Splices}
use Rattle.splices.specs.Located.{unspliced, lengths_in}
use Rattle.ecigar.specs.Ecigar.{ecigar_text, OfItsClass}
use Rattle.ecigar.specs.Spliced.{ClipsLeave}
use Rattle.pieces.specs.Code.Written.{Standing, Ordered}
use Rattle.block.specs.declared.aligned.AlignedBlock.{AlignedBlock}
use Rattle.block.specs.declared.unaligned.UnalignedBlock.{UnalignedBlock}
use Rattle.segment.specs.Segment.{pieces_at, table94}
use Rattle.segment.specs.declared.Placed.{Placed}
use Rattle.segment.specs.declared.Segment.{Segment}
use Rattle.segment.specs.declared.Segment.TheVariants.{Aligned, Unaligned, Absent}

-- the pieces of a read that was accepted: where it has more than one, their lengths stand in the frame, none is 0, they add up, and the soft clips leave the first and the last a base
pub record Pieced (class alphabet : ℕ) (frame : List ℕ) (b : Block) (s : Splices) : Type 0 where
  pub rcomp : b.rcomp ≤ 2
  pub soft : soft_bases b.clips < b.length
  pub short : b.length ≤ most_read
  pub few : b.edits ≤ most_edits
  pub framed : b.edits_at + b.edits * width_of class ≤ length frame
  pub sound : Sound (mapped_length b.length b.clips) (size_of alphabet) 0 (block_edits class alphabet frame b)
  pub least : 1 ≤ s.count
  pub most : s.count ≤ most_pieces
  pub inside : 2 ≤ s.count → s.lengths_at + 2 * s.count ≤ length frame
  pub sum : class_i ≤ class → sum_of (lengths_in frame s) ≡ b.length
  pub none_zero : class_i ≤ class → NoneZero (lengths_in frame s)
  pub leave : 2 ≤ s.count → ClipsLeave b.clips.left_soft b.clips.right_soft (lengths_in frame s)
  pub plain : class < class_i → s ≡ unspliced

-- a block that was accepted: it takes the reference positions that its edits take, and its text is as long as was counted
pub record Tallied (class alphabet : ℕ) (frame : List ℕ) (a : AlignedBlock) : Type 0 where
  pub pieced : Pieced class alphabet frame a.block a.splices
  pub taken : a.taken ≡ taken_from (mapped_length a.block.length a.block.clips) 0 (block_edits class alphabet frame a.block)
  pub text : a.text ≡ length (ecigar_text class alphabet frame a.block)

-- the block is as its class has it, its soft-clipped bases and its edits stand in the frame, the edits are accepted, its pieces stand in the unit one behind the other,
-- and the length of the E-CIGAR is the text's
pub record ReadyAligned (u : UnitOf) (symbols frame : List ℕ) (p : Placed) : Type 0 where
  pub class : OfItsClass u.class p.block
  pub clipped : p.block.soft_at + soft_bases p.block.clips ≤ length frame
  pub pieced : Pieced u.class u.alphabet frame p.block p.splices
  pub standing : EachPiece Standing (pieces_at u symbols frame p)
  pub ordered : Ordered 0 (pieces_at u symbols frame p)
  pub text : p.text ≡ length (table94 u symbols frame p)

-- the symbols stand in the frame
pub record ReadyUnaligned (frame : List ℕ) (s : UnalignedBlock) : Type 0 where
  pub framed : s.at + s.length ≤ length frame

abbrev pub Ready : UnitOf → (symbols frame : List ℕ) → Segment → Type 0
Ready u symbols frame (Aligned p) = ReadyAligned u symbols frame p
Ready u symbols frame (Unaligned s) = ReadyUnaligned frame s
Ready u symbols frame Absent = Unit
