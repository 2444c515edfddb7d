-- For the code, not for the reader.
-- A head that was accepted: what stands behind it is read from inside the frame, and so are the lengths of its pieces. `head_ready` (proofs/ReadyLaws) shows it of every end of its steps.
-- Assumes nothing.
use Rattle.std.specs.Prelude.{ℕ, ◌+◌, ◌*◌, ◌<◌, ◌≤◌, ◌≡◌, List, length}
use Rattle.limits.specs.Limits.{most_pieces}
use Rattle.frame.specs.Field.{big_at}
use Rattle.unit.specs.Unit.{class_i}
use Rattle.edits.specs.Lengths.{most_read}
use Rattle.edits.specs.Pieces.{sum_of}
use Rattle.splices.specs.Located.{unspliced, lengths_in}
use Rattle.splices.specs.declared.Splices.{Splices}
use Rattle.block.specs.Checked.{most_rcomp}
use Rattle.block.specs.declared.head.BlockHead.{BlockHead}

-- the lengths of a read's pieces stand inside the frame, where it has more than one
pub record LengthsFramed (frame : List ℕ) (s : Splices) : Type 0 where
  pub least : 1 ≤ s.count
  pub most : s.count ≤ most_pieces
  pub inside : 2 ≤ s.count → s.lengths_at + 2 * s.count ≤ length frame

pub record ReadyHead (class : ℕ) (frame : List ℕ) (h : BlockHead) : Type 0 where
  pub least : 1 ≤ h.length
  pub most : h.length ≤ most_read
  pub rcomp : h.rcomp ≤ most_rcomp class
  pub inside : h.next.at ≤ length frame
  pub splices : LengthsFramed frame h.splices
  pub sum : class_i ≤ class → sum_of (lengths_in frame h.splices) ≡ h.length
  pub none_zero : class_i ≤ class → (i : ℕ) → i < h.splices.count → 1 ≤ big_at 2 frame (h.splices.lengths_at + 2 * i)
  pub one_piece : class < class_i → h.splices ≡ unspliced
