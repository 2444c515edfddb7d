-- Each public promise admits one outcome: two answers that meet it are the same. `write` promises `Laid`: `laid_once` of writing.
-- Assumes nothing.
use mathlib.Core.Path.{◌≡◌}
use mathlib.Core.List.{List}
use Prim.Native.Nat.{ℕ}
use Rattle.frame.proofs.Unique.{once}
use Rattle.unit.specs.declared.Unit.{Unit}
use Rattle.block.specs.declared.head.BlockHead.{BlockHead}
use Rattle.segment.specs.Segment.{placed_at, plain_at}
use Rattle.segment.specs.Code.Length.{segment_length}
use Rattle.segment.specs.declared.Segment.{Segment}
use Rattle.refusal.specs.Answers.{OrRefused}
use Rattle.frame.specs.declared.field.Cursor.{Cursor}
use Rattle.segment.specs.declared.Segment.{Segment}

pub read_aligned_once : (u : Unit) (reference symbols frame : List ℕ) (position : ℕ) (h : BlockHead) {x y : OrRefused (Segment × Cursor)} → x ≡ placed_at u reference symbols frame position h → y ≡ placed_at u reference symbols frame position h → x ≡ y
read_aligned_once u reference symbols frame position h p q = once p q

pub read_unaligned_once : (u : Unit) (frame : List ℕ) (at : ℕ) {x y : OrRefused (Segment × Cursor)} → x ≡ plain_at u frame at → y ≡ plain_at u frame at → x ≡ y
read_unaligned_once u frame at p q = once p q

pub bytes_once : (p : Segment) {x y : ℕ} → x ≡ segment_length p → y ≡ segment_length p → x ≡ y
bytes_once p e f = once e f
