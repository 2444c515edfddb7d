-- The laws of a listed segment's bytes: each is below 256.
-- Assumes nothing.
use mathlib.Core.List.{List, append_assoc}
use Prim.Native.Nat.{ℕ}
use lib.ListN.{length}
use Rattle.frame.specs.Hex.{Bytes, be}
use Rattle.frame.proofs.HexLaws.{bytes_be, bytes_append}
use Rattle.unit.specs.declared.Unit.{Unit}
use Rattle.tables.proofs.SplicedLaws.{bytes_read_text}
use Rattle.bases.specs.Bases.{letters_at}
use Rattle.bases.proofs.BytesLaws.{bytes_letters}
use Rattle.bases.proofs.SplicedLaws.{bytes_spliced}
use Rattle.segment.specs.Segment.{pieces_at, bases_listed, table94, aligned_bytes, unaligned_bytes, segment_bytes}
use Rattle.segment.specs.Code.Ready.{Ready, ReadyAligned}
use Rattle.block.specs.declared.unaligned.UnalignedBlock.{UnalignedBlock}
use Rattle.segment.specs.declared.Placed.{Placed}
use Rattle.segment.specs.declared.Segment.{Segment}
use Rattle.segment.specs.declared.Segment.TheVariants.{Aligned, Unaligned, Absent}
use Rattle.segment.proofs.WriteLaws.{ready_text}

bytes_aligned : (u : Unit) (reference symbols frame : List ℕ) (p : Placed) → ReadyAligned u symbols frame p → Bytes (aligned_bytes u reference symbols frame p)
unfolding aligned_bytes
bytes_aligned u reference symbols frame p r =
    simp append_assoc
    (bytes_append (be 4 p.position) _ (bytes_be 4 p.position)
    (bytes_append (be 1 p.block.rcomp) _ (bytes_be 1 p.block.rcomp)
    (bytes_append (be 2 p.block.length) _ (bytes_be 2 p.block.length)
    (bytes_append (bases_listed u reference symbols frame p) _ (bytes_spliced u.alphabet frame reference u.first p.block.soft_at p.block.clips.left_soft p.block.clips.right_soft (pieces_at u symbols frame p))
    (bytes_append (be 2 (length (table94 u symbols frame p))) _ (bytes_be 2 _)
    (rw (← ready_text r) (bytes_read_text u.alphabet p.block.rcomp p.block.clips (pieces_at u symbols frame p))))))))

bytes_unaligned : (u : Unit) (frame : List ℕ) (s : UnalignedBlock) → Bytes (unaligned_bytes u frame s)
unfolding unaligned_bytes
bytes_unaligned u frame s =
    simp append_assoc
    (bytes_append (be 4 0) _ (bytes_be 4 0)
    (bytes_append (be 1 0) _ (bytes_be 1 0)
    (bytes_append (be 2 s.length) _ (bytes_be 2 s.length)
    (bytes_append (letters_at u.alphabet frame s.at s.length) _ (bytes_letters u.alphabet frame s.at s.length)
    (bytes_be 2 0)))))

pub bytes_segment : (u : Unit) (reference symbols frame : List ℕ) (p : Segment) → Ready u symbols frame p → Bytes (segment_bytes u reference symbols frame p)
unfolding segment_bytes Bytes
bytes_segment u reference symbols frame (Aligned p) r = bytes_aligned u reference symbols frame p r
bytes_segment u reference symbols frame (Unaligned s) r = bytes_unaligned u frame s
bytes_segment u reference symbols frame Absent r = tt
