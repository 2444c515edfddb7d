-- `segment::write::write_aligned` meets its contract: the head, the bases, the E-CIGAR's length and the E-CIGAR, each right behind the last. Assumes nothing.
use native.Mathlib.Omega.{arith}
use lib.ListN.{length-append}
use Rattle.frame.proofs.HexLaws.{length_be}
use Rattle.writing.proofs.LayLaws.{laid_as, laid_then}
use Rattle.segment.specs.Segment.{aligned_bytes}
use Rattle.segment.proofs.WriteLaws.{room_for_next}
use Rattle.segment.proofs.write.write_aligned.Goals as goal

pub put_bytes-a-requires : goal.put_bytes-a-requires
unfolding aligned_bytes
put_bytes-a-requires c =
    let h = simp (length-append, length_be) at c.requires.p_in_bounds in
    rw c.head-fields.ensures (simp (length-append, length_be) (omega arith))

pub put_read-b-requires : goal.put_read-b-requires
unfolding aligned_bytes
put_read-b-requires c =
    let g = c.requires.ready_aligned in
    record { ready_aligned = g; p_in_bounds = room_for_next _ (laid_as c.head-fields.ensures c.put_bytes-a.ensures) c.requires.p_in_bounds (simp (length-append, length_be) (omega arith)) }

pub put_u16-c-requires : goal.put_u16-c-requires
unfolding aligned_bytes
put_u16-c-requires c =
    room_for_next 2 (laid_then (laid_as c.head-fields.ensures c.put_bytes-a.ensures) c.put_read-b.ensures) c.requires.p_in_bounds
    (simp (length-append, length_be) (omega arith))

pub put_text-requires : goal.put_text-requires
unfolding aligned_bytes
put_text-requires c =
    let g = c.requires.ready_aligned in
    let l = laid_then (laid_then (laid_as c.head-fields.ensures c.put_bytes-a.ensures) c.put_read-b.ensures) c.put_u16-c.ensures in
    record { ready_aligned = g; p_in_bounds = room_for_next _ l c.requires.p_in_bounds (simp (length-append, length_be) (omega arith)) }

pub returns : goal.returns
unfolding aligned_bytes
returns c =
    let g = c.requires.ready_aligned in
    rw (← g.text)
    (laid_then (laid_then (laid_then (laid_as c.head-fields.ensures c.put_bytes-a.ensures) c.put_read-b.ensures) c.put_u16-c.ensures) c.put_text.ensures)
