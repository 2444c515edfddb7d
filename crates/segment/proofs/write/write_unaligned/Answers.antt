-- `segment::write::write_unaligned` meets its contract: the head, the letters and no E-CIGAR, each right behind the last. Assumes nothing.
use native.Mathlib.Omega.{arith}
use lib.ListN.{length-append}
use Rattle.frame.proofs.HexLaws.{length_be}
use Rattle.writing.proofs.LayLaws.{laid_as, laid_then}
use Rattle.bases.proofs.ReferenceLaws.{length_letters}
use Rattle.segment.specs.Segment.{unaligned_bytes}
use Rattle.segment.proofs.WriteLaws.{room_for_next, so_many}
use Rattle.segment.proofs.write.write_unaligned.Goals as goal

pub overflow_add-end : goal.overflow_add-end
overflow_add-end c = omega (arith, c.requires.ready_unaligned.framed)

pub put_bytes-a-requires : goal.put_bytes-a-requires
unfolding unaligned_bytes
put_bytes-a-requires c =
    let h = simp (length-append, length_be) at c.requires.s_in_bounds in
    rw c.head-fields.ensures (simp (length-append, length_be) (omega arith))

pub put_letters-b-requires : goal.put_letters-b-requires
unfolding unaligned_bytes
put_letters-b-requires c =
    record { start_le_end = (omega arith, c.requires.ready_unaligned.framed); start_in_bounds = rw (so_many c.args.s.at c.args.s.length) (room_for_next _ (laid_as c.head-fields.ensures c.put_bytes-a.ensures) c.requires.s_in_bounds (simp (length-append, length_be, length_letters) (omega arith))) }

pub put_u16-requires : goal.put_u16-requires
unfolding unaligned_bytes
put_u16-requires c =
    room_for_next 2 (laid_then (laid_as c.head-fields.ensures c.put_bytes-a.ensures) (rw (so_many c.args.s.at c.args.s.length) at c.put_letters-b.ensures)) c.requires.s_in_bounds
    (simp (length-append, length_be) (omega arith))

pub returns : goal.returns
unfolding unaligned_bytes
returns c =
    laid_then (laid_then (laid_as c.head-fields.ensures c.put_bytes-a.ensures) (rw (so_many c.args.s.at c.args.s.length) at c.put_letters-b.ensures)) c.put_u16.ensures
