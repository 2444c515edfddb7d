-- `segment::write::write` meets its contract: the variant that was matched says which writer. Assumes nothing.
use Rattle.writing.proofs.LayLaws.{laid_none}
use Rattle.segment.specs.Segment.{segment_bytes}
use Rattle.segment.proofs.write.write.Goals as goal

pub write_aligned-requires : goal.write_aligned-requires
unfolding segment_bytes
write_aligned-requires c =
    let q = c.in-Aligned.is in
    let h = c.requires in
    record { ready_aligned = rw q at h.ready; p_in_bounds = rw q at h.segment_in_bounds }

pub write_unaligned-requires : goal.write_unaligned-requires
unfolding segment_bytes
write_unaligned-requires c =
    let q = c.in-Unaligned.is in
    let h = c.requires in
    record { ready_unaligned = rw q at h.ready; s_in_bounds = rw q at h.segment_in_bounds }

pub returns-in-Aligned : goal.returns-in-Aligned
unfolding segment_bytes
returns-in-Aligned c = rw c.in-Aligned.is c.write_aligned.ensures

pub returns-in-Unaligned : goal.returns-in-Unaligned
unfolding segment_bytes
returns-in-Unaligned c = rw c.in-Unaligned.is c.write_unaligned.ensures

pub returns-in-Absent : goal.returns-in-Absent
unfolding segment_bytes
returns-in-Absent c = rw c.in-Absent.is (laid_none _ _)
