-- `segment::Part::bytes` meets its contract: the variant that was matched says the sum. Assumes nothing.
use Rattle.segment.specs.Code.Length.{segment_length}
use Rattle.segment.proofs.Segment.bytes.Goals as goal

pub returns-in-Aligned : goal.returns-in-Aligned
unfolding segment_length
returns-in-Aligned c = rw c.in-Aligned.is

pub returns-in-Unaligned : goal.returns-in-Unaligned
unfolding segment_length
returns-in-Unaligned c = rw c.in-Unaligned.is

pub returns-in-Absent : goal.returns-in-Absent
unfolding segment_length
returns-in-Absent c = rw c.in-Absent.is
