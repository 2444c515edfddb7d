-- For the code, not for the reader.
-- How many bytes list a segment, known before one is laid: `placed_taken` and `plain_taken` (proofs/SegmentLaws) show that `segment_bytes` has as many.
-- Assumes nothing.
use Rattle.std.specs.Prelude.{ℕ, ◌+◌}
pub use Rattle.limits.specs.Limits.{segment_fields, most_segment_bytes}
use Rattle.segment.specs.declared.Segment.{Segment}
use Rattle.segment.specs.declared.Segment.TheVariants.{Aligned, Unaligned, Absent}

-- how many bytes list it
unfoldable pub segment_length : Segment → ℕ
segment_length (Aligned p) = segment_fields + p.block.length + p.text
segment_length (Unaligned s) = segment_fields + s.length
segment_length Absent = 0
