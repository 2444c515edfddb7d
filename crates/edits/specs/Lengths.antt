-- A segment's length and clips (document 01, Lines and Building a read; Table 92).
-- Assumes nothing.
use Rattle.std.specs.Prelude.{ℕ, ◌+◌, ◌-◌}
use Rattle.edits.specs.declared.Clips.{Clips}
pub use Rattle.limits.specs.Limits.{most_read, most_edits, most_pieces, most_ecigar}

-- classes P, N and M have no clips
abbrev pub no_clips : Clips
no_clips = record { left_soft = 0; left_hard = 0; right_soft = 0; right_hard = 0 }

-- the soft-clipped bases of both sides
abbrev pub soft_bases : Clips → ℕ
soft_bases c = c.left_soft + c.right_soft

-- mappedLength of Table 92: the read length less both soft clips
abbrev pub mapped_length : (readLength : ℕ) → Clips → ℕ
mapped_length readLength c = readLength - soft_bases c
