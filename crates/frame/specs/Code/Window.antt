-- For the code, not for the reader.
-- How much of a slice `line::next_line` looks at for a line's end: `next_at` (proofs/NextLaws) says that this much is enough.
-- Assumes nothing.
use Rattle.std.specs.Prelude.{cond, ℕ, ◌+◌, leb}
use Rattle.frame.specs.Line.{line_digits}

-- of n bytes
unfoldable pub window_of : ℕ → ℕ
window_of n = cond (leb n line_digits) n (line_digits + 1)
