-- `record::sized::of_line` meets its contract: the longest line's frame fits into the last array. Assumes nothing.
use native.Mathlib.Omega.{arith}
use Rattle.frame.specs.Line.{line_digits}
use Rattle.frame.proofs.LineLaws.{frame_is_line}
use borrow.Author.Rules.{rules}
use Rattle.record.proofs.sized.of_line.Goals as goal

pub within-requires : goal.within-requires
within-requires c = record { state_value = c.requires.state_value; by_index = (c.args.size, (c.requires.line_value, search rules)) }

pub within-requires-then-size-le-MIDDLE : goal.within-requires-then-size-le-MIDDLE
within-requires-then-size-le-MIDDLE c = record { state_value = c.requires.state_value; by_index = (c.args.size, (c.requires.line_value, search rules)) }

pub within-requires-2 : goal.within-requires-2
within-requires-2 c =
    record { state_value = c.requires.state_value; by_index = (c.args.size, (c.requires.line_value, omega (arith, (frame_is_line line_digits _ _ c.requires.line_value).fits))) }
