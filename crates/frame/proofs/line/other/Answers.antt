-- `frame::line::other` meets its contract: a digit is outside neither of two ranges, `other_digit`. Assumes nothing.
use Rattle.std.proofs.Common.{◌∙◌}
use Rattle.frame.proofs.LineLaws.{min_cond, other_digit}
use Rattle.frame.proofs.line.other.Goals as goal

pub returns : goal.returns
returns c = c.min.ensures ∙ min_cond _ _ ∙ other_digit _ c.outside.ensures c.outside-2.ensures
