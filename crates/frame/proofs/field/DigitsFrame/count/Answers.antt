-- A line's digits are two a byte. Assumes nothing.
use Rattle.std.proofs.Common.{sym}
use Rattle.frame.proofs.HexLaws.{length_unhex}
use Rattle.frame.proofs.field.DigitsFrame.count.Goals as goal

pub returns : goal.returns
returns c = sym (length_unhex _)
