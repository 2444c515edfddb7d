-- `frame::line::has_other` meets its contract. The loop's invariant: what is left has all digits, and none was found that is none, just when the whole has. Assumes nothing.
use Rattle.std.proofs.Common.{◌≡◌, length}
use Rattle.frame.specs.Hex.{all_digits}
use Rattle.frame.proofs.LineLaws.{scanned}
use Rattle.frame.proofs.line.has_other.Given as goal

abbrev pub invariant-loop-d : goal.invariant-loop-d
invariant-loop-d l = scanned l.found l.d-items (length l.d-items) l.d-index ≡ all_digits l.d-items
