-- `found::copy` is safe and ends. The measure is the number of bytes that are left. Assumes nothing.
use Rattle.std.proofs.Common.{◌≡◌, length}
use Rattle.found.proofs.copy.Given as goal

abbrev pub invariant-loop-left : goal.invariant-loop-left
invariant-loop-left l = length l.buf ≡ length l.fn.buf

abbrev pub decreases-loop-left : goal.decreases-loop-left
decreases-loop-left l = l.left
