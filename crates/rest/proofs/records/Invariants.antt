-- `rest::records` meets its contract, and ends. The measure is the number of turns that are left. Assumes nothing.
use Rattle.std.proofs.Common.{◌≡◌, length}
use Rattle.opening.specs.Files.{SameFront}
use Rattle.rest.proofs.records.Given as goal

abbrev pub invariant-loop-left : goal.invariant-loop-left
invariant-loop-left l = SameFront l.fn.files l.files × (length l.lines.out.now ≡ length l.fn.lines.out.now)

abbrev pub decreases-loop-left : goal.decreases-loop-left
decreases-loop-left l = l.left
