-- `opening::files::read_reference` meets its contract, and ends. The measure is the number of bases that may still come. Assumes nothing.
use Rattle.std.proofs.Common.{length, ◌-◌, ◌≡◌, ◌≤◌}
use Rattle.unit.specs.Unit.{most_reference}
use Rattle.opening.proofs.files.read_reference.Given as goal

abbrev pub invariant-loop-line : goal.invariant-loop-line
invariant-loop-line l = record { buf : length l.buf ≡ length l.fn.buf; reference : length l.reference ≡ length l.fn.reference; fits : l.bases ≤ length l.reference }

abbrev pub decreases-loop-line : goal.decreases-loop-line
decreases-loop-line l = most_reference - l.bases
