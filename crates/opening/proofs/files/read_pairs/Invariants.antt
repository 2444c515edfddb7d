-- `opening::files::read_pairs` is safe. Assumes nothing.
use Rattle.std.proofs.Common.{length, ◌≡◌}
use Rattle.opening.proofs.files.read_pairs.Given as goal

abbrev pub invariant-loop-i : goal.invariant-loop-i
invariant-loop-i l = length l.buf ≡ length l.fn.buf
