-- `found::scan` is safe. Assumes nothing.
use Rattle.std.proofs.Common.{◌≡◌, length}
use Rattle.found.proofs.scan.Given as goal

abbrev pub invariant-loop : goal.invariant-loop
invariant-loop l = length l.buf ≡ length l.fn.buf
