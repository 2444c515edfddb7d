-- `probe::text::probe_sum` meets its contract. The loop's invariant: the first i fields are summed. Assumes nothing.
use Rattle.std.proofs.Common.{◌≡◌}
use Rattle.frame.specs.Hex.{unhex}
use Rattle.probe.specs.Text.{sum_to}
use Rattle.probe.proofs.text.probe_sum.Given as goal

abbrev pub invariant-loop-i : goal.invariant-loop-i
invariant-loop-i l = l.sum ≡ sum_to l.i (unhex l.line)
