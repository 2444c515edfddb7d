-- `probe::text::probe_lay` meets its contract. The loop's invariant: to lay what is left, from here, gives what laying the whole gives. Assumes nothing.
use Rattle.writing.proofs.LayLaws.{Rest}
use Rattle.probe.specs.Text.{countdown}
use Rattle.probe.proofs.text.probe_lay.Given as goal

abbrev pub invariant-loop-left : goal.invariant-loop-left
invariant-loop-left l = Rest l.out l.at (countdown l.left) l.initial.out 0 (countdown l.fields)
