-- `front::reference_line::lay_bases` meets its contract. The loop's invariant: to store the bases that are left, from here, gives what storing all gives. Assumes nothing.
use Prim.Native.Nat.{◌+◌, ◌-◌}
use lib.ListN.{drop}
use Rattle.frame.specs.Hex.{unhex}
use Rattle.frame.proofs.StoreLaws.{Left}
use Rattle.front.proofs.reference_line.lay_bases.Given as goal

abbrev pub invariant-loop-i : goal.invariant-loop-i
invariant-loop-i l = Left l.reference (l.used + l.i - 1) (drop l.i (unhex l.line)) l.initial.reference l.used (drop 1 (unhex l.line))
