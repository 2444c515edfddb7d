-- `ecigar::check::check_substitutions` meets its contract. The loop's invariant: there is a tally that has come so far, and from it the check of the edits that are left comes to what the whole comes to. Assumes nothing.
use Prim.Native.Nat.{◌-◌}
use Rattle.ecigar.specs.Check.{piece_checked}
use Rattle.ecigar.proofs.SubstitutionLaws.{SubstitutionsChecked}
use Rattle.ecigar.proofs.check.check_substitutions.Given as goal

abbrev pub invariant-loop : goal.invariant-loop
invariant-loop l =
    SubstitutionsChecked l.class l.alphabet l.frame l.run.mapped (l.run.edits - l.counter) l.at l.next l.text (piece_checked l.class l.alphabet l.frame 0 l.run.edits_at l.run.edits l.run.mapped)
