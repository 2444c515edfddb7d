-- `ecigar::check::walk_edits` meets its contract. The loop's invariant: the walk over the edits that are left, from here, comes to what the whole comes to. Assumes nothing.
use Prim.Native.Nat.{◌-◌}
use mathlib.Core.Path.{◌≡◌}
use Rattle.edits.specs.declared.flank.Flank.TheVariants.{Before}
use Rattle.ecigar.proofs.CheckLaws.{TallyWithin}
use Rattle.ecigar.specs.Code.Tally.{start_tally_at, walked}
use Rattle.ecigar.proofs.check.walk_edits.Given as goal

abbrev pub invariant-loop : goal.invariant-loop
invariant-loop l =
    TallyWithin l.run.mapped l.run.edits (l.run.edits - l.counter) l.t
    × (walked l.class l.alphabet l.frame l.run.mapped (l.run.edits - l.counter) l.at l.t l.flank ≡ walked l.class l.alphabet l.frame l.run.mapped l.run.edits l.run.edits_at (start_tally_at l.from) Before)
