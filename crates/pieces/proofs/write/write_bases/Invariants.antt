-- `pieces::write::write_bases` meets its contract. The loop's invariant: to lay the bases of the pieces that are left, from here, gives what laying the whole gives. Assumes nothing.
use Prim.Native.Nat.{◌+◌, ◌-◌, ◌*◌, ◌≤◌}
use lib.ListN.{length}
use Rattle.writing.proofs.LayLaws.{Rest}
use Rattle.splices.specs.Code.Walk.{pieces_left}
use Rattle.bases.specs.Spliced.{pieces_bases}
use Rattle.pieces.proofs.WriteLaws.{OnWalk}
use Rattle.pieces.proofs.write.write_bases.Given as goal

abbrev pub invariant-loop : goal.invariant-loop
invariant-loop l =
    OnWalk l.unit.class l.unit.alphabet l.frame l.symbols l.run.mapped l.w (l.end + 1 - l.counter)
    × (Rest l.out l.next (pieces_bases l.unit.alphabet l.reference l.unit.first (pieces_left l.unit.class l.unit.alphabet l.frame l.symbols l.run.mapped l.w)) l.initial.out l.at (pieces_bases l.unit.alphabet l.reference l.unit.first (pieces_left l.unit.class l.unit.alphabet l.frame l.symbols l.run.mapped l.initial.w))
    × (l.at + 2 * length (pieces_bases l.unit.alphabet l.reference l.unit.first (pieces_left l.unit.class l.unit.alphabet l.frame l.symbols l.run.mapped l.initial.w)) ≤ length l.initial.out))
