-- `pieces::write::write_text` meets its contract. The loop's invariant: to lay the text of the pieces that are left, from here, gives what laying the whole gives. Assumes nothing.
use Prim.Native.Nat.{◌+◌, ◌-◌, ◌*◌, ◌≤◌}
use lib.ListN.{length}
use Rattle.writing.proofs.LayLaws.{Rest}
use Rattle.splices.specs.Code.Walk.{pieces_left}
use Rattle.ecigar.specs.Table90.{print_all}
use Rattle.pieces.specs.Code.Checked.{operations_behind}
use Rattle.pieces.specs.Code.Written.{Ordered}
use Rattle.pieces.proofs.WriteLaws.{OnWalk}
use Rattle.pieces.proofs.write.write_text.Given as goal

abbrev pub invariant-loop : goal.invariant-loop
invariant-loop l =
    OnWalk l.unit.class l.unit.alphabet l.frame l.symbols l.run.mapped l.w (l.end + 1 - l.counter)
    × (Ordered l.least (pieces_left l.unit.class l.unit.alphabet l.frame l.symbols l.run.mapped l.w)
    × (Rest l.out l.next (print_all (operations_behind l.unit.alphabet l.block.rcomp l.least (pieces_left l.unit.class l.unit.alphabet l.frame l.symbols l.run.mapped l.w))) l.initial.out l.at (print_all (operations_behind l.unit.alphabet l.block.rcomp 0 (pieces_left l.unit.class l.unit.alphabet l.frame l.symbols l.run.mapped l.initial.w)))
    × (l.at + 2 * length (print_all (operations_behind l.unit.alphabet l.block.rcomp 0 (pieces_left l.unit.class l.unit.alphabet l.frame l.symbols l.run.mapped l.initial.w))) ≤ length l.initial.out)))
