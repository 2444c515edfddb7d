-- `pieces::check::check_pieces` meets its contract. The loop's invariant: the check of the pieces that are left, behind what was found so far, comes to what the whole comes to. Assumes nothing.
use mathlib.Core.Path.{◌≡◌}
use Prim.Native.Nat.{◌+◌, ◌*◌, ◌≤◌}
use Rattle.splices.specs.Code.Walk.{pieces_left}
use Rattle.pieces.specs.Code.Checked.{pieces_found, Walking}
use Rattle.pieces.proofs.check.check_pieces.Given as goal

abbrev pub invariant-loop-found : goal.invariant-loop-found
invariant-loop-found l =
    Walking l.unit.class l.unit.alphabet l.frame l.symbols l.run.mapped l.w × ((l.text + l.w.left * 4011 ≤ 70000)
    × (pieces_found l.unit l.reference l.text l.least (pieces_left l.unit.class l.unit.alphabet l.frame l.symbols l.run.mapped l.w)
    ≡ pieces_found l.unit l.reference l.initial.text l.initial.least (pieces_left l.unit.class l.unit.alphabet l.frame l.symbols l.run.mapped l.initial.w)))

abbrev pub decreases-loop-found : goal.decreases-loop-found
decreases-loop-found l = l.w.left
