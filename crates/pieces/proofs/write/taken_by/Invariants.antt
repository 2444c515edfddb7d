-- `pieces::write::taken_by` meets its contract. The loop's invariant: what the edits that are left add comes, from here, to what all add. Assumes nothing.
use Prim.Native.Nat.{◌+◌, ◌-◌, ◌*◌, ◌≤◌}
use mathlib.Core.Path.{◌≡◌}
use lib.ListN.{length}
use Rattle.edits.specs.Edits.{width_of, edit_list_at}
use Rattle.pieces.specs.Code.Written.{gains_of}
use Rattle.pieces.proofs.write.taken_by.Given as goal

abbrev pub invariant-loop : goal.invariant-loop
invariant-loop l =
    (l.at + (l.w.edits - l.counter) * width_of l.unit.class ≤ length l.frame)
    × (l.taken + gains_of (edit_list_at l.unit.class l.unit.alphabet l.frame (l.w.edits - l.counter) l.at) ≡ l.w.until - l.w.start + gains_of (edit_list_at l.unit.class l.unit.alphabet l.frame l.w.edits l.w.edits_at))
