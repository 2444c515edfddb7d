-- `edits::piece::count_before` meets its contract. The loop's invariant: those that were passed over and those that are still before the offset are all of them. Assumes nothing.
use Prim.Native.Nat.{ℕ, ◌+◌, ◌-◌, ◌*◌, ◌≤◌}
use mathlib.Core.Path.{◌≡◌}
use lib.ListN.{length}
use Rattle.edits.specs.Edits.{width_of, edit_list_at}
use Rattle.edits.specs.Pieces.{edits_before}
use Rattle.edits.proofs.piece.count_before.Given as goal

abbrev pub invariant-loop-before : goal.invariant-loop-before
invariant-loop-before l =
    (l.here + (l.count - l.before) * width_of l.class ≤ length l.frame)
    × ((alphabet : ℕ) → l.before + length (edits_before l.offset (edit_list_at l.class alphabet l.frame (l.count - l.before) l.here)) ≡ length (edits_before l.offset (edit_list_at l.class alphabet l.frame l.count l.at)))
