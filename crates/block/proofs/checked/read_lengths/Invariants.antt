-- `block::checked::read_lengths` meets its contract. The loop's invariant: to read what is left gives what reading all of them gives, and the sum has room for it. Assumes nothing.
use mathlib.Core.Path.{◌≡◌}
use Prim.Native.Nat.{◌+◌, ◌-◌, ◌*◌, ◌≤◌}
use Rattle.limits.specs.Limits.{most_pieces}
use Rattle.block.specs.Checked.{lengths_from}
use Rattle.block.proofs.checked.read_lengths.Given as goal

abbrev pub invariant-loop : goal.invariant-loop
invariant-loop l =
    (l.sum + (l.count - l.counter) * 65536 ≤ most_pieces * 65536)
    × (lengths_from l.frame l.length l.sum (l.count - l.counter) l.at.at ≡ lengths_from l.frame l.length 0 l.count l.initial.at.at)
