-- `kept::keep::Keep::over` meets its contract. The loop's invariant: to read what is left, from here, gives what reading the whole piece gives. Assumes nothing.
use Prim.Native.Nat.{◌≤◌}
use mathlib.Core.Path.{◌≡◌}
use lib.ListN.{length}
use Rattle.kept.specs.Keep.{most_bytes, keep_all}
use Rattle.kept.proofs.keep.Keep.over.Given as goal

abbrev pub invariant-loop-k : goal.invariant-loop-k
invariant-loop-k l = (l.k.seen ≤ most_bytes) × (keep_all l.k l.rest ≡ keep_all l.initial.k l.piece)

abbrev pub decreases-loop-k : goal.decreases-loop-k
decreases-loop-k l = length l.rest
