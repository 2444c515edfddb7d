-- `bases::lent::highest` meets its contract. The loop's invariant: the highest of what was met and of what is left is that of the whole. Assumes nothing.
use Prim.Native.Nat.{◌-◌}
use mathlib.Core.Path.{◌≡◌}
use lib.ListN.{length}
use Rattle.bases.specs.Code.Helpers.{highest}
use Rattle.bases.proofs.lent.highest.Given as goal

abbrev pub invariant-loop-symbol : goal.invariant-loop-symbol
invariant-loop-symbol l = highest l.most l.symbols l.symbol-index (length l.symbols - l.symbol-index) ≡ highest 0 l.symbols 0 (length l.symbols)
