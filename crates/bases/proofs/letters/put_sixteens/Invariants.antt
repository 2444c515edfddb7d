-- `bases::letters::put_sixteens` meets its contract. The loop's invariant: to lay what is left, from here, gives what laying the whole gives. Assumes nothing.
use Prim.Native.Nat.{◌-◌}
use lib.ListN.{length}
use Rattle.writing.proofs.LayLaws.{Rest}
use Rattle.bases.specs.Bases.{letters_at}
use Rattle.bases.proofs.letters.put_sixteens.Given as goal

abbrev pub invariant-loop-symbol : goal.invariant-loop-symbol
invariant-loop-symbol l = Rest l.out l.next (letters_at l.alphabet l.symbols l.symbol-index (length l.symbols - l.symbol-index)) l.initial.out l.at (letters_at l.alphabet l.symbols 0 (length l.symbols - 0))
