-- `bases::lent::put_padding` meets its contract. The loop's invariant: to lay what is left, from here, gives what laying the whole gives. Assumes nothing.
use Prim.Native.Nat.{◌-◌}
use lib.ListN.{replicate}
use Rattle.alphabet.specs.Table35.{letter_n}
use Rattle.writing.proofs.LayLaws.{Rest}
use Rattle.bases.proofs.lent.put_padding.Given as goal

abbrev pub invariant-loop : goal.invariant-loop
invariant-loop l = Rest l.out l.next (replicate (l.count - l.counter) letter_n) l.initial.out l.at (replicate l.count letter_n)
