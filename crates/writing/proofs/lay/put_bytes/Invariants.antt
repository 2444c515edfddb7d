-- `writing::lay::put_bytes` meets its contract. The loop's invariant: to lay what is left, from here, gives what laying the whole gives. Assumes nothing.
use Rattle.std.proofs.Common.{drop}
use Rattle.writing.proofs.LayLaws.{Rest}
use Rattle.writing.proofs.lay.put_bytes.Given as goal

abbrev pub invariant-loop-b : goal.invariant-loop-b
invariant-loop-b l = Rest l.out l.next (drop l.b-index l.bytes) l.initial.out l.at l.bytes
