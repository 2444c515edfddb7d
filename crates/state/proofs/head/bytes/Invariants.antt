-- `state::head::bytes` meets its contract. The loop's invariant: so far the bytes are those of the head. Assumes nothing.
use Prim.Native.Nat.{◌+◌, ◌*◌}
use Rattle.state.specs.Listed.{listed_head, index_place}
use Rattle.state.proofs.FillLaws.{SoFar}
use Rattle.state.proofs.head.bytes.Given as goal

abbrev pub invariant-loop-i : goal.invariant-loop-i
invariant-loop-i l = SoFar (listed_head l.number l.fn.next) l.head (index_place + 2 * l.i)
