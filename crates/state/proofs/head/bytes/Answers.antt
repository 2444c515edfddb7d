-- `state::head::bytes` meets its contract. The loop's invariant: so far the bytes are those of the head. Assumes nothing.
use native.Mathlib.Omega.{arith}
use mathlib.Core.Path.{refl}
use lib.ListN.{replicate}
use Rattle.state.specs.State.{Shaped}
use Rattle.state.specs.Listed.{head_bytes}
use Rattle.state.proofs.FillLaws.{fill_all}
use Rattle.state.proofs.ListedLaws.{length_head, head_start, head_more}
use borrow.Author.Rules.{rules}
use Rattle.state.proofs.head.bytes.Goals as goal

pub loop-i-init : goal.loop-i-init
loop-i-init c = rw c.to_be_bytes.ensures (head_start _ _ (search rules) (replicate head_bytes 0) refl)

pub loop-i-preserved : goal.loop-i-preserved
loop-i-preserved c = let all : Shaped c.args.next = search rules in rw c.to_be_bytes-in-loop-i.ensures (head_more _ _ all c.loop-i.invariant (omega arith))

pub returns : goal.returns
returns c = let all : Shaped c.args.next = search rules in fill_all c.loop-i.invariant (omega (arith, length_head c.args.number c.args.next all))
