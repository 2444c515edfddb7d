-- `state::head::state_at` meets its contract. The loop's invariant: the indexes that are read are those of the frame. Assumes nothing.
use native.Mathlib.Omega.{arith}
use mathlib.Core.Path.{refl}
use Rattle.state.specs.Listed.{state_at}
use Rattle.state.proofs.HeadLaws.{index_start, index_more, index_all}
use Rattle.state.proofs.head.state_at.Goals as goal

pub overflow_add-number : goal.overflow_add-number
overflow_add-number c = omega (arith, c.word_at-number.ensures.1)

pub loop-j-init : goal.loop-j-init
loop-j-init c = index_start _ _ refl

pub loop-j-preserved : goal.loop-j-preserved
loop-j-preserved c = index_more _ c.loop-j.invariant (omega arith) c.word_at.ensures.0

pub returns : goal.returns
unfolding state_at
returns c = rw (index_all _ c.loop-j.invariant (omega arith), c.word_at-number.ensures.0)
