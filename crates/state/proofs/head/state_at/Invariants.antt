-- `state::head::state_at` meets its contract. The loop's invariant: the indexes that are read are those of the frame. Assumes nothing.
use Rattle.frame.specs.Hex.{unhex}
use Rattle.state.specs.State.{index_count}
use Rattle.state.specs.Listed.{index_place, words_at}
use Rattle.state.proofs.FillLaws.{SoFar}
use Rattle.state.proofs.head.state_at.Given as goal

abbrev pub invariant-loop-j : goal.invariant-loop-j
invariant-loop-j l = SoFar (words_at index_count (unhex l.line) index_place) l.taken-items l.j
