-- `bases::letters::put_fives` meets its contract. The loop's invariant: to lay what is left, from here, gives what laying the whole gives. Assumes nothing.
use native.Mathlib.Nat.{sub-zero}
use native.Mathlib.Omega.{arith}
use Rattle.writing.proofs.LayLaws.{rest_start, rest_done}
use Rattle.bases.proofs.ReferenceLaws.{letters_room, letters_put, letters_end}
use Rattle.bases.proofs.letters.put_fives.Goals as goal

pub loop-symbol-init : goal.loop-symbol-init
loop-symbol-init c = rest_start _ _ _

pub put_five-next-requires : goal.put_five-next-requires
put_five-next-requires c = letters_room _ _ 0 _ _ c.loop-symbol.invariant c.loop-symbol-test.true (omega (arith, c.requires))

pub loop-symbol-preserved : goal.loop-symbol-preserved
loop-symbol-preserved c = letters_put _ _ 0 _ _ c.loop-symbol.invariant c.loop-symbol-test.true c.put_five-next.ensures

pub shape_of-out : goal.shape_of-out
shape_of-out c = c.loop-symbol.invariant.long

pub returns : goal.returns
returns c = rw sub-zero at (rest_done c.loop-symbol.invariant (letters_end _ _ _ _ c.loop-symbol-test.false))
