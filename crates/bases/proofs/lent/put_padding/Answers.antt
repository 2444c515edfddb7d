-- `bases::lent::put_padding` meets its contract. The loop's invariant: to lay what is left, from here, gives what laying the whole gives. Assumes nothing.
use mathlib.Core.List.{[], ◌∷◌}
use native.Mathlib.Nat.{sub-add-eq, sub-zero}
use lib.ListN.{length-replicate}
use Rattle.writing.proofs.LayLaws.{rest_start, rest_put, rest_room, rest_done}
use Rattle.edits.proofs.EditLaws.{turns_left, turns_over}
use Rattle.bases.proofs.ReferenceLaws.{padding_on, padding_end}
use Rattle.bases.proofs.lent.put_padding.Goals as goal

pub loop-init : goal.loop-init
loop-init c = rw sub-zero (rest_start _ _ _)

pub put_byte-next-requires : goal.put_byte-next-requires
put_byte-next-requires c = rest_room (_ ∷ []) _ c.loop.invariant (padding_on _ (turns_left c.loop-test.true)) (rw length-replicate c.requires)

pub loop-preserved : goal.loop-preserved
loop-preserved c =
    rw sub-add-eq (rest_put c.loop.invariant (padding_on _ (turns_left c.loop-test.true)) c.put_byte-next.ensures)

pub shape_of-out : goal.shape_of-out
shape_of-out c = c.loop.invariant.long

pub returns : goal.returns
returns c = rest_done c.loop.invariant (padding_end _ (turns_over c.loop-test.false))
