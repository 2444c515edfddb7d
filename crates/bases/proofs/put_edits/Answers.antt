-- `bases::put_edits` meets its contract. The loop's invariant: to lay what is left, from both pointers on, gives what laying the whole gives. Assumes nothing.
use mathlib.Core.Path.{refl, ◌∙◌}
use native.Mathlib.Omega.{arith}
use native.Mathlib.Nat.{sub-add-eq, sub-zero}
use Rattle.writing.proofs.LayLaws.{rest_put, rest_room_end, rest_end, rest_from}
use Rattle.edits.proofs.EditLaws.{turns_left, turns_over}
use Rattle.bases.proofs.ReferenceLaws.{length_matched}
use Rattle.bases.proofs.BasesLaws.{walk_start, walk_on, walk_near, walk_room, bases_on, bases_room, bases_end}
use Rattle.bases.proofs.put_edits.Goals as goal

pub loop-init : goal.loop-init
loop-init g c = rw sub-zero (walk_start _ _ _ _ _ _ c.at-p.ensures (omega arith) (omega arith) c.requires.class_in_bounds, rest_from _ _ (rw c.at-p.ensures))

pub edit_of-e-requires : goal.edit_of-e-requires
edit_of-e-requires g c = (c.requires.substitutes_value, walk_room c.loop.invariant.0 (turns_left c.loop-test.true) refl)

pub put_edit-next-requires : goal.put_edit-next-requires
put_edit-next-requires g c =
    record { table_value = c.digits-table.ensures; p_bound = walk_near c.loop.invariant.0; e_in_bounds = bases_room _ _ _ _ _ _ _ _ _ _ c.edit_of-e.ensures (turns_left c.loop-test.true) c.loop.invariant.1 c.requires.edits_at_in_bounds }

pub past_edit-p-requires : goal.past_edit-p-requires
past_edit-p-requires g c = walk_near c.loop.invariant.0

pub overflow_add-here : goal.overflow_add-here
overflow_add-here g c =
    omega (arith, walk_room c.loop.invariant.0 (turns_left c.loop-test.true) c.width-step.ensures)

pub loop-preserved : goal.loop-preserved
loop-preserved g c =
    rw sub-add-eq (walk_on c.loop.invariant.0 _ c.edit_of-e.result (turns_left c.loop-test.true) (omega (arith, c.edit_of-e.type_inv)) c.past_edit-p.ensures c.width-step.ensures, rw (c.width-step.ensures, c.past_edit-p.ensures) (rest_put c.loop.invariant.1 (bases_on _ _ _ _ _ _ _ _ _ _ c.edit_of-e.ensures (turns_left c.loop-test.true)) c.put_edit-next.ensures))

pub put_matched-requires : goal.put_matched-requires
put_matched-requires g c =
    record { p_bound = walk_near c.loop.invariant.0; p_in_bounds = rw length_matched at (rest_room_end c.loop.invariant.1 (bases_end _ _ _ _ _ _ _ _ _ (turns_over c.loop-test.false)) c.requires.edits_at_in_bounds) }

pub shape_of-out : goal.shape_of-out
shape_of-out g c = c.put_matched.auto.out ∙ c.loop.invariant.1.long

pub returns : goal.returns
returns g c = rest_end c.loop.invariant.1 (rw (bases_end _ _ _ _ _ _ _ _ _ (turns_over c.loop-test.false)) c.put_matched.ensures)
