-- `ecigar::text::put_edits` meets its contract. The loop's invariant: to lay the text of the edits that are left, from here, gives what laying the whole gives. Assumes nothing.
use mathlib.Core.Path.{◌∙◌}
use native.Mathlib.Omega.{arith}
use native.Mathlib.Nat.{sub-add-eq, sub-zero}
use Rattle.writing.proofs.LayLaws.{rest_room_end, rest_end}
use Rattle.edits.proofs.EditLaws.{framed_on, turns_left, turns_over}
use Rattle.ecigar.proofs.WalkLaws.{past_run}
use Rattle.ecigar.proofs.TextLaws.{writing_start, writing_order, writing_room, writing_on, ecigar_end}
use Rattle.ecigar.proofs.text.put_edits.Goals as goal

pub loop-init : goal.loop-init
loop-init c = rw (c.start_at-w.ensures, sub-zero) (omega arith, writing_start _ _ _ _ _ _ _ _ _ c.requires.start_le_mapped.0 c.requires.start_le_mapped.1.1 c.requires.sound)

pub edit_at-e-requires : goal.edit_at-e-requires
edit_at-e-requires c =
    let g = c.loop in
    let wide = c.width-step.ensures in
    rw (← wide) (framed_on _ _ _ _ _ g.invariant.1.framed wide (turns_left c.loop-test.true)).0

pub put_edit-next-requires : goal.put_edit-next-requires
put_edit-next-requires c =
    let g = c.loop.invariant.1 in
    let wide = c.width-step.ensures in
    let it = c.edit_at-e.ensures in
    let more = turns_left c.loop-test.true in
    (c.digits-table.ensures, (writing_order _ _ _ _ _ _ _ _ wide it more g, writing_room _ _ _ _ _ _ _ _ wide it more g c.requires.edits_at_in_bounds))

pub advance-w-requires : goal.advance-w-requires
advance-w-requires c =
    omega (arith, c.loop.invariant.0, c.loop-test.true, c.requires.start_le_mapped.1.0)

pub overflow_add-place : goal.overflow_add-place
overflow_add-place c =
    let g = c.loop in
    omega (arith, (framed_on _ _ _ _ _ g.invariant.1.framed c.width-step.ensures (turns_left c.loop-test.true)).0)

pub loop-preserved : goal.loop-preserved
loop-preserved c =
    let moved = c.advance-w.ensures in
    let g = c.loop.invariant in
    (omega (arith, g.0, past_run _ _ moved), rw sub-add-eq (writing_on _ _ _ _ _ _ _ _ c.width-step.ensures c.edit_at-e.ensures (turns_left c.loop-test.true) g.1 moved c.put_edit-next.ensures))

pub put_ending-requires : goal.put_ending-requires
put_ending-requires c =
    let g = c.loop.invariant.1 in
    (g.next, rest_room_end g.rest (ecigar_end _ _ _ _ _ _ _ (turns_over c.loop-test.false)) c.requires.edits_at_in_bounds)

pub shape_of-out : goal.shape_of-out
shape_of-out c = c.put_ending.auto.out ∙ c.loop.invariant.1.rest.long

pub returns : goal.returns
returns c = rest_end c.loop.invariant.1.rest (rw (ecigar_end _ _ _ _ _ _ _ (turns_over c.loop-test.false)) c.put_ending.ensures)
