-- `bases::check_piece` meets its contract. The loop's invariant: the refusal of what is left, from both pointers on, is that of the whole. Assumes nothing.
use mathlib.Core.Path.{refl, sym, ◌∙◌}
use native.Mathlib.Omega.{arith}
use native.Mathlib.Nat.{sub-add-eq, sub-zero}
use Rattle.std.proofs.lemmas.Result.{err_from_is_err_and}
use Rattle.edits.proofs.EditLaws.{turns_left, turns_over}
use Rattle.bases.proofs.BasesLaws.{walk_start, walk_on, walk_near, walk_room, refusal_on, refusal_out, refusal_end}
use Rattle.bases.proofs.check_piece.Goals as goal

pub loop-init : goal.loop-init
loop-init c = rw sub-zero (walk_start _ _ _ _ _ _ c.at-p.ensures (omega arith) (omega arith) c.requires, rw c.at-p.ensures)

pub edit_at-e-requires : goal.edit_at-e-requires
edit_at-e-requires c = walk_room c.loop.invariant.0 (turns_left c.loop-test.true) refl

pub check_match-requires : goal.check_match-requires
check_match-requires c = walk_near c.loop.invariant.0

pub returns-in_err-check_match : goal.returns-in_err-check_match
returns-in_err-check_match c =
    let p = err_from_is_err_and c.from_residual.result c.from_residual.ensures.1 in
    rw (p.1, p.2) (sym (refusal_out _ _ _ _ _ _ _ _ _ _ c.edit_at-e.ensures (turns_left c.loop-test.true) c.check_match.ensures c.in_err-check_match.was) ∙ c.loop.invariant.1)

pub past_edit-p-requires : goal.past_edit-p-requires
past_edit-p-requires c = walk_near c.loop.invariant.0

pub overflow_add-at : goal.overflow_add-at
overflow_add-at c =
    omega (arith, walk_room c.loop.invariant.0 (turns_left c.loop-test.true) c.width-step.ensures)

pub loop-preserved : goal.loop-preserved
loop-preserved c =
    rw sub-add-eq (walk_on c.loop.invariant.0 _ c.edit_at-e.result (turns_left c.loop-test.true) (omega (arith, c.edit_at-e.type_inv)) c.past_edit-p.ensures c.width-step.ensures, rw (c.width-step.ensures, c.past_edit-p.ensures) (sym (refusal_on _ _ _ _ _ _ _ _ _ _ c.edit_at-e.ensures (turns_left c.loop-test.true) c.check_match.ensures c.in_ok-check_match.was) ∙ c.loop.invariant.1))

pub check_match-requires-2 : goal.check_match-requires-2
check_match-requires-2 c = walk_near c.loop.invariant.0

pub returns : goal.returns
returns c = c.check_match-2.ensures ∙ sym (refusal_end _ _ _ _ _ _ _ _ _ (turns_over c.loop-test.false)) ∙ c.loop.invariant.1
