-- `ecigar::check::walk_edits` meets its contract. The loop's invariant: the walk over the edits that are left, from here, comes to what the whole comes to. Assumes nothing.
use native.Mathlib.Omega.{arith}
use native.Mathlib.Nat.{sub-add-eq, sub-zero}
use mathlib.Core.Path.{refl, sym, ◌∙◌}
use Rattle.std.proofs.lemmas.Result.{err_from_is_err_and}
use Rattle.edits.proofs.EditLaws.{edit_accepted, turns_left, turns_over}
use Rattle.ecigar.proofs.CheckLaws.{walked_on, walked_end, within_start, within_on}
use Rattle.ecigar.proofs.check.walk_edits.Goals as goal

pub loop-init : goal.loop-init
loop-init c = rw (sub-zero, c.start_at-t.ensures) (within_start _ _ _ c.requires.1.1, refl)

pub returns-in_err-complete : goal.returns-in_err-complete
returns-in_err-complete c =
    let p = err_from_is_err_and c.from_residual.result c.from_residual.ensures.1 in
    rw (p.1, p.2, ← c.loop.invariant.1, walked_on _ _ _ _ _ _ _ _ (turns_left c.loop-test.true), ← c.width-step.ensures, ← c.complete.ensures, c.in_err-complete.was) refl

pub returns-in_err-check : goal.returns-in_err-check
returns-in_err-check c =
    let p = err_from_is_err_and c.from_residual-in_err-check.result c.from_residual-in_err-check.ensures.1 in
    rw (p.1, p.2, ← c.loop.invariant.1, walked_on _ _ _ _ _ _ _ _ (turns_left c.loop-test.true), ← c.width-step.ensures, ← c.complete.ensures, c.in_ok-complete.was, ← c.edit_at-e.ensures, ← c.size-symbols.ensures, ← c.check.ensures, c.in_err-check.was) refl

pub take_edit-t-requires : goal.take_edit-t-requires
take_edit-t-requires c =
    let a = edit_accepted _ _ _ _ (sym c.check.ensures ∙ c.in_ok-check.was) in
    let g = c.loop.invariant.0 in
    omega (arith, a.order, g.next, g.run, g.taken, g.text, c.loop-test.true, c.requires)

pub loop-preserved : goal.loop-preserved
loop-preserved c =
    let z = sym c.check.ensures ∙ c.in_ok-check.was in
    let more = turns_left c.loop-test.true in
    let inv = c.loop.invariant in
    rw sub-add-eq (
      within_on _ _ _ _ _ _ _ inv.0 more (edit_accepted _ _ _ _ z) c.take_edit-t.ensures,
      rw (← inv.1, walked_on _ _ _ _ _ _ _ _ more, ← c.width-step.ensures, ← c.complete.ensures, c.in_ok-complete.was, ← c.edit_at-e.ensures, ← c.size-symbols.ensures, z, c.take_edit-t.ensures, c.past-flank.ensures) refl,
    )

pub returns : goal.returns
returns c = sym (walked_end _ _ _ _ _ _ _ _ (turns_over c.loop-test.false)) ∙ c.loop.invariant.1
