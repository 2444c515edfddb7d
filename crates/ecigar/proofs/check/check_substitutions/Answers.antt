-- `ecigar::check::check_substitutions` meets its contract. The loop's invariant: there is a tally that has come so far, and from it the check of the edits that are left comes to what the whole comes to. Assumes nothing.
use mathlib.Core.Path.{refl, sym, ◌∙◌}
use native.Mathlib.Omega.{arith}
use native.Mathlib.Nat.{sub-add-eq, sub-zero}
use Rattle.std.proofs.lemmas.Result.{err_from_is_err_and}
use Rattle.edits.proofs.EditLaws.{edit_accepted, turns_left, turns_over}
use Rattle.ecigar.proofs.CheckLaws.{complete_inside, check_start, check_short, check_out}
use Rattle.ecigar.proofs.SubstitutionLaws.{substitutions_start, substitutions_on, substitutions_end}
use Rattle.ecigar.proofs.check.check_substitutions.Goals as goal

pub loop-init : goal.loop-init
loop-init c = rw sub-zero (substitutions_start _ _ _ _ _ _ (check_start _ _ _ _ 0 _ _ _ refl))

pub returns-in_err-complete : goal.returns-in_err-complete
returns-in_err-complete c =
    let g = c.loop.invariant in
    let p = err_from_is_err_and c.from_residual.result c.from_residual.ensures.1 in
    rw (p.1, p.2) (sym (check_short _ _ _ _ _ _ _ _ g.tally c.width-step.ensures c.size-symbols.ensures (turns_left c.loop-test.true) _ (sym c.in_err-complete.was ∙ c.complete.ensures)) ∙ g.rest)

pub substitution_at-e-requires : goal.substitution_at-e-requires
substitution_at-e-requires c =
    (c.requires.0, rw (← c.width-step.ensures) (complete_inside _ _ _ (sym c.complete.ensures ∙ c.in_ok-complete.was)))

pub returns-in_err-check : goal.returns-in_err-check
returns-in_err-check c =
    let g = c.loop.invariant in
    let whole = sym c.in_ok-complete.was ∙ c.complete.ensures in
    let p = err_from_is_err_and c.from_residual-in_err-check.result c.from_residual-in_err-check.ensures.1 in
    rw (p.1, p.2) (sym (check_out _ _ _ _ _ _ _ _ g.tally c.width-step.ensures c.size-symbols.ensures (turns_left c.loop-test.true) _ c.substitution_at-e.ensures whole _ (rw g.there (sym c.in_err-check.was ∙ c.check.ensures))) ∙ g.rest)

pub overflow_sub-offset : goal.overflow_sub-offset
overflow_sub-offset c =
    let a = edit_accepted _ _ _ _ (sym c.check.ensures ∙ c.in_ok-check.was) in omega (arith, a.order)

pub overflow_add-text : goal.overflow_add-text
overflow_add-text c = omega (arith, c.loop.invariant.short, c.loop.invariant.inside, c.requires)

pub overflow_add-text-in-loop : goal.overflow_add-text-in-loop
overflow_add-text-in-loop c = omega (arith, c.loop.invariant.short, c.loop.invariant.inside, c.requires)

pub loop-preserved : goal.loop-preserved
loop-preserved c =
    let whole = sym c.in_ok-complete.was ∙ c.complete.ensures in
    let z = sym c.check.ensures ∙ c.in_ok-check.was in
    rw sub-add-eq (substitutions_on _ _ _ _ _ _ _ _ c.width-step.ensures c.size-symbols.ensures (turns_left c.loop-test.true) c.requires.0 _ c.substitution_at-e.ensures whole _ c.loop.invariant z c.matches_len.ensures.0)

pub overflow_sub-run : goal.overflow_sub-run
overflow_sub-run c = omega (arith, c.loop.invariant.inside)

pub overflow_add-result : goal.overflow_add-result
overflow_add-result c = omega (arith, c.loop.invariant.short, c.loop.invariant.inside, c.requires)

pub returns : goal.returns
returns c = substitutions_end _ _ _ _ _ _ _ c.loop.invariant (turns_over c.loop-test.false) c.matches_len-2.ensures.0
