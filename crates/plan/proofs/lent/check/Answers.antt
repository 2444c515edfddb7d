-- `plan::lent::check` meets its contract, test by test. Assumes nothing.
use mathlib.Core.Path.{refl, sym, ◌∙◌}
use Rattle.std.proofs.lemmas.Result.{err_from_is_err_and}
use Rattle.refusal.proofs.AnswerLaws.{passes, check_stops}
use Rattle.frame.proofs.StepLaws.{steps}
use Rattle.plan.specs.Lent.{lent_refusal}
use Rattle.plan.proofs.lent.check.Goals as goal

pub returns-in_err-check : goal.returns-in_err-check
unfolding lent_refusal
returns-in_err-check c = let p = err_from_is_err_and c.from_residual.result c.from_residual.ensures.1 in rw (p.1, p.2) (check_stops _ _ _ _ _ c.check.ensures c.in_err-check.was refl)

pub returns-then-reference-gt-REFERENCE : goal.returns-then-reference-gt-REFERENCE
unfolding lent_refusal
returns-then-reference-gt-REFERENCE c = passes _ _ _ _ _ c.check.ensures c.in_ok-check.was (search steps)

pub returns-then-symbols-ne-TABLE : goal.returns-then-symbols-ne-TABLE
unfolding lent_refusal
returns-then-symbols-ne-TABLE c = passes _ _ _ _ _ c.check.ensures c.in_ok-check.was (search steps)

pub returns-then-counts-ne-SUBSEQUENCES : goal.returns-then-counts-ne-SUBSEQUENCES
unfolding lent_refusal
returns-then-counts-ne-SUBSEQUENCES c = passes _ _ _ _ _ c.check.ensures c.in_ok-check.was (search steps)

pub returns-then-counts_out : goal.returns-then-counts_out
unfolding lent_refusal
returns-then-counts_out c = passes _ _ _ _ _ c.check.ensures c.in_ok-check.was (rw (sym c.counts_out.ensures ∙ c.if-counts_out.true) (search steps))

pub returns : goal.returns
unfolding lent_refusal
returns c = passes _ _ _ _ _ c.check.ensures c.in_ok-check.was (rw (sym c.counts_out.ensures ∙ c.if-counts_out.false) (search steps))
