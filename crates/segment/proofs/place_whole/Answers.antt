-- `segment::place_whole` meets its contract: each check refuses or not. Assumes nothing.
use mathlib.Core.Path.{refl, sym, ap, ◌∙◌}
use native.Mathlib.Omega.{arith}
use Rattle.std.specs.Prelude.{Ok}
use Rattle.std.proofs.lemmas.Result.{err_from_is_err_and}
use Rattle.refusal.proofs.AnswerLaws.{passes, check_stops}
use Rattle.pieces.proofs.PlaceLaws.{place_inside}
use Rattle.segment.proofs.ChoiceLaws.{one_placed}
use Rattle.segment.proofs.place_whole.Goals as goal

pub returns-in_err-check : goal.returns-in_err-check
returns-in_err-check c = let p = err_from_is_err_and c.from_residual.result c.from_residual.ensures.1 in rw (p.1, p.2) (λ symbols. check_stops _ _ _ _ _ c.check.ensures c.in_err-check.was refl ∙ sym (one_placed _ _ symbols _ _ _ c.requires.0 c.requires.1))

pub overflow_cast-start : goal.overflow_cast-start
overflow_cast-start c = let h = place_inside _ _ _ _ (sym c.check.ensures ∙ c.in_ok-check.was) in omega (arith, h.to)

pub under_matches-requires : goal.under_matches-requires
under_matches-requires c = c.requires.0

pub returns-in_err-under_matches : goal.returns-in_err-under_matches
returns-in_err-under_matches c = let p = err_from_is_err_and c.from_residual-in_err-under_matches.result c.from_residual-in_err-under_matches.ensures.1 in rw (p.1, p.2) (λ symbols. passes _ _ _ _ _ c.check.ensures c.in_ok-check.was (check_stops _ _ _ _ _ c.under_matches.ensures c.in_err-under_matches.was refl) ∙ sym (one_placed _ _ symbols _ _ _ c.requires.0 c.requires.1))

pub returns : goal.returns
returns c = λ symbols. passes _ _ _ _ _ c.check.ensures c.in_ok-check.was (passes _ _ _ _ _ c.under_matches.ensures c.in_ok-under_matches.was (ap Ok c.whole.ensures)) ∙ sym (one_placed _ _ symbols _ _ _ c.requires.0 c.requires.1)
