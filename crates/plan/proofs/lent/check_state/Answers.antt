-- `plan::lent::check_state` meets its contract, test by test. Assumes nothing.
use mathlib.Core.Path.{sym, ◌∙◌}
use native.Mathlib.Omega.{arith}
use Rattle.plan.proofs.LentLaws.{number_out, index_out, state_fine}
use Rattle.plan.proofs.lent.check_state.Goals as goal

pub returns-then-unit-state : goal.returns-then-unit-state
returns-then-unit-state c = sym (number_out _ _ _ (omega arith))

pub returns-then-not-within : goal.returns-then-not-within
returns-then-not-within c = sym (index_out _ _ _ (omega arith) (sym c.within.ensures ∙ c.if-not-within.true))

pub returns : goal.returns
returns c = sym (state_fine _ _ _ (omega arith) (sym c.within.ensures ∙ c.if-not-within.false))
