-- `resuming::place::Go::state` meets its contract, place by place. Assumes nothing.
use mathlib.Core.Path.{refl, ◌∙◌}
use mathlib.Core.Logic.{⊎_elim}
use Rattle.resuming.specs.Last.{state_to}
use Rattle.resuming.proofs.place.Go.state.Goals as goal

pub returns-in-On : goal.returns-in-On
unfolding state_to
returns-in-On c = rw c.in-On.is refl

pub returns-in-Afresh : goal.returns-in-Afresh
unfolding state_to
returns-in-Afresh c = c.fresh.ensures ∙ ⊎_elim (λ e. rw e refl) (⊎_elim (λ e. rw e refl) (⊎_elim (λ e. rw e refl) (λ e. rw e.1 refl))) c.in-Afresh.is
