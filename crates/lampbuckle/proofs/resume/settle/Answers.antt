-- `lampbuckle::resume::settle` meets its contract, place by place. Assumes nothing.
use mathlib.Core.Path.{ap, ◌∙◌}
use Rattle.resuming.specs.Last.{state_to}
use Rattle.lampbuckle.specs.Resume.{goes_on, place_afresh, place_second, place_on, place_over}
use Rattle.lampbuckle.proofs.AnswerLaws.{told_outcome}
use Rattle.lampbuckle.proofs.resume.settle.Goals as goal

pub returns-in-Afresh : goal.returns-in-Afresh
unfolding state_to
returns-in-Afresh c = rw c.in-Afresh.is (told_outcome c.go_on.type_inv (c.go_on.ensures ∙ ap (goes_on place_afresh) (c.state-next.ensures ∙ ap state_to c.in-Afresh.is)))

pub returns-in-Second : goal.returns-in-Second
unfolding state_to
returns-in-Second c = rw c.in-Second.is (told_outcome c.go_on-in-Second.type_inv (c.go_on-in-Second.ensures ∙ ap (goes_on place_second) (c.state-next.ensures ∙ ap state_to c.in-Second.is)))

pub returns-in-On : goal.returns-in-On
unfolding state_to
returns-in-On c = rw c.in-On.is (told_outcome c.go_on-in-On.type_inv (c.go_on-in-On.ensures ∙ ap (goes_on place_on) (c.state-next.ensures ∙ ap state_to c.in-On.is)))

pub returns-in-Over : goal.returns-in-Over
unfolding state_to
returns-in-Over c = rw c.in-Over.is (told_outcome c.go_on-in-Over.type_inv (c.go_on-in-Over.ensures ∙ ap (goes_on place_over) (c.state-next.ensures ∙ ap state_to c.in-Over.is)))
