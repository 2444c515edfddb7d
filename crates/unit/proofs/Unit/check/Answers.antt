-- `unit::Unit::check` meets its contract: the tests on the way pick the case. Assumes nothing.
use Rattle.unit.specs.Unit.{unit_refusal}
use Rattle.frame.proofs.StepLaws.{steps}
use Rattle.unit.proofs.Unit.check.Goals as goal

pub returns-then-self-lt-P : goal.returns-then-self-lt-P
unfolding unit_refusal
returns-then-self-lt-P c = search steps depth 8 fits 5000

pub returns-then-self-gt-U : goal.returns-then-self-gt-U
unfolding unit_refusal
returns-then-self-gt-U c = search steps depth 8 fits 5000

pub returns-then-self-gt-ALPHABETS : goal.returns-then-self-gt-ALPHABETS
unfolding unit_refusal
returns-then-self-gt-ALPHABETS c = search steps depth 8 fits 5000

pub returns-then-self-gt-SEGMENTS : goal.returns-then-self-gt-SEGMENTS
unfolding unit_refusal
returns-then-self-gt-SEGMENTS c = search steps depth 8 fits 5000

pub returns-then-self-least_segments : goal.returns-then-self-least_segments
unfolding unit_refusal
returns-then-self-least_segments c = search steps depth 8 fits 5000

pub returns-then-self : goal.returns-then-self
unfolding unit_refusal
returns-then-self c = rw (← c.least_segments.ensures) (search steps depth 8 fits 5000)

pub returns-then-self-gt-RECORDS : goal.returns-then-self-gt-RECORDS
unfolding unit_refusal
returns-then-self-gt-RECORDS c = rw (← c.least_segments.ensures) (search steps depth 8 fits 5000)

pub returns-then-self-gt-LARGEST16 : goal.returns-then-self-gt-LARGEST16
unfolding unit_refusal
returns-then-self-gt-LARGEST16 c = rw (← c.least_segments.ensures) (search steps depth 9 fits 5000)

pub returns : goal.returns
unfolding unit_refusal
returns c = rw (← c.least_segments.ensures) (search steps depth 9 fits 5000)
