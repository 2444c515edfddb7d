-- `pieces::place::check` meets its contract: the tests on the way pick the case. Assumes nothing.
use Rattle.frame.proofs.StepLaws.{when, unless}
use Rattle.pieces.specs.Place.{place_refusal}
use Rattle.pieces.proofs.place.check.Goals as goal

pub returns-then-position-start : goal.returns-then-position-start
unfolding place_refusal
returns-then-position-start c = search (when, unless)

pub returns-then-end-position : goal.returns-then-end-position
unfolding place_refusal
returns-then-end-position c = search (when, unless)

pub returns-then-end-position-2 : goal.returns-then-end-position-2
unfolding place_refusal
returns-then-end-position-2 c = search (when, unless)

pub returns : goal.returns
unfolding place_refusal
returns c = search (when, unless)
