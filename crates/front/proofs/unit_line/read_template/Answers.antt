-- `front::unit_line::read_template` meets its contract: each answer and test on the way picks the definition's case. Assumes nothing.
use Rattle.std.proofs.lemmas.Result.{err_from_is_err_and}
use Rattle.front.specs.UnitLine.{unit_template}
use Rattle.frame.proofs.StepLaws.{steps}
use Rattle.front.proofs.unit_line.read_template.Goals as goal

pub returns-in_err-segments : goal.returns-in_err-segments
unfolding unit_template
returns-in_err-segments c =
    let p = err_from_is_err_and c.from_residual.result c.from_residual.ensures.1 in
    rw (p.1, p.2) (search (steps, c.in_err-segments.was) depth 7 fits 5000)

pub returns-then-segments-gt-SEGMENTS : goal.returns-then-segments-gt-SEGMENTS
unfolding unit_template
returns-then-segments-gt-SEGMENTS c = search (steps, c.in_ok-segments.was) depth 7 fits 5000

pub returns-then-segments-least_segments : goal.returns-then-segments-least_segments
unfolding unit_template
returns-then-segments-least_segments c = search (steps, c.in_ok-segments.was) depth 7 fits 5000

pub returns-in_err-sequence : goal.returns-in_err-sequence
unfolding unit_template
returns-in_err-sequence c =
    let p = err_from_is_err_and c.from_residual-in_err-sequence.result c.from_residual-in_err-sequence.ensures.1 in
    rw (p.1, p.2) (search (steps, c.in_ok-segments.was, c.in_err-sequence.was) depth 7 fits 5000)

pub returns-in_err-first : goal.returns-in_err-first
unfolding unit_template
returns-in_err-first c =
    let p = err_from_is_err_and c.from_residual-in_err-first.result c.from_residual-in_err-first.ensures.1 in
    rw (p.1, p.2) (search (steps, c.in_ok-segments.was, c.in_ok-sequence.was, c.in_err-first.was) depth 7 fits 5000)

pub returns : goal.returns
unfolding unit_template
returns c = search (steps, c.in_ok-segments.was, c.in_ok-sequence.was, c.in_ok-first.was) depth 7 fits 5000
