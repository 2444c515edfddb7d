-- `front::unit_line::read_ends` meets its contract: each answer and test on the way picks the definition's case. Assumes nothing.
use Rattle.std.proofs.lemmas.Result.{err_from_is_err_and}
use Rattle.front.specs.UnitLine.{unit_ends}
use Rattle.frame.proofs.StepLaws.{steps}
use Rattle.front.proofs.unit_line.read_ends.Goals as goal

pub returns-in_err-start : goal.returns-in_err-start
unfolding unit_ends
returns-in_err-start c =
    let p = err_from_is_err_and c.from_residual.result c.from_residual.ensures.1 in
    rw (p.1, p.2) (search (steps, c.in_err-start.was) depth 7 fits 5000)

pub returns-in_err-end : goal.returns-in_err-end
unfolding unit_ends
returns-in_err-end c =
    let p = err_from_is_err_and c.from_residual-in_err-end.result c.from_residual-in_err-end.ensures.1 in
    rw (p.1, p.2) (search (steps, c.in_ok-start.was, c.in_err-end.was) depth 7 fits 5000)

pub returns-then-end-start : goal.returns-then-end-start
unfolding unit_ends
returns-then-end-start c = search (steps, c.in_ok-start.was, c.in_ok-end.was) depth 7 fits 5000

pub returns-in_err-records : goal.returns-in_err-records
unfolding unit_ends
returns-in_err-records c =
    let p = err_from_is_err_and c.from_residual-in_err-records.result c.from_residual-in_err-records.ensures.1 in
    rw (p.1, p.2) (search (steps, c.in_ok-start.was, c.in_ok-end.was, c.in_err-records.was) depth 7 fits 5000)

pub returns-then-records-gt-RECORDS : goal.returns-then-records-gt-RECORDS
unfolding unit_ends
returns-then-records-gt-RECORDS c = search (steps, c.in_ok-start.was, c.in_ok-end.was, c.in_ok-records.was) depth 7 fits 5000

pub returns-then-f-count : goal.returns-then-f-count
unfolding unit_ends
returns-then-f-count c = search (steps, c.in_ok-start.was, c.in_ok-end.was, c.in_ok-records.was) depth 7 fits 5000

pub returns : goal.returns
unfolding unit_ends
returns c = search (steps, c.in_ok-start.was, c.in_ok-end.was, c.in_ok-records.was) depth 7 fits 5000
