-- `front::unit_line::read` meets its contract: each answer and test on the way picks the definition's case. Assumes nothing.
use Rattle.std.proofs.lemmas.Result.{err_from_is_err_and}
use Rattle.front.specs.UnitLine.{unit_line}
use Rattle.frame.proofs.StepLaws.{steps}
use Rattle.front.proofs.unit_line.read.Goals as goal

pub returns-in_err-line_of : goal.returns-in_err-line_of
unfolding unit_line
returns-in_err-line_of c =
    let p = err_from_is_err_and c.from_residual.result c.from_residual.ensures.1 in
    rw (p.1, p.2) (search (steps, c.in_err-line_of.was))

pub returns-in_err-kind : goal.returns-in_err-kind
unfolding unit_line
returns-in_err-kind c =
    let p = err_from_is_err_and c.from_residual-in_err-kind.result c.from_residual-in_err-kind.ensures.1 in
    rw (p.1, p.2) (search (steps, c.in_ok-line_of.was, c.in_err-kind.was))

pub returns-then-kind-ne-UNIT : goal.returns-then-kind-ne-UNIT
unfolding unit_line
returns-then-kind-ne-UNIT c = search (steps, c.in_ok-line_of.was, c.in_ok-kind.was)

pub returns : goal.returns
unfolding unit_line
returns c = search (steps, c.in_ok-line_of.was, c.in_ok-kind.was)
