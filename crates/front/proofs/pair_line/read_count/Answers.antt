-- `front::pair_line::read_count` meets its contract: each answer and test on the way picks the definition's case. Assumes nothing.
use Rattle.std.proofs.lemmas.Result.{err_from_is_err_and}
use Rattle.front.specs.PairLine.{pair_count}
use Rattle.frame.proofs.StepLaws.{steps}
use Rattle.front.proofs.pair_line.read_count.Goals as goal

pub returns-in_err-line_of : goal.returns-in_err-line_of
unfolding pair_count
returns-in_err-line_of c =
    let p = err_from_is_err_and c.from_residual.result c.from_residual.ensures.1 in
    rw (p.1, p.2) (search (steps, c.in_err-line_of.was) depth 8 fits 5000)

pub returns-in_err-kind : goal.returns-in_err-kind
unfolding pair_count
returns-in_err-kind c =
    let p = err_from_is_err_and c.from_residual-in_err-kind.result c.from_residual-in_err-kind.ensures.1 in
    rw (p.1, p.2) (search (steps, c.in_ok-line_of.was, c.in_err-kind.was) depth 8 fits 5000)

pub returns-then-kind-ne-PAIR : goal.returns-then-kind-ne-PAIR
unfolding pair_count
returns-then-kind-ne-PAIR c = search (steps, c.in_ok-line_of.was, c.in_ok-kind.was) depth 8 fits 5000

pub returns-in_err-sub : goal.returns-in_err-sub
unfolding pair_count
returns-in_err-sub c =
    let p = err_from_is_err_and c.from_residual-in_err-sub.result c.from_residual-in_err-sub.ensures.1 in
    rw (p.1, p.2) (search (steps, c.in_ok-line_of.was, c.in_ok-kind.was, c.in_err-sub.was) depth 8 fits 5000)

pub returns-then-sub-number : goal.returns-then-sub-number
unfolding pair_count
returns-then-sub-number c = search (steps, c.in_ok-line_of.was, c.in_ok-kind.was, c.in_ok-sub.was) depth 8 fits 5000

pub returns-in_err-count : goal.returns-in_err-count
unfolding pair_count
returns-in_err-count c =
    let p = err_from_is_err_and c.from_residual-in_err-count.result c.from_residual-in_err-count.ensures.1 in
    rw (p.1, p.2) (search (steps, c.in_ok-line_of.was, c.in_ok-kind.was, c.in_ok-sub.was, c.in_err-count.was) depth 8 fits 5000)

pub returns : goal.returns
unfolding pair_count
returns c = search (steps, c.in_ok-line_of.was, c.in_ok-kind.was, c.in_ok-sub.was, c.in_ok-count.was) depth 8 fits 5000
