-- `front::unit_line::read_class` meets its contract: each answer and test on the way picks the definition's case. Assumes nothing.
use Rattle.std.proofs.lemmas.Result.{err_from_is_err_and}
use Rattle.front.specs.UnitLine.{unit_class}
use Rattle.frame.proofs.StepLaws.{steps}
use Rattle.front.proofs.unit_line.read_class.Goals as goal

pub returns-in_err-class : goal.returns-in_err-class
unfolding unit_class
returns-in_err-class c =
    let p = err_from_is_err_and c.from_residual.result c.from_residual.ensures.1 in
    rw (p.1, p.2) (search (steps, c.in_err-class.was))

pub returns-then-class-lt-P : goal.returns-then-class-lt-P
unfolding unit_class
returns-then-class-lt-P c = search (steps, c.in_ok-class.was)

pub returns-then-class-gt-U : goal.returns-then-class-gt-U
unfolding unit_class
returns-then-class-gt-U c = search (steps, c.in_ok-class.was)

pub returns-in_err-alphabet : goal.returns-in_err-alphabet
unfolding unit_class
returns-in_err-alphabet c =
    let p = err_from_is_err_and c.from_residual-in_err-alphabet.result c.from_residual-in_err-alphabet.ensures.1 in
    rw (p.1, p.2) (search (steps, c.in_ok-class.was, c.in_err-alphabet.was))

pub returns-then-alphabet-gt-ALPHABETS : goal.returns-then-alphabet-gt-ALPHABETS
unfolding unit_class
returns-then-alphabet-gt-ALPHABETS c = search (steps, c.in_ok-class.was, c.in_ok-alphabet.was)

pub returns : goal.returns
unfolding unit_class
returns c = search (steps, c.in_ok-class.was, c.in_ok-alphabet.was)
