-- `front::reference_line::read_count` meets its contract: each answer and test on the way picks the definition's case. Assumes nothing.
use Rattle.std.proofs.lemmas.Result.{err_from_is_err_and}
use Rattle.front.specs.ReferenceLine.{reference_line}
use mathlib.Core.Path.{sym, ◌∙◌}
use native.Mathlib.Omega.{arith}
use Rattle.frame.proofs.HexLaws.{length_unhex}
use Rattle.frame.proofs.FieldLaws.{value_is_field}
use Rattle.frame.proofs.StepLaws.{steps}
use Rattle.front.proofs.ReferenceLaws.{added_counted}
use Rattle.front.proofs.reference_line.read_count.Goals as goal

pub returns-in_err-line_of : goal.returns-in_err-line_of
unfolding reference_line
returns-in_err-line_of c = let p = err_from_is_err_and c.from_residual.result c.from_residual.ensures.1 in rw (p.1, p.2) (search (steps, c.in_err-line_of.was))

pub returns-in_err-kind : goal.returns-in_err-kind
unfolding reference_line
returns-in_err-kind c = let p = err_from_is_err_and c.from_residual-in_err-kind.result c.from_residual-in_err-kind.ensures.1 in rw (p.1, p.2) (search (steps, c.in_ok-line_of.was, c.in_err-kind.was))

pub returns-then-kind-ne-REFERENCE : goal.returns-then-kind-ne-REFERENCE
unfolding reference_line
returns-then-kind-ne-REFERENCE c = search (steps, c.in_ok-line_of.was, c.in_ok-kind.was)

pub overflow_sub-n : goal.overflow_sub-n
overflow_sub-n c = omega (arith, rw length_unhex at (value_is_field 1 _ 0 _ _ (sym c.in_ok-kind.was ∙ c.read_u8.ensures)).fits)

pub returns : goal.returns
unfolding reference_line
returns c = search (steps, added_counted, c.in_ok-line_of.was, c.in_ok-kind.was)
