-- `frame::line::line_within` meets its contract: each test in its turn, and the scan of the digits. Assumes nothing.
use mathlib.Core.Path.{sym, ◌∙◌}
use native.Mathlib.Omega.{arith}
use borrow.Author.Tests.{eq-eqb, le-ltb, lt-ltb, ne_eqb, not-true, not-false}
use Rattle.frame.specs.Hex.{all_digits}
use Rattle.frame.specs.Line.{line_within}
use Rattle.frame.proofs.line.line_within.Goals as goal

pub returns-then-n-eq0 : goal.returns-then-n-eq0
unfolding line_within
returns-then-n-eq0 c = simp (eq-eqb _ _ c.if-n-eq0.true)

pub overflow_sub-m : goal.overflow_sub-m
overflow_sub-m c = omega arith

pub returns-then-most-m : goal.returns-then-most-m
unfolding line_within
returns-then-most-m c = simp (ne_eqb _ _ c.if-n-eq0.false, lt-ltb _ _ c.if-most-m.true)

pub bounds-line-m : goal.bounds-line-m
bounds-line-m c = omega arith

pub returns-then-line-m-ne-END : goal.returns-then-line-m-ne-END
unfolding line_within
returns-then-line-m-ne-END c = simp (ne_eqb _ _ c.if-n-eq0.false, le-ltb _ _ c.if-most-m.false, ne_eqb _ _ c.if-line-m-ne-END.true)

pub has_other-requires : goal.has_other-requires
has_other-requires c = omega arith

pub returns-then-has_other : goal.returns-then-has_other
unfolding line_within
returns-then-has_other c =
    simp (ne_eqb _ _ c.if-n-eq0.false, le-ltb _ _ c.if-most-m.false, eq-eqb _ _ c.if-line-m-ne-END.false, not-true (all_digits _) (sym c.has_other.ensures ∙ c.if-has_other.true))

pub returns : goal.returns
unfolding line_within
returns c =
    simp (ne_eqb _ _ c.if-n-eq0.false, le-ltb _ _ c.if-most-m.false, eq-eqb _ _ c.if-line-m-ne-END.false, not-false (all_digits _) (sym c.has_other.ensures ∙ c.if-has_other.false))
