-- `ecigar::check::check` meets its contract: the tests on the way pick the case. Assumes nothing.
use mathlib.Core.Path.{sym, ◌∙◌}
use native.Mathlib.Omega.{arith}
use Rattle.ecigar.specs.Check.{check_of}
use Rattle.ecigar.proofs.CheckLaws.{read_letters}
use borrow.Author.Tests.{le-ltb, lt-ltb}
use Rattle.ecigar.proofs.check.check.Goals as goal

pub returns-then-run-gt-EDITS : goal.returns-then-run-gt-EDITS
unfolding check_of
returns-then-run-gt-EDITS c = simp (lt-ltb _ _ c.if-run-gt-EDITS.true)

pub returns-then-run-gt-READ : goal.returns-then-run-gt-READ
unfolding check_of
returns-then-run-gt-READ c = simp (le-ltb _ _ c.if-run-gt-EDITS.false, lt-ltb _ _ c.if-run-gt-READ.true)

pub check_substitutions-requires : goal.check_substitutions-requires
check_substitutions-requires c = (sym c.substitutes.ensures ∙ c.if-substitutes.true, omega arith)

pub returns-then-substitutes : goal.returns-then-substitutes
unfolding check_of
returns-then-substitutes c = simp (le-ltb _ _ c.if-run-gt-EDITS.false, le-ltb _ _ c.if-run-gt-READ.false) (c.check_substitutions.ensures ∙ sym (read_letters _ _ _ _ _ _ (sym c.substitutes.ensures ∙ c.if-substitutes.true)))

pub returns : goal.returns
unfolding check_of
returns c = simp (le-ltb _ _ c.if-run-gt-EDITS.false, le-ltb _ _ c.if-run-gt-READ.false) c.check_edits.ensures
