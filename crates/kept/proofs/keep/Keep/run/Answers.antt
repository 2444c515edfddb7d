-- `kept::keep::Keep::run` meets its contract: what can be counted is, and the rest is not. Assumes nothing.
use mathlib.Core.Path.{◌∙◌, ap}
use Rattle.kept.specs.Keep.{kept_no_more}
use Rattle.kept.specs.Code.Run.{keep_run}
use borrow.Author.Tests.{le-leb, lt-leb}
use Rattle.kept.proofs.keep.Keep.run.Goals as goal

pub returns-then-self : goal.returns-then-self
unfolding keep_run
returns-then-self c = simp c.if-self.true

pub returns-then-n-left : goal.returns-then-n-left
unfolding keep_run
returns-then-n-left c = simp (c.if-self.false, le-leb _ _ c.if-n-left.true) c.passed_by.ensures

pub returns : goal.returns
unfolding keep_run
returns c = simp (c.if-self.false, lt-leb _ _ c.if-n-left.false) (c.stopped.ensures ∙ ap kept_no_more c.passed_by-2.ensures)
