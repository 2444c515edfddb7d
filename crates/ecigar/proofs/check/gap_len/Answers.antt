-- `ecigar::check::gap_len` meets its contract: the test on the way picks the case. Assumes nothing.
use native.Mathlib.Omega.{arith}
use mathlib.Core.Path.{sym, ◌∙◌}
use lib.ListN.{length-append}
use Rattle.ecigar.proofs.WalkLaws.{gap_joined, gap_apart}
use Rattle.ecigar.proofs.check.gap_len.Goals as goal

pub returns-then-joins : goal.returns-then-joins
returns-then-joins c = (rw (gap_joined _ _ (sym c.joins.ensures ∙ c.if-joins.true)), omega arith)

pub returns : goal.returns
returns c =
    (rw (gap_apart _ _ (sym c.joins.ensures ∙ c.if-joins.false), length-append, ← c.closed_len.ensures.0, ← c.matches_len.ensures.0), omega arith)
