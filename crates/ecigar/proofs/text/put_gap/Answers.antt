-- `ecigar::text::put_gap` meets its contract: the test on the way picks the case. Assumes nothing.
use native.Mathlib.Omega.{arith}
use mathlib.Core.Path.{sym, ◌∙◌}
use lib.ListN.{length-append}
use Rattle.ecigar.proofs.WalkLaws.{gap_joined, gap_apart}
use Rattle.writing.proofs.LayLaws.{laid_none, laid_then, laid_as, length_laid}
use Rattle.ecigar.proofs.text.put_gap.Goals as goal

pub returns-then-joins : goal.returns-then-joins
returns-then-joins c = laid_as (sym (gap_joined _ _ (sym c.joins.ensures ∙ c.if-joins.true))) (laid_none _ _)

pub put_closed-next-requires : goal.put_closed-next-requires
put_closed-next-requires c = let p = rw (gap_apart _ _ (sym c.joins.ensures ∙ c.if-joins.false), length-append) at c.requires.1 in omega arith

pub put_matches-requires : goal.put_matches-requires
put_matches-requires c =
    let p = rw (gap_apart _ _ (sym c.joins.ensures ∙ c.if-joins.false), length-append) at c.requires.1 in
    let q = c.put_closed-next.ensures in
    omega (arith, q.to, length_laid q)

pub returns : goal.returns
returns c =
    laid_as (sym (gap_apart _ _ (sym c.joins.ensures ∙ c.if-joins.false))) (laid_then c.put_closed-next.ensures c.put_matches.ensures)
