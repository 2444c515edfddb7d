-- `ecigar::text::put_closed` meets its contract: the tests on the way pick the case. Assumes nothing.
use mathlib.Core.Path.{sym}
use Rattle.ecigar.proofs.WalkLaws.{closed_insertion, closed_deletion, closed_none}
use Rattle.writing.proofs.LayLaws.{laid_none, laid_as}
use Rattle.ecigar.proofs.text.put_closed.Goals as goal

pub put_count-requires : goal.put_count-requires
put_count-requires c = rw (← closed_insertion c.args.w c.if-w-eq-INSERTION.true) c.requires

pub returns-then-w-eq-INSERTION : goal.returns-then-w-eq-INSERTION
returns-then-w-eq-INSERTION c =
    laid_as (sym (closed_insertion c.args.w c.if-w-eq-INSERTION.true)) c.put_count.ensures

pub put_count-requires-then-w-eq-DELETION : goal.put_count-requires-then-w-eq-DELETION
put_count-requires-then-w-eq-DELETION c =
    rw (← closed_deletion c.args.w c.if-w-eq-INSERTION.false c.if-w-eq-DELETION.true) c.requires

pub returns-then-w-eq-DELETION : goal.returns-then-w-eq-DELETION
returns-then-w-eq-DELETION c =
    laid_as (sym (closed_deletion c.args.w c.if-w-eq-INSERTION.false c.if-w-eq-DELETION.true)) c.put_count-then-w-eq-DELETION.ensures

pub returns : goal.returns
returns c = laid_as (sym (closed_none c.args.w c.if-w-eq-INSERTION.false c.if-w-eq-DELETION.false)) (laid_none _ _)
