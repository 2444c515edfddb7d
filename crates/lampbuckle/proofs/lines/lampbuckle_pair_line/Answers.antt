-- `lampbuckle::lines::lampbuckle_pair_line` meets its contract, by the test of the shape and by what the reader answered. Assumes nothing.
use Rattle.lampbuckle.proofs.LineLaws.{pair_call_refused, pair_read, pair_place}
use Rattle.lampbuckle.specs.Lines.{pair_call}
use Rattle.lampbuckle.proofs.AnswerLaws.{told}
use borrow.Author.Tests.{ne_eqb}
use Rattle.lampbuckle.proofs.lines.lampbuckle_pair_line.Goals as goal

pub returns-then-counts-ne-SUBSEQUENCES : goal.returns-then-counts-ne-SUBSEQUENCES
unfolding pair_call
returns-then-counts-ne-SUBSEQUENCES c = rw (ne_eqb _ _ c.if-counts-ne-SUBSEQUENCES.true, told c.refused.type_inv c.refused.ensures)

pub bounds-counts-subsequence : goal.bounds-counts-subsequence
bounds-counts-subsequence c =
    pair_place _ _ _ c.args.counts.now c.if-counts-ne-SUBSEQUENCES.false (c.read.ensures.value, c.read.ensures.table_after) c.in-Ok.is

pub returns-in-Err : goal.returns-in-Err
returns-in-Err c =
    pair_call_refused _ _ _ _ c.if-counts-ne-SUBSEQUENCES.false (c.read.ensures.value, c.read.ensures.table_after) c.in-Err.is (told c.refused-in-Err.type_inv c.refused-in-Err.ensures)

pub returns-in-Ok : goal.returns-in-Ok
returns-in-Ok c =
    pair_read _ _ _ _ c.if-counts-ne-SUBSEQUENCES.false (c.read.ensures.value, c.read.ensures.table_after) c.in-Ok.is (told c.counted.type_inv c.counted.ensures)
