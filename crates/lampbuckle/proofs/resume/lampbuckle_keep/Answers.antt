-- `lampbuckle::resume::lampbuckle_keep` meets its contract, by the test of the shape. Assumes nothing.
use mathlib.Core.Path.{◌∙◌}
use Rattle.lampbuckle.specs.Resume.{keep_call}
use Rattle.lampbuckle.proofs.AnswerLaws.{told}
use Rattle.lampbuckle.proofs.ResumeLaws.{flag_is, keep_gone}
use borrow.Author.Tests.{ne_eqb}
use Rattle.lampbuckle.proofs.resume.lampbuckle_keep.Goals as goal

pub returns-then-keep-ne-KEEP : goal.returns-then-keep-ne-KEEP
unfolding keep_call
returns-then-keep-ne-KEEP c = rw (ne_eqb _ _ c.if-keep-ne-KEEP.true, told c.refused.type_inv c.refused.ensures)

pub returns : goal.returns
returns c =
    keep_gone _ _ c.if-keep-ne-KEEP.false c.read_keep-before.ensures c.over-after.ensures c.lay_keep.ensures (c.from.ensures ∙ flag_is _) (told c.counted.type_inv c.counted.ensures)
