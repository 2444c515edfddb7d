-- `lampbuckle::resume::lampbuckle_pass` meets its contract, by the test of the shape. Assumes nothing.
use native.Mathlib.Omega.{arith}
use Rattle.lampbuckle.specs.Resume.{pass_call}
use Rattle.lampbuckle.proofs.AnswerLaws.{told}
use Rattle.lampbuckle.proofs.ResumeLaws.{pass_counted, pass_gone}
use mathlib.Core.List.{[], ◌∷◌}
use Rattle.lampbuckle.proofs.NumberLaws.{sets_whole}
use borrow.Author.Tests.{ne_eqb}
use Rattle.lampbuckle.proofs.resume.lampbuckle_pass.Goals as goal

pub returns-then-wanted-ne-WANTED : goal.returns-then-wanted-ne-WANTED
unfolding pass_call
returns-then-wanted-ne-WANTED c = rw (ne_eqb _ _ c.if-wanted-ne-WANTED.true, told c.refused.type_inv c.refused.ensures)

pub counted-requires : goal.counted-requires
counted-requires c = pass_counted _ c.args.wanted.now c.pass-p.ensures (omega arith)

pub returns : goal.returns
returns c =
    pass_gone _ _ c.pass-p.ensures c.if-wanted-ne-WANTED.false (sets_whole (c.pass-p.result.left ∷ []) c.args.wanted.now c.if-wanted-ne-WANTED.false) (told c.counted.type_inv c.counted.ensures)
