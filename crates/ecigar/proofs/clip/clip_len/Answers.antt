-- `ecigar::clip::clip_len` meets its contract: the tests on the way pick the case. Assumes nothing.
use native.Mathlib.Omega.{arith}
use Rattle.ecigar.proofs.PrintLaws.{length_counted}
use Rattle.ecigar.proofs.WalkLaws.{clip_soft, clip_hard, clip_none}
use Rattle.ecigar.specs.Table90.{round_close, square_close}
use Rattle.ecigar.proofs.clip.clip_len.Goals as goal

pub returns-then-soft-ne0 : goal.returns-then-soft-ne0
returns-then-soft-ne0 c = (rw (clip_soft _ _ c.if-soft-ne0.true) (omega (arith, length_counted c.args.soft round_close, c.count_len.ensures.0)), omega arith)

pub returns-then-hard-ne0 : goal.returns-then-hard-ne0
returns-then-hard-ne0 c = (rw (clip_hard _ _ c.if-soft-ne0.false c.if-hard-ne0.true) (omega (arith, length_counted c.args.hard square_close, c.count_len-then-hard-ne0.ensures.0)), omega arith)

pub returns : goal.returns
returns c = (rw (clip_none _ _ c.if-soft-ne0.false c.if-hard-ne0.false), omega arith)
