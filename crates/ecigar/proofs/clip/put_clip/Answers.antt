-- `ecigar::clip::put_clip` meets its contract: the tests on the way pick the case. Assumes nothing.
use native.Mathlib.Omega.{arith}
use mathlib.Core.Path.{sym}
use Rattle.ecigar.proofs.WalkLaws.{clip_soft, clip_hard, clip_none}
use Rattle.writing.proofs.LayLaws.{laid_none, laid_then, laid_as, length_laid}
use Rattle.ecigar.proofs.clip.put_clip.Goals as goal

pub put_byte-next-requires : goal.put_byte-next-requires
put_byte-next-requires c = let p = rw (clip_soft _ _ c.if-soft-ne0.true) at c.requires in omega arith

pub put_count-requires : goal.put_count-requires
put_count-requires c =
    let p = rw (clip_soft _ _ c.if-soft-ne0.true) at c.requires in omega (arith, c.put_byte-next.ensures.to, length_laid c.put_byte-next.ensures)

pub returns-then-soft-ne0 : goal.returns-then-soft-ne0
returns-then-soft-ne0 c =
    laid_as (sym (clip_soft _ _ c.if-soft-ne0.true)) (laid_then c.put_byte-next.ensures c.put_count.ensures)

pub put_byte-next-requires-then-hard-ne0 : goal.put_byte-next-requires-then-hard-ne0
put_byte-next-requires-then-hard-ne0 c = let p = rw (clip_hard _ _ c.if-soft-ne0.false c.if-hard-ne0.true) at c.requires in omega arith

pub put_count-requires-then-hard-ne0 : goal.put_count-requires-then-hard-ne0
put_count-requires-then-hard-ne0 c =
    let p = rw (clip_hard _ _ c.if-soft-ne0.false c.if-hard-ne0.true) at c.requires in omega (arith, c.put_byte-next-then-hard-ne0.ensures.to, length_laid c.put_byte-next-then-hard-ne0.ensures)

pub returns-then-hard-ne0 : goal.returns-then-hard-ne0
returns-then-hard-ne0 c =
    laid_as (sym (clip_hard _ _ c.if-soft-ne0.false c.if-hard-ne0.true)) (laid_then c.put_byte-next-then-hard-ne0.ensures c.put_count-then-hard-ne0.ensures)

pub returns : goal.returns
returns c = laid_as (sym (clip_none _ _ c.if-soft-ne0.false c.if-hard-ne0.false)) (laid_none _ _)
