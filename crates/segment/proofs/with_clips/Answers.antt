-- `segment::with_clips` meets its contract: two clips of 16 bits have few characters. Assumes nothing.
use native.Mathlib.Omega.{arith}
use Rattle.ecigar.proofs.LengthLaws.{ClipsFit, clips_most}
use borrow.Author.Rules.{rules}
use Rattle.segment.proofs.with_clips.Goals as goal

pub overflow_add-result : goal.overflow_add-result
overflow_add-result c =
    let p = c.args.clips in
    let fit : ClipsFit p = record { left_soft = search rules; left_hard = search rules; right_soft = search rules; right_hard = search rules } in
    omega (arith, c.clips_len.ensures, clips_most p fit, c.requires)

pub returns : goal.returns
returns c = rw c.clips_len.ensures
