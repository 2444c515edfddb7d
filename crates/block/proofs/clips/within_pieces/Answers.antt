-- `block::clips::within_pieces` meets its contract: the first and the last length stand where it reads them. Assumes nothing.
use mathlib.Core.Path.{refl, sym, ◌∙◌}
use native.Mathlib.Omega.{arith}
use Rattle.block.specs.Clips.{clips_in_pieces}
use Rattle.block.proofs.LengthLaws.{last_length_lem, length_inside}
use Rattle.block.proofs.Steps.{clip_reaches, clip_below}
use Rattle.block.proofs.clips.within_pieces.Goals as goal

pub returns-then-word_at-from : goal.returns-then-word_at-from
unfolding clips_in_pieces
returns-then-word_at-from c = clip_reaches _ _ _ _ _ _ c.word_at.ensures.0 (rw c.from.ensures at c.if-word_at-from.true) refl

-- the first length is more than the left soft clip, so it stands in the frame
pub overflow_add-last : goal.overflow_add-last
overflow_add-last c =
    let inside = length_inside c.args.frame.now c.args.splices.lengths_at (omega (arith, c.word_at.ensures.0, c.if-word_at-from.false)) in
    omega (arith, inside)

pub returns-then-word_at-from-2 : goal.returns-then-word_at-from-2
unfolding clips_in_pieces
returns-then-word_at-from-2 c =
    clip_below _ _ _ _ _ _ c.word_at.ensures.0 (rw c.from.ensures at c.if-word_at-from.false)
    (clip_reaches _ _ _ _ _ _ (c.word_at-2.ensures.0 ∙ sym (last_length_lem _ c.args.splices c.requires)) (rw c.from-2.ensures at c.if-word_at-from-2.true) refl)

pub returns : goal.returns
unfolding clips_in_pieces
returns c =
    clip_below _ _ _ _ _ _ c.word_at.ensures.0 (rw c.from.ensures at c.if-word_at-from.false)
    (clip_below _ _ _ _ _ _ (c.word_at-2.ensures.0 ∙ sym (last_length_lem _ c.args.splices c.requires)) (rw c.from-2.ensures at c.if-word_at-from-2.false) refl)
