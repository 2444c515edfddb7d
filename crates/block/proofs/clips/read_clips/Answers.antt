-- `block::clips::read_clips` meets its contract: each step of the definition follows from what was read. Assumes nothing.
use mathlib.Core.Path.{refl}
use Rattle.std.proofs.lemmas.Result.{err_from_is_err_and}
use Rattle.frame.proofs.StepLaws.{value, ended}
use Rattle.block.specs.Clips.{clips_at}
use Rattle.block.proofs.clips.read_clips.Goals as goal

pub returns-in_err-left_soft : goal.returns-in_err-left_soft
unfolding clips_at
returns-in_err-left_soft c =
    let p = err_from_is_err_and c.from_residual.result c.from_residual.ensures.1 in
    rw (p.1, p.2) (ended _ _ _ _ _ _ c.read_u16.ensures.0 c.in_err-left_soft.was refl)

pub returns-in_err-left_hard : goal.returns-in_err-left_hard
unfolding clips_at
returns-in_err-left_hard c =
    let p = err_from_is_err_and c.from_residual-in_err-left_hard.result c.from_residual-in_err-left_hard.ensures.1 in
    rw (p.1, p.2) (value _ _ _ _ _ _ _ c.read_u16.ensures.0 c.in_ok-left_soft.was (ended _ _ _ _ _ _ c.read_u16-2.ensures.0 c.in_err-left_hard.was refl))

pub returns-in_err-right_soft : goal.returns-in_err-right_soft
unfolding clips_at
returns-in_err-right_soft c =
    let p = err_from_is_err_and c.from_residual-in_err-right_soft.result c.from_residual-in_err-right_soft.ensures.1 in
    rw (p.1, p.2) (value _ _ _ _ _ _ _ c.read_u16.ensures.0 c.in_ok-left_soft.was (value _ _ _ _ _ _ _ c.read_u16-2.ensures.0 c.in_ok-left_hard.was (ended _ _ _ _ _ _ c.read_u16-3.ensures.0 c.in_err-right_soft.was refl)))

pub returns-in_err-right_hard : goal.returns-in_err-right_hard
unfolding clips_at
returns-in_err-right_hard c =
    let p = err_from_is_err_and c.from_residual-in_err-right_hard.result c.from_residual-in_err-right_hard.ensures.1 in
    rw (p.1, p.2) (value _ _ _ _ _ _ _ c.read_u16.ensures.0 c.in_ok-left_soft.was (value _ _ _ _ _ _ _ c.read_u16-2.ensures.0 c.in_ok-left_hard.was (value _ _ _ _ _ _ _ c.read_u16-3.ensures.0 c.in_ok-right_soft.was (ended _ _ _ _ _ _ c.read_u16-4.ensures.0 c.in_err-right_hard.was refl))))

pub returns : goal.returns
unfolding clips_at
returns c = value _ _ _ _ _ _ _ c.read_u16.ensures.0 c.in_ok-left_soft.was (value _ _ _ _ _ _ _ c.read_u16-2.ensures.0 c.in_ok-left_hard.was (value _ _ _ _ _ _ _ c.read_u16-3.ensures.0 c.in_ok-right_soft.was (value _ _ _ _ _ _ _ c.read_u16-4.ensures.0 c.in_ok-right_hard.was (c.within.ensures))))
