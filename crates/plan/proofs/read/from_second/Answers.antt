-- `plan::read::from_second` meets its contract: what the segment came to picks the case. Assumes nothing.
use mathlib.Core.Path.{refl}
use Rattle.std.proofs.lemmas.Result.{err_from_is_err_and}
use Rattle.plan.proofs.Steps.{one_segment, two_segments, same_steps, steps_go_on, steps_stop, segment_came, segment_stopped, record_ends, ending_refused}
use Rattle.plan.proofs.read.from_second.Goals as goal

pub returns-in_err-plan : goal.returns-in_err-plan
returns-in_err-plan c = let p = err_from_is_err_and c.from_residual.result c.from_residual.ensures.1 in rw (p.1, p.2) (same_steps _ _ _ _ _ _ (one_segment _ _ _ _ _ _ _ _ c.if-link-lt-SEGMENTS.true) (ending_refused _ _ _ _ c.finish.ensures _ _ _ _ c.in_err-plan.was))

pub returns-then-link-lt-SEGMENTS : goal.returns-then-link-lt-SEGMENTS
returns-then-link-lt-SEGMENTS c = same_steps _ _ _ _ _ _ (one_segment _ _ _ _ _ _ _ _ c.if-link-lt-SEGMENTS.true) (record_ends _ _ _ _ c.finish.ensures _ _ _ _ c.in_ok-plan.was)

pub returns-in_err-second : goal.returns-in_err-second
returns-in_err-second c =
    let p = err_from_is_err_and c.from_residual-in_err-second.result c.from_residual-in_err-second.ensures.1 in rw (p.1, p.2)
    (same_steps _ _ _ _ _ _ (two_segments _ _ _ _ _ _ _ _ c.if-link-lt-SEGMENTS.false)
    (steps_stop _ _ _ _ _ _ _ (segment_stopped _ _ c.second_segment.ensures _ c.in_err-second.was) refl))

pub returns-in_err-plan-2 : goal.returns-in_err-plan-2
returns-in_err-plan-2 c =
    let p = err_from_is_err_and c.from_residual-in_err-plan-2.result c.from_residual-in_err-plan-2.ensures.1 in rw (p.1, p.2)
    (same_steps _ _ _ _ _ _ (two_segments _ _ _ _ _ _ _ _ c.if-link-lt-SEGMENTS.false)
    (steps_go_on _ _ _ _ _ _ _ _ (segment_came _ _ c.second_segment.ensures _ _ _ c.in_ok-second.was) (ending_refused _ _ _ _ c.finish-2.ensures _ _ _ _ c.in_err-plan-2.was)))

pub returns : goal.returns
returns c =
    same_steps _ _ _ _ _ _ (two_segments _ _ _ _ _ _ _ _ c.if-link-lt-SEGMENTS.false)
    (steps_go_on _ _ _ _ _ _ _ _ (segment_came _ _ c.second_segment.ensures _ _ _ c.in_ok-second.was) (record_ends _ _ _ _ c.finish-2.ensures _ _ _ _ c.in_ok-plan-2.was))
