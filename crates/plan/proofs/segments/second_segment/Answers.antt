-- `plan::segments::second_segment` meets its contract: the class picks the steps, then what the head came to. Assumes nothing.
use mathlib.Core.Path.{refl}
use Rattle.std.proofs.lemmas.Result.{err_from_is_err_and}
use Rattle.taking.proofs.Decoding.{decode_ends, Any}
use Rattle.block.specs.Code.Ready.{ReadyHead}
use Rattle.block.proofs.Steps.{head_came, head_stopped}
use Rattle.block.proofs.ReadyLaws.{head_ready}
use Rattle.plan.proofs.Steps.{second_plain, second_placed, moved_steps, plain_moved, plain_refused, headed, headed_refused, headless}
use Rattle.plan.proofs.segments.second_segment.Goals as goal

pub returns-in_err-segment : goal.returns-in_err-segment
returns-in_err-segment c = let p = err_from_is_err_and c.from_residual.result c.from_residual.ensures.1 in rw (p.1, p.2) (moved_steps _ _ _ _ _ _ (second_plain _ _ _ _ _ _ _ c.if-unit-ge-HM.true) (plain_refused _ _ _ _ _ _ _ c.read_unaligned.ensures _ c.in_err-segment.was))

pub returns-then-unit-ge-HM : goal.returns-then-unit-ge-HM
returns-then-unit-ge-HM c = moved_steps _ _ _ _ _ _ (second_plain _ _ _ _ _ _ _ c.if-unit-ge-HM.true) (plain_moved _ _ _ _ _ _ _ c.read_unaligned.ensures _ _ c.in_ok-segment.was)

pub returns-in_err-head : goal.returns-in_err-head
returns-in_err-head c =
    let p = err_from_is_err_and c.from_residual-in_err-head.result c.from_residual-in_err-head.ensures.1 in rw (p.1, p.2)
    (moved_steps _ _ _ _ _ _ (second_placed _ _ _ _ _ _ _ c.if-unit-ge-HM.false) (headless _ _ _ _ _ _ _ _ _ (head_stopped _ _ (c.read.ensures _) _ c.in_err-head.was)))

pub read_aligned-requires : goal.read_aligned-requires
read_aligned-requires c =
    record { ready_head = decode_ends _ _ Any (ReadyHead _ _) (λ at. refl) _ _ (head_ready _ _ 0 _) _ _ (head_came _ _ (c.read.ensures 0) _ _ c.in_ok-head.was); position_bound = c.mate_position-position.ensures.wide }

pub returns-in_err-segment-2 : goal.returns-in_err-segment-2
returns-in_err-segment-2 c =
    let p = err_from_is_err_and c.from_residual-in_err-segment-2.result c.from_residual-in_err-segment-2.ensures.1 in rw (p.1, p.2)
    (moved_steps _ _ _ _ _ _ (second_placed _ _ _ _ _ _ _ c.if-unit-ge-HM.false) (headed_refused _ _ _ _ _ _ _ _ _ _ (head_came _ _ (c.read.ensures _) _ _ c.in_ok-head.was) _ (rw c.mate_position-position.ensures.value at c.read_aligned.ensures) _ c.in_err-segment-2.was))

pub returns : goal.returns
returns c =
    moved_steps _ _ _ _ _ _ (second_placed _ _ _ _ _ _ _ c.if-unit-ge-HM.false) (headed _ _ _ _ _ _ _ _ _ _ (head_came _ _ (c.read.ensures _) _ _ c.in_ok-head.was) _ (rw c.mate_position-position.ensures.value at c.read_aligned.ensures) _ _ c.in_ok-segment-2.was)
