-- `probe::text::probe_lay` meets its contract. The loop's invariant: to lay what is left, from here, gives what laying the whole gives. Assumes nothing.
use Rattle.std.proofs.Common.{◌-◌, arith, le-ltb, lt-ltb}
use Rattle.frame.specs.Hex.{be}
use Rattle.frame.proofs.HexLaws.{length_be}
use Rattle.writing.proofs.LayLaws.{rest_start, rest_put, rest_room, rest_done}
use Rattle.probe.specs.Text.{countdown, count_into}
use Rattle.probe.proofs.TextLaws.{countdown_on, countdown_none, length_countdown}
use Rattle.probe.proofs.text.probe_lay.Goals as goal

pub returns-then-out-fields : goal.returns-then-out-fields
unfolding count_into
returns-then-out-fields c = simp (lt-ltb _ _ c.if-out-fields.true)

pub loop-left-init : goal.loop-left-init
loop-left-init c = rest_start _ _ _

pub put_u32-at-requires : goal.put_u32-at-requires
put_u32-at-requires c =
    let p = c.args in
    let left = c.loop-left.left in
    let h = rest_room (be 4 left) (countdown (left - 1)) c.loop-left.invariant (countdown_on _ c.loop-left-test.true) (omega (arith, length_countdown p.fields)) in
    omega (arith, length_be 4 left)

pub loop-left-preserved : goal.loop-left-preserved
loop-left-preserved c = rest_put c.loop-left.invariant (countdown_on _ c.loop-left-test.true) c.put_u32-at.ensures

pub returns : goal.returns
unfolding count_into
returns c = simp (le-ltb _ _ c.if-out-fields.false) (rest_done c.loop-left.invariant (countdown_none _ (omega arith))).holds
