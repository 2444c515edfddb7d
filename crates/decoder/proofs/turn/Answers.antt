-- `decoder::turn` meets its contract: whether there is room, and whether a record is wanted, pick the case. Assumes nothing.
use Rattle.decoder.proofs.TurnLaws.{turn_short, turn_record, turn_last}
use Rattle.decoder.proofs.turn.Goals as goal

pub returns-then-out-le-DIGITS : goal.returns-then-out-le-DIGITS
returns-then-out-le-DIGITS c =
    let seen = turn_short _ _ _ _ _ _ _ c.if-out-le-DIGITS.true in
    record { value = seen.0; out_after = seen.1 }

pub returns-then-state-unit : goal.returns-then-state-unit
returns-then-state-unit c =
    let seen = turn_record _ _ _ _ _ _ _ c.if-out-le-DIGITS.false c.if-state-unit.true (c.record_turn.ensures.value, c.record_turn.ensures.out_after) in
    record { value = seen.0; out_after = seen.1 }

pub returns : goal.returns
returns c =
    let seen = turn_last _ _ _ _ _ _ _ c.if-out-le-DIGITS.false c.if-state-unit.false (c.last_turn.ensures.value, c.last_turn.ensures.out_after) in
    record { value = seen.0; out_after = seen.1 }
