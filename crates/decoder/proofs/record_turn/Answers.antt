-- `decoder::record_turn` meets its contract: what the record call answers picks the case, and it has room. Assumes nothing.
use Rattle.decoder.proofs.TurnLaws.{record_missing, turn_listed, turn_refused}
use borrow.Author.Rules.{rules}
use Rattle.decoder.proofs.record_turn.Goals as goal

pub returns-then-line-eq0 : goal.returns-then-line-eq0
returns-then-line-eq0 c =
    let seen = record_missing _ _ _ _ _ _ _ c.if-line-eq0.true (c.refuse.ensures.value, c.refuse.ensures.out_after) in
    record { value = seen.0; out_after = seen.1 }

pub returns-in-Ok : goal.returns-in-Ok
returns-in-Ok c =
    let seen = turn_listed _ _ _ _ _ _ _ c.if-line-eq0.false (search rules) (search rules) c.requires (c.record-r.ensures.value, c.record-r.ensures.out_after) _ c.in-Ok.is in
    record { value = seen.0; out_after = seen.1 }

pub returns-in-Err : goal.returns-in-Err
returns-in-Err c =
    let seen = turn_refused _ _ _ _ _ _ _ c.if-line-eq0.false (search rules) (search rules) c.requires (c.record-r.ensures.value, c.record-r.ensures.out_after) _ c.in-Err.is (c.refuse-in-Err.ensures.value, c.refuse-in-Err.ensures.out_after) in
    record { value = seen.0; out_after = seen.1 }
