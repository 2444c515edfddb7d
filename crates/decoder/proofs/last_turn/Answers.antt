-- `decoder::last_turn` meets its contract: the tests on the way pick the last line. Assumes nothing.
use Rattle.decoder.proofs.TurnLaws.{finish_told, last_behind, last_done, last_left}
use Rattle.decoder.proofs.last_turn.Goals as goal

pub returns-then-line-ne0 : goal.returns-then-line-ne0
returns-then-line-ne0 c =
    let seen = last_behind _ _ _ _ _ c.if-line-ne0.true (c.refuse.ensures.value, c.refuse.ensures.out_after) in
    record { value = seen.0; out_after = seen.1 }

pub returns-then-all_taken : goal.returns-then-all_taken
returns-then-all_taken c =
    let whole = finish_told _ _ _ c.requires (c.write_done.ensures.value, c.write_done.ensures.out_after) c.stopped.ensures in
    let seen = last_done _ _ _ _ _ _ c.all_taken.ensures c.if-line-ne0.false c.if-all_taken.true whole in
    record { value = seen.0; out_after = seen.1 }

pub returns : goal.returns
returns c =
    let seen = last_left _ _ _ _ _ _ c.all_taken.ensures c.if-line-ne0.false c.if-all_taken.false (c.refuse-2.ensures.value, c.refuse-2.ensures.out_after) in
    record { value = seen.0; out_after = seen.1 }
