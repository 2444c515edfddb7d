-- `decoder::refuse` meets its contract: there is room for an 05 line, `refuse_told`. Assumes nothing.
use Rattle.decoder.proofs.TurnLaws.{refuse_told}
use Rattle.decoder.proofs.refuse.Goals as goal

pub returns : goal.returns
returns c =
    let seen = refuse_told _ _ _ _ c.requires (c.write_refused-wrote.ensures.value, c.write_refused-wrote.ensures.out_after) c.stopped.ensures in
    record { value = rw (← c.from.ensures) seen.0; out_after = rw (← c.from.ensures) seen.1 }
