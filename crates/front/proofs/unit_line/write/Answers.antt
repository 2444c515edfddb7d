-- `front::unit_line::write` meets its contract: the line of its bytes. Assumes nothing.
use Rattle.front.proofs.unit_line.write.Goals as goal

pub returns : goal.returns
returns c = record { value = rw (← c.bytes_of-bytes.ensures) c.write_line.ensures.value; out_after = rw (← c.bytes_of-bytes.ensures) c.write_line.ensures.out_after }
