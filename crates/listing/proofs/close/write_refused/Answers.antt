-- `listing::close::write_refused` meets its contract: the line of its bytes. Assumes nothing.
use Rattle.listing.proofs.close.write_refused.Goals as goal

pub returns : goal.returns
returns c = record { value = rw (← c.bytes_05-bytes.ensures) c.write_line.ensures.value; out_after = rw (← c.bytes_05-bytes.ensures) c.write_line.ensures.out_after }
