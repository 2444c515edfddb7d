-- `segment::write::head` meets its contract: seven bytes, each a quotient's remainder. Assumes nothing.
use Rattle.segment.proofs.WriteLaws.{head_bytes_lem}
use Rattle.segment.proofs.write.head.Goals as goal

pub returns : goal.returns
returns c = rw (c.to_be_bytes.ensures, c.to_be_bytes-2.ensures, c.to_be_bytes-3.ensures) (head_bytes_lem _ _ _)
