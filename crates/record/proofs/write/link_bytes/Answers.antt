-- `record::write::link_bytes` meets its contract: byte by byte, where a number divided by 1 is itself. Assumes nothing.
use native.Mathlib.Nat.{div-one}
use Rattle.frame.specs.Hex.{be}
use Rattle.record.specs.Record.{link_bytes}
use Rattle.record.proofs.write.link_bytes.Goals as goal

pub returns : goal.returns
unfolding link_bytes be
returns c = rw (c.to_be_bytes-sequence.ensures, c.to_be_bytes-position.ensures, c.to_be_bytes.ensures, c.to_be_bytes-2.ensures, c.to_be_bytes-3.ensures) (simp (div-one, c.mate_sequence.ensures, c.mate_position.ensures.value))
