-- `listing::close::bytes_05` meets its contract: byte by byte, where a number divided by 1 is itself. Assumes nothing.
use native.Mathlib.Nat.{div-one}
use Rattle.frame.specs.Hex.{be}
use Rattle.listing.proofs.close.bytes_05.Goals as goal

pub returns : goal.returns
unfolding be
returns c = rw (c.to_be_bytes.ensures, c.to_be_bytes-2.ensures) (simp div-one)
