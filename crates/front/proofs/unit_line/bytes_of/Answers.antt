-- `front::unit_line::bytes_of` meets its contract: byte by byte, where a number divided by 1 is itself. Assumes nothing.
use native.Mathlib.Nat.{div-one}
use Rattle.frame.specs.Hex.{be}
use Rattle.front.specs.UnitLine.{unit_bytes}
use Rattle.front.proofs.unit_line.bytes_of.Goals as goal

pub returns : goal.returns
unfolding unit_bytes be
returns c =
    rw (
      c.copy_from_slice.ensures.after,
      c.copy_from_slice-2.ensures.after,
      c.copy_from_slice-3.ensures.after,
      c.copy_from_slice-4.ensures.after,
      c.copy_from_slice-5.ensures.after,
      c.to_be_bytes.ensures,
      c.to_be_bytes-2.ensures,
      c.to_be_bytes-3.ensures,
      c.to_be_bytes-4.ensures,
      c.to_be_bytes-5.ensures,
      c.to_be_bytes-6.ensures,
      c.to_be_bytes-7.ensures,
      c.to_be_bytes-8.ensures,
    ) (simp div-one)
