-- `front::pair_line::symbol_at` meets its contract: four bytes, the high one first. Assumes nothing.
use native.Mathlib.Nat.{add-zero}
use native.Mathlib.Omega.{arith}
use Rattle.frame.specs.Field.{big_at}
use Rattle.frame.proofs.HexLaws.{length_unhex}
use Rattle.front.proofs.pair_line.symbol_at.Goals as goal

pub overflow_add-at : goal.overflow_add-at
overflow_add-at c = omega (arith, rw length_unhex at c.requires)

pub overflow_add-at-2 : goal.overflow_add-at-2
overflow_add-at-2 c = omega (arith, rw length_unhex at c.requires)

pub overflow_add-at-3 : goal.overflow_add-at-3
overflow_add-at-3 c = omega (arith, rw length_unhex at c.requires)

pub returns : goal.returns
unfolding big_at
returns c = rw (c.from_be_bytes.ensures, c.byte_at.ensures, c.byte_at-2.ensures, c.byte_at-3.ensures, c.byte_at-4.ensures, add-zero) (omega arith)
