-- `writing::lay::put_byte` meets its contract: two stores are what `lay` says of one byte. Assumes nothing.
use native.Mathlib.Omega.{arith}
use Rattle.writing.specs.Lay.{lay}
use Rattle.writing.proofs.lay.put_byte.Goals as goal

pub returns : goal.returns
unfolding lay
returns c = record { to = omega arith; holds = cc }
