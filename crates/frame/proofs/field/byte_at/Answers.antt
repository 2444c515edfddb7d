-- `frame::field::byte_at` meets its contract: the byte, or 0 past the end. Assumes nothing.
use Prim.Native.Nat.{ℕ}
use mathlib.Core.Path.{sym}
use native.Mathlib.Omega.{arith}
use lib.ListN.{get_or-eq_default}
use Rattle.frame.proofs.field.byte_at.Goals as goal

pub returns-else-i-count : goal.returns-else-i-count
returns-else-i-count g c = sym (get_or-eq_default {A = ℕ} _ 0 {n = c.args.i} (omega arith))
