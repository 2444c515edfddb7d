-- `ecigar::check::complete` meets its contract: the two tests are the one of the definition. Assumes nothing.
use native.Mathlib.Omega.{arith}
use Prim.Native.Nat.{◌+◌}
use lib.ListN.{length}
use borrow.Author.Tests.{le-ltb, lt-ltb}
use Rattle.ecigar.proofs.check.complete.Goals as goal

pub returns-then-all-bytes : goal.returns-then-all-bytes
returns-then-all-bytes c = let s = c.args in simp (lt-ltb (length s.frame.now) (s.at + s.bytes) (omega arith))

pub returns-then-all-bytes-2 : goal.returns-then-all-bytes-2
returns-then-all-bytes-2 c = let s = c.args in simp (lt-ltb (length s.frame.now) (s.at + s.bytes) (omega arith))

pub returns : goal.returns
returns c = let s = c.args in simp (le-ltb (length s.frame.now) (s.at + s.bytes) (omega arith))
