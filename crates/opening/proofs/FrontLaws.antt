-- The laws of the front of the files: every reference line that is read adds a base.
-- Assumes nothing.
use Prim.Native.Nat.{ℕ}
use native.Mathlib.Omega.{arith}
use mathlib.Core.Path.{◌≡◌, sym}
use mathlib.Core.List.{List}
use Rattle.front.specs.ReferenceLine.{reference_line}
use Rattle.std.specs.Prelude.{Ok}
use Rattle.front.proofs.ReferenceLaws.{reference_accepted}
use Rattle.opening.specs.Code.Front.{Grown}

pub reference_grows : (line : List ℕ) (used places n : ℕ) → reference_line line used places ≡ Ok n → Grown places used n
reference_grows line used places n e =
    let w = (reference_accepted line used places n (sym e)).added in
    record { more = omega (arith, w.some, w.count); most = w.most; room = w.room }
