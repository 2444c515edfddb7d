-- The laws of an answer as a signed integer.
-- Assumes nothing.
use mathlib.Core.Path.{◌≡◌, refl, ◌∙◌}
use mathlib.Core.List.{List}
use Prim.Native.Nat.{ℕ, ◌^◌, ◌<◌}
use lib.IntN.{ℤ}
use lib.Signed.{mag}
use mir.Syntax.{w64}
use mir.Val.{to_z, of_z}
use mir.ValLaws.{to_z-of_z}
use Rattle.lampbuckle.specs.Answer.{Outcome, outcome}

-- an answer that is passed on is read from its bits again
pub told : {a z : ℤ} → mag a < 2 ^ 63 → a ≡ z → to_z w64 (of_z w64 a) ≡ z
told h e = to_z-of_z w64 _ (record { sfits = h }) ∙ e

-- and with it the outcome
pub told_outcome : {a : ℤ} {lent : List (List ℕ)} {x : Outcome} → mag a < 2 ^ 63 → outcome a lent ≡ x → outcome (to_z w64 (of_z w64 a)) lent ≡ x
told_outcome h e = rw (told h refl) e
