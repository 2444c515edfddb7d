-- The laws of the calls that write a line.
-- Assumes nothing.
use mathlib.Core.Path.{◌≡◌}
use mathlib.Core.List.{List, [], ◌∷◌}
use Prim.Native.Nat.{ℕ, ◌*◌, ◌^◌, ◌<◌}
use native.Mathlib.Omega.{arith}
use lib.Dec.{ltb}
use lib.IntN.{ℤ}
use lib.ListN.{length}
use borrow.Author.Tests.{ltb-true, eq-eqb}
use Rattle.std.specs.Prelude.{⊤, Ok, Err}
use Rattle.refusal.specs.declared.Refusal.{Refusal}
use Rattle.refusal.specs.Numbers.{number_of}
use Rattle.refusal.specs.Answers.{OrRefused}
use Rattle.writing.specs.Whole.{wrote_of, line_into}
use Rattle.frame.proofs.HexLaws.{by_test}
use Rattle.unit.specs.Unit.{unit_refusal}
use Rattle.front.specs.UnitLine.{unit_bytes}
use Rattle.unit.specs.declared.Unit.{Unit}
use Rattle.lampbuckle.specs.Answer.{minus, outcome}
use Rattle.lampbuckle.specs.Numbers.{unit_length, unit_of, unit_numbers_refusal}
use Rattle.lampbuckle.specs.Write.{wrote, written_call, unit_written}
use Rattle.lampbuckle.specs.Code.Countable.{Countable}

module _ (frame out : List ℕ) {r : OrRefused ℕ} {after : List ℕ} (is : (r ≡ wrote_of out frame) × (after ≡ line_into out frame)) where
  -- a line has fewer bytes than are lent
  pub line_counted : length out < 2 ^ 63 → Countable r
  unfolding wrote_of
  line_counted h =
      rw is.0
      (by_test (ltb (2 * length frame) (length out))
      (λ t. rw t (omega (arith, ltb-true (2 * length frame) (length out) t)))
      (λ t. rw t tt))

  pub line_written : {a : ℤ} → a ≡ wrote r → outcome a (after ∷ []) ≡ written_call frame out
  unfolding written_call
  line_written e = rw (e, is.0, is.1)

-- ---- the unit line

module _ (numbers out : List ℕ) {a : ℤ} where
  module _ (shape : length numbers ≡ unit_length) {u : Unit} (is : u ≡ unit_of numbers) {r : OrRefused ⊤} (by : r ≡ unit_refusal u) where
    pub unit_written_refused : {n : Refusal} → r ≡ Err n → a ≡ minus (number_of n) → outcome a (out ∷ []) ≡ unit_written numbers out
    unfolding unit_written unit_numbers_refusal
    unit_written_refused h e = rw (eq-eqb _ _ shape, ← is, ← by, h, e)

    pub unit_written_lem : {t : ⊤} → r ≡ Ok t → {w : OrRefused ℕ} {after : List ℕ} → (w ≡ wrote_of out (unit_bytes u)) × (after ≡ line_into out (unit_bytes u)) → a ≡ wrote w
        → outcome a (after ∷ []) ≡ unit_written numbers out
    unfolding unit_written unit_numbers_refusal
    unit_written_lem h w e = rw (eq-eqb _ _ shape, ← is, ← by, h) (line_written (unit_bytes u) out w e)
