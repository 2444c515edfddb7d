-- The laws of the text layer's probes: one field more.
-- Assumes nothing.
use Rattle.std.proofs.Common.{◌≡◌, ℕ, zero, suc, ◌+◌, ◌-◌, ◌*◌, ◌%◌, ◌^◌, ◌<◌, ◌≤◌, List, [], ◌++◌, length, refl, add-one, arith, length-append}
use Rattle.frame.specs.Hex.{be}
use Rattle.frame.specs.Field.{field_at}
use Rattle.frame.proofs.HexLaws.{length_be}
use Rattle.probe.specs.Text.{value_of, sum_to, countdown}

pub sum_more : (k : ℕ) (frame : List ℕ) {s v : ℕ} → s ≡ sum_to k frame → v ≡ value_of (field_at 2 frame (k * 2)) → (s + v) % 2 ^ 32 ≡ sum_to (k + 1) frame
unfolding sum_to
sum_more k frame e f = rw (add-one, e, f)

pub countdown_on : (k : ℕ) → 0 < k → countdown k ≡ be 4 k ++ countdown (k - 1)
unfolding countdown
countdown_on zero h = absurd (omega arith)
countdown_on (suc k) h = let e : suc k - 1 ≡ k = omega arith in rw e

pub countdown_none : (k : ℕ) → k ≤ 0 → countdown k ≡ []
unfolding countdown
countdown_none zero h = refl
countdown_none (suc k) h = absurd (omega arith)

pub length_countdown : (k : ℕ) → length (countdown k) ≡ 4 * k
unfolding countdown
length_countdown zero = refl
length_countdown (suc k) = omega (arith, length-append (be 4 (suc k)) (countdown k), length_be 4 (suc k), length_countdown k)
