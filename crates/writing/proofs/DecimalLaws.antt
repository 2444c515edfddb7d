-- The laws of decimal digits: the quotient by ten, then the last digit.
-- Assumes nothing.
use mathlib.Core.Path.{◌≡◌, refl}
use mathlib.Core.Bool.{Bool, true, false, cond}
use mathlib.Core.List.{[], ◌∷◌, ◌++◌}
use Prim.Native.Char.{code}
use Prim.Native.Nat.{ℕ, zero, suc, ◌+◌, ◌*◌, ◌/◌, ◌%◌, ◌^◌, ◌<◌, ◌≤◌}
use native.Mathlib.Nat.{pow-suc}
use native.Mathlib.Omega.{arith}
use borrow.Author.Tests.{lt-ltb, le-ltb, ltb-true, ltb-false}
use lib.Dec.{ltb}
use lib.ListN.{length, length-append}
use Rattle.writing.specs.Decimal.{decimal_f, decimal}
use Rattle.frame.specs.Hex.{Bytes}
use Rattle.frame.proofs.HexLaws.{by_test, bytes_one, bytes_append}

-- the part that is not chosen does not matter
cond_else : {A : Type 0} (t : Bool) (a b c : A) → (t ≡ false → b ≡ c) → cond t a b ≡ cond t a c
cond_else true a b c f = refl
cond_else false a b c f = f refl

-- any count above the number is enough
enough : (f g n : ℕ) → n < f → n < g → decimal_f f n ≡ decimal_f g n
unfolding decimal_f
enough zero g n h k = absurd (omega arith)
enough (suc f) zero n h k = absurd (omega arith)
enough (suc f) (suc g) n h k =
    cond_else (ltb n 10) _ _ _ (λ e. rw (enough f g (n / 10) (omega (arith, ltb-false n 10 e)) (omega (arith, ltb-false n 10 e))))

pub decimal_small : (n : ℕ) → n < 10 → decimal n ≡ (code "0" + n) ∷ []
unfolding decimal decimal_f
decimal_small n h = rw (lt-ltb n 10 h)

pub decimal_more : (n : ℕ) → 10 ≤ n → decimal n ≡ decimal (n / 10) ++ (code "0" + n % 10) ∷ []
unfolding decimal decimal_f
decimal_more n h = rw (le-ltb n 10 h, enough n (suc (n / 10)) (n / 10) (omega arith) (omega arith))

pub length_small : (n : ℕ) → n < 10 → length (decimal n) ≡ 1
length_small n h = rw (decimal_small n h)

pub length_more : (n : ℕ) → 10 ≤ n → length (decimal n) ≡ length (decimal (n / 10)) + 1
length_more n h = rw (decimal_more n h, length-append)

-- at most as many digits as the number says, and one: enough for a sum to fit
pub length_most : (f n : ℕ) → n < f → length (decimal n) ≤ n + 1
length_most zero n h = absurd (omega arith)
length_most (suc f) n h =
    by_test (ltb n 10) (λ e. omega (arith, length_small n (ltb-true n 10 e)))
    (λ e. let l : 10 ≤ n = ltb-false n 10 e in omega (arith, length_more n l, length_most f (n / 10) (omega arith)))

-- ---- how many digits a number has

-- below a power of ten, at most its exponent
pub digits_power : (d n : ℕ) → n < 10 ^ suc d → length (decimal n) ≤ suc d
digits_power zero n h = omega (arith, length_small n (omega arith))
digits_power (suc d) n h =
    by_test (ltb n 10) (λ e. omega (arith, length_small n (ltb-true n 10 e)))
    (λ e.
    let l : 10 ≤ n = ltb-false n 10 e in
    let p : 10 ^ suc (suc d) ≡ 10 ^ suc d * 10 = pow-suc 10 (suc d) in
    let q : n / 10 < 10 ^ suc d = omega arith in
    omega (arith, length_more n l, digits_power d (n / 10) q))

-- a number of 32 bits has at most ten digits, one of 16 bits at most five
pub digits_wide : (n : ℕ) → n < 2 ^ 32 → length (decimal n) ≤ 10
digits_wide n h = digits_power 9 n (omega arith)

pub digits_short : (n : ℕ) → n < 2 ^ 16 → length (decimal n) ≤ 5
digits_short n h = digits_power 4 n (omega arith)

-- never more digits than the number says
pub digits_most : (f n : ℕ) → n < f → 1 ≤ n → length (decimal n) ≤ n
digits_most zero n h k = absurd (omega arith)
digits_most (suc f) n h k =
    by_test (ltb n 10) (λ e. omega (arith, length_small n (ltb-true n 10 e)))
    (λ e. let l : 10 ≤ n = ltb-false n 10 e in omega (arith, length_more n l, digits_most f (n / 10) (omega arith) (omega arith)))

-- ---- each digit is a byte

pub bytes_digits : (f n : ℕ) → Bytes (decimal_f f n)
unfolding decimal_f Bytes
bytes_digits zero n = tt
bytes_digits (suc f) n =
    by_test (ltb n 10)
    (λ t. simp t (let l : n < 10 = ltb-true n 10 t in bytes_one (code "0" + n) (omega arith)))
    (λ t. simp t (bytes_append (decimal_f f (n / 10)) _ (bytes_digits f (n / 10)) (bytes_one (code "0" + n % 10) (omega arith))))
