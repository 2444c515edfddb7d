-- The laws of answers: which way a definition goes, from what a call answered; and back, what was accepted on the way to an accepted answer.
-- Assumes nothing.
use mathlib.Core.Path.{◌≡◌, refl, ap}
use Prim.Native.Nat.{ℕ}
use native.Mathlib.Omega.{arith}
use Rattle.std.specs.Prelude.{⊤, Ok, Err}
use Rattle.refusal.specs.declared.Refusal.{Refusal}
use Rattle.refusal.specs.Answers.{OrRefused, no_refusal, after_ok, checked}

-- no answer accepts and refuses
pub never_accepted : {P A : Type 0} {a : A} {n : Refusal} → ◌≡◌ {A = OrRefused A} (Ok a) (Err n) → P
never_accepted e = absurd (let z : ◌≡◌ {A = ℕ} 0 1 = cc in omega arith)

pub never_refused : {P A : Type 0} {a : A} {n : Refusal} → ◌≡◌ {A = OrRefused A} (Err n) (Ok a) → P
never_refused e = absurd (let z : ◌≡◌ {A = ℕ} 0 1 = cc in omega arith)

-- ---- onwards

module _ {A B : Type 0} (x : OrRefused B) (r spec : OrRefused A) (f : A → OrRefused B) where
  pub goes : (a : A) → r ≡ spec → r ≡ Ok a → x ≡ f a → x ≡ after_ok spec f
  goes a e h k = rw (← e, h) k

  pub stops : (n : Refusal) → r ≡ spec → r ≡ Err n → x ≡ Err n → x ≡ after_ok spec f
  stops n e h k = rw (← e, h) k

module _ {B : Type 0} (x : OrRefused B) (r spec : OrRefused ⊤) (go_on : OrRefused B) where
  pub passes : (t : ⊤) → r ≡ spec → r ≡ Ok t → x ≡ go_on → x ≡ checked spec go_on
  passes t e h k = rw (← e, h) k

  pub check_stops : (n : Refusal) → r ≡ spec → r ≡ Err n → x ≡ Err n → x ≡ checked spec go_on
  check_stops n e h k = rw (← e, h) k

-- ---- and back

-- what was accepted on the way to b
pub record PastOk {A B : Type 0} (r : OrRefused A) (f : A → OrRefused B) (b : B) : Type 0 where
  pub value : A
  pub accepted : r ≡ Ok value
  pub rest : f value ≡ Ok b

pub past_ok : {A B : Type 0} (r : OrRefused A) (f : A → OrRefused B) (b : B) → after_ok r f ≡ Ok b → PastOk r f b
past_ok (Ok a) f b e = record { value = a; accepted = refl; rest = e }
past_ok (Err n) f b e = never_refused e

pub past_checked : {B : Type 0} (r : OrRefused ⊤) (go_on : OrRefused B) (b : B) → checked r go_on ≡ Ok b → (r ≡ no_refusal) × (go_on ≡ Ok b)
past_checked (Ok t) go_on b e = (refl, e)
past_checked (Err n) go_on b e = never_refused e

-- two answers of two values each
pub ok_pair : {A B : Type 0} {a c : A} {b d : B} → ◌≡◌ {A = OrRefused (A × B)} (Ok (a, b)) (Ok (c, d)) → (a ≡ c) × (b ≡ d)
ok_pair {A} {B} {a} {c} {b} {d} e =
    let both : ◌≡◌ {A = A × B} (a, b) (c, d) = cc in
    (ap (λ (x : A × B). x.0) both, ap (λ (x : A × B). x.1) both)

-- ---- all of them, for `search`

pub ruleset answered = (goes, stops, passes, check_stops)
