-- The laws of reading a line step by step: which way a definition goes, from what the code was answered and tested.
-- Assumes nothing.
use mathlib.Core.Path.{◌≡◌, refl}
use mathlib.Core.Bool.{cond}
use mathlib.Core.List.{List}
use Prim.Native.Nat.{ℕ, ◌+◌, ◌/◌, ◌<◌, ◌≤◌}
use borrow.Author.Tests.{lt-ltb, le-ltb, eq-eqb, ne_eqb, ltb-true, ltb-false, leb-true, eqb-true}
use lib.Dec.{ltb, leb, eqb}
use lib.ListN.{length}
use Rattle.frame.specs.Hex.{unhex}
use Rattle.frame.specs.Field.{big_at, field_at, after_field}
use Rattle.std.specs.Prelude.{Ok, Err}
use Rattle.refusal.specs.Answers.{OrRefused}
use Rattle.refusal.specs.declared.Refusal.{Refusal}
use Rattle.refusal.specs.declared.Refusal.TheVariants.{Malformed, Misframed}
use Rattle.frame.specs.declared.field.Cursor.{Cursor}
use Rattle.frame.specs.Line.{line_within}
use Rattle.frame.specs.Field.{Field}
use Rattle.frame.proofs.LineLaws.{line_malformed}
use Rattle.frame.proofs.HexLaws.{by_test, length_unhex}
use Rattle.frame.proofs.Tests.{cond_of}
use Rattle.frame.specs.Steps.{after_line}

module _ {X : Type 0} (x : X) where
  -- ---- a line's answer

  pub framed : (r spec : OrRefused ℕ) (n : ℕ) (stop : Refusal → X) (y : X) → r ≡ spec → r ≡ Ok n → x ≡ y → x ≡ after_line stop spec y
  framed r spec n stop y e h k = rw (← e, h) k

  pub unframed : (r spec : OrRefused ℕ) (n : Refusal) (stop : Refusal → X) (y : X) → r ≡ spec → r ≡ Err n → x ≡ stop n → x ≡ after_line stop spec y
  unframed r spec n stop y e h k = rw (← e, h) k

  -- ---- a field's answer

  pub value : (r spec : Field) (v : ℕ) (c : Cursor) (stop : Refusal → X) (f : ℕ → Cursor → X) → r ≡ spec → r ≡ Ok (v, c) → x ≡ f v c → x ≡ after_field stop spec f
  value r spec v c stop f e h k = rw (← e, h) k

  pub ended : (r spec : Field) (n : Refusal) (stop : Refusal → X) (f : ℕ → Cursor → X) → r ≡ spec → r ≡ Err n → x ≡ stop n → x ≡ after_field stop spec f
  ended r spec n stop f e h k = rw (← e, h) k

  -- ---- a test

  pub when : (a b : ℕ) (p q : X) → a < b → x ≡ p → x ≡ cond (ltb a b) p q
  when a b p q h k = rw (lt-ltb a b h) k

  pub unless : (a b : ℕ) (p q : X) → b ≤ a → x ≡ q → x ≡ cond (ltb a b) p q
  unless a b p q h k = rw (le-ltb a b h) k

  pub same : (a b : ℕ) (p q : X) → a ≡ b → x ≡ p → x ≡ cond (eqb a b) p q
  same a b p q h k = rw (eq-eqb a b h) k

  pub differ : (a b : ℕ) (p q : X) → (a ≡ b → ⊥) → x ≡ q → x ≡ cond (eqb a b) p q
  differ a b p q h k = rw (ne_eqb a b h) k

  -- ---- a test against what a call answered

  pub under : (a r spec : ℕ) (p q : X) → r ≡ spec → a < r → x ≡ p → x ≡ cond (ltb a spec) p q
  under a r spec p q e h k = rw (← e) (when a r p q h k)

  pub reaches : (a r spec : ℕ) (p q : X) → r ≡ spec → r ≤ a → x ≡ q → x ≡ cond (ltb a spec) p q
  reaches a r spec p q e h k = rw (← e) (unless a r p q h k)

  -- ---- bytes left over, counted in the line's digits

  pub over : (a : ℕ) (l : List ℕ) (p q : X) → a < length l / 2 → x ≡ p → x ≡ cond (ltb a (length (unhex l))) p q
  over a l p q h k = rw length_unhex (when a (length l / 2) p q h k)

  pub whole : (a : ℕ) (l : List ℕ) (p q : X) → length l / 2 ≤ a → x ≡ q → x ≡ cond (ltb a (length (unhex l))) p q
  whole a l p q h k = rw length_unhex (unless a (length l / 2) p q h k)

-- ---- what holds of every end of a definition

pub by_line : {X : Type 0} (P : X → Type 0) (most : ℕ) (s : List ℕ) (stop : Refusal → X) (x : X) → P (stop Malformed) → P x → P (after_line stop (line_within most s) x)
by_line P most s stop x h k = by (line_within most s) refl
  where
    by : (r : OrRefused ℕ) → line_within most s ≡ r → P (after_line stop r x)
    by (Ok n) e = k
    by (Err n) e = rw (line_malformed most s n e) h

pub by_field : {X : Type 0} (P : X → Type 0) (k : ℕ) (s : List ℕ) (at : ℕ) (stop : Refusal → X) (f : ℕ → Cursor → X) → P (stop Misframed) → ((v : ℕ) (c : Cursor) → P (f v c)) → P (after_field stop (field_at k s at) f)
unfolding field_at
by_field P k s at stop f h g = cond_of (λ (r : Field). P (after_field stop r f)) (leb (at + k) (length s)) _ _ (λ t. g _ _) (λ t. h)

-- ---- the way back: where the definition does not end early, what held

-- what is left of a definition that comes to y, behind a line that is well formed
pub record PastLine {X : Type 0} (r : OrRefused ℕ) (x y : X) : Type 0 where
  pub bytes : ℕ
  pub frame : r ≡ Ok bytes
  pub rest : x ≡ y

-- behind a field that is complete
pub record PastField {X : Type 0} (k : ℕ) (s : List ℕ) (at : ℕ) (f : ℕ → Cursor → X) (y : X) : Type 0 where
  pub fits : at + k ≤ length s
  pub rest : f (big_at k s at) (record { at = at + k }) ≡ y

module _ {X : Type 0} {y : X} (stop : Refusal → X) (other : (n : Refusal) → stop n ≡ y → ⊥) where
  pub past_line : (r : OrRefused ℕ) (x : X) → after_line stop r x ≡ y → PastLine r x y
  past_line (Ok n) x e = record { bytes = n; frame = refl; rest = e }
  past_line (Err n) x e = absurd (other n e)

  pub past_field : (k : ℕ) (s : List ℕ) (at : ℕ) (f : ℕ → Cursor → X) → after_field stop (field_at k s at) f ≡ y → PastField k s at f y
  unfolding field_at
  past_field k s at f e =
      by_test (leb (at + k) (length s))
      (λ t. record { fits = leb-true _ _ t; rest = simp t at e })
      (λ t. absurd (other Misframed (simp t at e)))

module _ {X : Type 0} {y : X} (bad : X) (other : bad ≡ y → ⊥) where
  -- behind a test that refuses, and behind one that lets pass
  pub past_refusal : (a b : ℕ) (x : X) → cond (ltb a b) bad x ≡ y → (b ≤ a) × (x ≡ y)
  past_refusal a b x e = by_test (ltb a b) (λ t. absurd (other (simp t at e))) (λ t. (ltb-false a b t, simp t at e))

  pub past_limit : (a b : ℕ) (x : X) → cond (ltb a b) x bad ≡ y → (a < b) × (x ≡ y)
  past_limit a b x e = by_test (ltb a b) (λ t. (ltb-true a b t, simp t at e)) (λ t. absurd (other (simp t at e)))

  pub past_match_lem : (a b : ℕ) (x : X) → cond (eqb a b) x bad ≡ y → (a ≡ b) × (x ≡ y)
  past_match_lem a b x e = by_test (eqb a b) (λ t. (eqb-true a b t, simp t at e)) (λ t. absurd (other (simp t at e)))

-- ---- all of them, for `search`

pub ruleset steps = (framed, unframed, value, ended, when, unless, same, differ, under, reaches, over, whole)
