-- The laws of indexes within their counts: from the whole and to it, and one comparison more of a scan.
-- Assumes nothing.
use mathlib.Core.Path.{◌≡◌, refl, sym}
use mathlib.Core.Bool.{Bool, true, false}
use mathlib.Core.List.{List, [], ◌∷◌}
use Prim.Native.Nat.{ℕ, zero, suc, ◌<◌, ◌≤◌}
use native.Mathlib.Omega.{arith}
use borrow.Author.Tests.{le-ltb, ltb-false}
use lib.Dec.{eqb, ltb}
use lib.Pointwise.{pointwise}
use lib.ListN.{length, get_or}
use Rattle.frame.proofs.HexLaws.{by_test, false_true}
use Rattle.frame.specs.Same.{same_list}
use Rattle.std.specs.Prelude.{IsTrue, ◌↔◌, EachIndex}
use Rattle.state.specs.State.{none_above}

pub within_all : (is cs : List ℕ) → length is ≡ length cs → ((i : ℕ) → get_or is i 0 ≤ get_or cs i 0) → none_above is cs ≡ true
unfolding none_above
within_all [] cs e h = refl
within_all (i ∷ is) [] e h = absurd (omega arith)
within_all (i ∷ is) (c ∷ cs) e h = rw (le-ltb c i (h 0)) (within_all is cs (omega arith) (λ j. h (suc j)))

pub within_each : (is cs : List ℕ) → none_above is cs ≡ true → (i : ℕ) → get_or is i 0 ≤ get_or cs i 0
unfolding none_above
within_each [] cs e i = omega arith
within_each (i ∷ is) [] e j = false_true e
within_each (i ∷ is) (c ∷ cs) e zero = by_test (ltb c i) (λ t. false_true (simp t at e)) (λ t. ltb-false c i t)
within_each (i ∷ is) (c ∷ cs) e (suc j) = by_test (ltb c i) (λ t. false_true (simp t at e)) (λ t. within_each is cs (simp t at e) j)

-- ---- all at once

-- fewer counts than indexes
pub within_few : (is cs : List ℕ) → length cs < length is → none_above is cs ≡ false
unfolding none_above
within_few [] cs h = absurd (omega arith)
within_few (i ∷ is) [] h = refl
within_few (i ∷ is) (c ∷ cs) h = by_test (ltb c i) (λ t. rw t refl) (λ t. rw t (within_few is cs (omega arith)))

within_below : (is cs : List ℕ) → length is ≤ length cs → ((k : ℕ) → k < length is → get_or is k 0 ≤ get_or cs k 0) → none_above is cs ≡ true
unfolding none_above
within_below [] cs h each = refl
within_below (i ∷ is) [] h each = absurd (omega arith)
within_below (i ∷ is) (c ∷ cs) h each = rw (le-ltb c i (each 0 (omega arith))) (within_below is cs (omega arith) (λ k l. each (suc k) (omega arith)))

-- what says that each index is not above its count
pub within_said : (b : Bool) (is cs : List ℕ) → length is ≤ length cs → (IsTrue b ↔ EachIndex is (λ k. get_or is k 0 ≤ get_or cs k 0)) → b ≡ none_above is cs
within_said true is cs h f = sym (within_below is cs h (f.0 refl))
within_said false is cs h f = by_test (none_above is cs) (λ t. false_true (f.1 (λ k l. within_each is cs t k))) (λ t. sym t)

-- `==` of two lists of numbers
pub same_pointwise : (xs ys : List ℕ) → pointwise eqb xs ys ≡ same_list xs ys
unfolding same_list
same_pointwise [] [] = refl
same_pointwise [] (y ∷ ys) = refl
same_pointwise (x ∷ xs) [] = refl
same_pointwise (x ∷ xs) (y ∷ ys) = by_test (eqb x y) (λ t. rw t (same_pointwise xs ys)) (λ t. rw t refl)
