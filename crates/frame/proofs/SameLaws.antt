-- The laws of comparing two lists: what the outcome says, and one comparison more of a scan.
-- Assumes nothing.
use Prim.Native.Nat.{ℕ, ◌<◌}
use native.Mathlib.Omega.{arith}
use mathlib.Core.Path.{◌≡◌, refl, sym, ap, ◌∙◌}
use mathlib.Core.Bool.{Bool, true, false}
use mathlib.Core.List.{List, [], ◌∷◌}
use lib.ListN.{length, take}
use lib.Seq.{take_all, length-take-le}
use lib.Dec.{eqb, leb}
use borrow.Author.Tests.{eq-eqb, eqb-true, leb-true, leb-false}
use Rattle.frame.specs.Same.{same_list}
use Rattle.frame.proofs.Tests.{by_test, false_true}

pub same_refl : (l : List ℕ) → same_list l l ≡ true
unfolding same_list
same_refl [] = refl
same_refl (x ∷ l) = simp (eq-eqb x x refl, same_refl l)

pub same_true : (a b : List ℕ) → same_list a b ≡ true → a ≡ b
unfolding same_list
same_true [] [] e = refl
same_true [] (y ∷ ys) e = false_true e
same_true (x ∷ xs) [] e = false_true e
same_true (x ∷ xs) (y ∷ ys) e =
    by_test (eqb x y)
    (λ t. rw (eqb-true x y t) (ap (λ (l : List ℕ). y ∷ l) (same_true xs ys (simp t at e))))
    (λ t. false_true (simp t at e))

pub same_false : (a b : List ℕ) → (a ≡ b → ⊥) → same_list a b ≡ false
same_false a b h = by (same_list a b) refl
  where
    by : (t : Bool) → same_list a b ≡ t → t ≡ false
    by true e = absurd (h (same_true a b e))
    by false e = refl

pub same_not : (a b : List ℕ) → same_list a b ≡ false → a ≡ b → ⊥
same_not a b e h = false_true {P = ⊥} (sym e ∙ ap (same_list a) (sym h) ∙ same_refl a)

-- a comparison, at place i of both

pub same_longer : (a b : List ℕ) → (length a ≡ length b → ⊥) → same_list a b ≡ false
same_longer a b h = same_false a b (λ e. h (ap length e))

-- so much of the first as the second is long, and one byte more, is enough
pub same_near : (n : ℕ) (a b : List ℕ) → length b < n → same_list (take n a) b ≡ same_list a b
same_near n a b h =
    by_test (leb (length a) n)
    (λ t. rw (take_all n a (leb-true (length a) n t)))
    (λ t. let l = leb-false (length a) n t in
    same_longer (take n a) b (λ e. omega (arith, length-take-le n a (omega arith))) ∙ sym (same_longer a b (λ e. omega arith)))
