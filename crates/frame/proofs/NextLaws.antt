-- The laws of the first line: what is looked at, and each turn of the scan.
-- Assumes nothing.
use mathlib.Core.Path.{◌≡◌, refl, ap}
use mathlib.Core.Bool.{cond}
use mathlib.Core.List.{List, [], ◌∷◌}
use Prim.Native.Nat.{ℕ, zero, suc, ◌+◌, ◌<◌, ◌≤◌, min}
use native.Mathlib.Omega.{arith}
use borrow.Author.Tests.{eq-eqb, ne_eqb, le-leb, lt-leb, leb-true, leb-false}
use lib.Dec.{eqb, leb}
use lib.ListN.{length, take, get_or}
use lib.Seq.{take-take, take_all, length-take-le}
use Rattle.frame.specs.Line.{line_digits, line_end}
use Rattle.frame.specs.Next.{ended_by, next_line}
use Rattle.frame.specs.Code.Window.{window_of}
use Rattle.frame.specs.declared.line.Next.{Next}
use Rattle.frame.specs.declared.line.Next.TheVariants.{Whole, TooLong, NoEnd, Nothing}
use Rattle.frame.proofs.HexLaws.{by_test}

-- ---- how much is looked at

pub window_all : (n : ℕ) → n ≤ line_digits → window_of n ≡ n
unfolding window_of
window_all n h = simp (le-leb n line_digits h)

pub window_most : (n : ℕ) → line_digits < n → window_of n ≡ line_digits + 1
unfolding window_of
window_most n h = simp (lt-leb n line_digits h)

pub window_le : (n : ℕ) → window_of n ≤ n
window_le n =
    by_test (leb n line_digits) (λ e. rw (window_all n (leb-true _ _ e)) (omega arith))
    (λ e. let h = leb-false n line_digits e in rw (window_most n h) (omega arith))

-- the same for a result that is a window
pub window_below : {m n : ℕ} → m ≡ window_of n → m ≤ n
window_below {m} {n} e = rw e (window_le n)

-- ---- the answer depends only on the first `line_digits + 1` bytes, so that a program may stream

pub next_near : (s : List ℕ) → next_line (take (line_digits + 1) s) ≡ next_line s
unfolding next_line
next_near s =
    by_test (leb (length s) line_digits)
    (λ e. ap next_line (take_all (line_digits + 1) s (omega (arith, leb-true (length s) line_digits e))))
    (λ e. far (leb-false (length s) line_digits e))
  where
    far : line_digits < length s → next_line (take (line_digits + 1) s) ≡ next_line s
    far h =
        let n : length (take (line_digits + 1) s) ≡ line_digits + 1 = length-take-le (line_digits + 1) s (omega arith) in
        let m : length s ≡ 0 → ⊥ = λ e. omega arith in
        simp (n, ne_eqb _ _ m, lt-leb (length s) line_digits h, take-take (line_digits + 1) (line_digits + 1) s (omega arith))

-- the definition at the window that the code has computed
pub next_at : (s : List ℕ) (m : ℕ) → m ≡ window_of (length s)
    → next_line s ≡ cond (eqb m 0) Nothing (ended_by 0 (take m s) (cond (leb m line_digits) NoEnd TooLong))
unfolding next_line
next_at s m e =
    by_test (leb (length s) line_digits)
    (λ t.
    let h : length s ≤ line_digits = leb-true (length s) line_digits t in
    rw (e, window_all (length s) h, take_all (line_digits + 1) s (omega arith), take_all (length s) s (omega arith)))
    (λ t.
    let h : line_digits < length s = leb-false (length s) line_digits t in
    let n : length s ≡ 0 → ⊥ = λ z. omega arith in
    rw (e, window_most (length s) h) (simp (ne_eqb _ _ n, t)))

-- ---- the first 0A, from where every byte before it is another

pub ended_found : (l : List ℕ) (i k : ℕ) (o : Next) → i < length l → get_or l i 0 ≡ line_end → ((j : ℕ) → j < i → get_or l j 0 ≡ line_end → ⊥) → ended_by k l o ≡ Whole (k + i + 1)
unfolding ended_by
ended_found [] i k o h e f = absurd (omega arith)
ended_found (x ∷ xs) zero k o h e f = let q : k + 1 ≡ k + 0 + 1 = omega arith in rw (eq-eqb x line_end e, q)
ended_found (x ∷ xs) (suc i) k o h e f =
    let q : k + suc i + 1 ≡ k + 1 + i + 1 = omega arith in
    rw (ne_eqb x line_end (f 0 (omega arith)), q) (ended_found xs i (k + 1) o (omega arith) e (λ j l. f (suc j) (omega arith)))

pub ended_none : (l : List ℕ) (k : ℕ) (o : Next) → ((j : ℕ) → j < length l → get_or l j 0 ≡ line_end → ⊥) → ended_by k l o ≡ o
unfolding ended_by
ended_none [] k o f = refl
ended_none (x ∷ xs) k o f = rw (ne_eqb x line_end (f 0 (omega arith))) (ended_none xs (k + 1) o (λ j l. f (suc j) (omega arith)))

-- ---- the window, as the lower of two numbers

pub window_min : (n : ℕ) → min n (line_digits + 1) ≡ window_of n
unfolding window_of
window_min n = by_test (leb n line_digits) (λ t. rw t (omega (arith, leb-true n line_digits t))) (λ t. rw t (omega (arith, leb-false n line_digits t)))

module _ (s : List ℕ) (m : ℕ) (looked : m ≡ window_of (length s)) where
  pub next_whole : (i : ℕ) → i < length (take m s) → get_or (take m s) i 0 ≡ line_end → ((j : ℕ) → j < i → get_or (take m s) j 0 ≡ line_end → ⊥) → Whole (i + 1) ≡ next_line s
  next_whole i h e f =
      let q : m ≡ 0 → ⊥ = λ z. omega (arith, length-take-le m s (window_below looked)) in
      let r : 0 + i + 1 ≡ i + 1 = omega arith in
      rw (next_at s m looked, ne_eqb m 0 q, ended_found (take m s) i 0 (cond (leb m line_digits) NoEnd TooLong) h e f, r)

  pub next_none : (m ≡ 0 → ⊥) → ((j : ℕ) → j < length (take m s) → get_or (take m s) j 0 ≡ line_end → ⊥) → next_line s ≡ cond (leb m line_digits) NoEnd TooLong
  next_none q f = rw (next_at s m looked, ne_eqb m 0 q, ended_none (take m s) 0 (cond (leb m line_digits) NoEnd TooLong) f)
