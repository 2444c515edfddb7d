-- The laws of a frame that is decoded into bytes.
-- Assumes nothing.
use mathlib.Core.Path.{◌≡◌, sym, ◌∙◌}
use mathlib.Core.Logic.{◌⊎◌, inl, inr, ⊎_elim}
use mathlib.Core.List.{List, [], ◌∷◌, ◌++◌, append-nil}
use Prim.Native.Nat.{ℕ, ◌+◌, ◌*◌, ◌/◌, ◌<◌, ◌≤◌, min}
use native.Mathlib.Numerals.{add-one}
use native.Mathlib.Omega.{arith}
use borrow.Author.Tests.{ltb-true, ltb-false}
use lib.Dec.{ltb}
use lib.ListN.{length, take, drop, get_or, drop_of_length-le}
use lib.Seq.{slice, slice-cons, slice_empty, take_all, take_at, length-take-le}
use Rattle.frame.specs.Hex.{nib, unhex}
use Rattle.frame.specs.Line.{line_digits, line_of}
use Rattle.frame.specs.Steps.{stored_at}
use Rattle.std.specs.Prelude.{Ok}
use Rattle.frame.proofs.HexLaws.{by_test, length_unhex, unhex_at}
use Rattle.frame.proofs.LineLaws.{frame_is_line}
use Rattle.frame.proofs.StoreLaws.{Left, left_done}

module _ (line : List ℕ) (n i : ℕ) (short : n ≤ length line / 2) (more : i < n) where
  -- the byte that is stored next
  pub bytes_on : slice i n (unhex line) ≡ get_or (unhex line) i 0 ∷ slice (i + 1) n (unhex line)
  bytes_on = rw add-one (slice-cons i n (unhex line) 0 more (rw length_unhex short))

  pub byte_here : {a b : ℕ} → a ≡ nib (get_or line (2 * i) 0) → b ≡ nib (get_or line (2 * i + 1) 0) → a * 16 + b ≡ get_or (unhex line) i 0
  byte_here e f = let q : 2 * i ≡ i * 2 = omega arith in rw (e, f, q) (sym (unhex_at line i (omega arith)))

-- nothing is left to store
pub decoded : {t t₀ : List ℕ} (line : List ℕ) (n i : ℕ) → Left t i (slice i n (unhex line)) t₀ 0 (take n (unhex line)) → n ≤ i → i ≤ n → n ≤ length t₀ → n ≤ length line / 2 → (n ≡ length t₀) ⊎ (n ≡ length line / 2)
    → t ≡ stored_at t₀ 0 (take (length t₀) (unhex line))
decoded {t} {t₀} line n i left h k room short one =
    let e : i ≡ n = omega arith in
    let none : slice i n (unhex line) ≡ [] = rw (e, slice_empty) in
    let same : take n (unhex line) ≡ take (length t₀) (unhex line) =
    ⊎_elim (λ (q : n ≡ length t₀). rw q) (λ (q : n ≡ length line / 2). take_all n (unhex line) (rw length_unhex (omega arith)) ∙ sym (take_all (length t₀) (unhex line) (rw length_unhex (omega arith)))) one in
    rw (← same) (left_done left none (rw (length-take-le n (unhex line) (rw length_unhex short)) (omega arith)))

-- ---- the frame of a well-formed line, decoded into a part that is as long

module _ (line : List ℕ) (n : ℕ) (well_formed : line_of line ≡ Ok n) where
  pub count : n ≡ length (unhex line)
  count = (frame_is_line line_digits line n well_formed).count

  pub decoded_is : (t : List ℕ) {f : List ℕ} → n ≤ length t → f ≡ stored_at (take n t) 0 (take (length (take n t)) (unhex line)) → f ≡ unhex line
  unfolding stored_at
  decoded_is t room e =
      let long : length (take n t) ≡ n = length-take-le n t room in
      let all : take n (unhex line) ≡ unhex line = take_all n (unhex line) (omega (arith, count)) in
      let none : drop (0 + length (unhex line)) (take n t) ≡ [] = drop_of_length-le (take n t) {i = 0 + length (unhex line)} (omega (arith, long, count)) in
      e ∙ rw (long, all, none) (append-nil (unhex line))

  -- it is what stands at the front then
  pub decoded_front : {f : List ℕ} (rest : List ℕ) → f ≡ unhex line → take n (f ++ rest) ≡ unhex line
  decoded_front rest e = rw e (take_at (unhex line) rest n (sym count))

-- ---- as many bytes as there is room for

pub decoded_all : {t t₀ : List ℕ} (line : List ℕ) (n i : ℕ) → n ≡ min (length t₀) (length line / 2) → Left t i (slice i n (unhex line)) t₀ 0 (take n (unhex line)) → n ≤ i → i ≤ n
    → t ≡ stored_at t₀ 0 (take (length t₀) (unhex line))
decoded_all {t} {t₀} line n i e left h k =
    decoded line n i left h k (omega arith) (omega arith)
    (by_test (ltb (length t₀) (length line / 2)) (λ q. inl (omega (arith, ltb-true (length t₀) (length line / 2) q))) (λ q. inr (omega (arith, ltb-false (length t₀) (length line / 2) q))))
