-- The laws of an 04 line's head: how many bytes it has, that each is below 256, and how a loop lays it.
-- Assumes nothing.
use mathlib.Core.Path.{◌≡◌, refl, sym, ap, ◌∙◌}
use mathlib.Core.List.{List, [], ◌∷◌, ◌++◌, append_assoc}
use Prim.Native.Nat.{ℕ, zero, suc, ◌+◌, ◌*◌, ◌/◌, ◌%◌, ◌<◌}
use native.Mathlib.Nat.{div-one}
use native.Mathlib.Omega.{arith}
use lib.ListN.{length, get_or, set, length-append}
use lib.Seq.{get_or-append-add}
use Rattle.frame.specs.Hex.{Bytes, be}
use Rattle.frame.proofs.HexLaws.{length_be, bytes_be, bytes_append}
use Rattle.unit.specs.Kinds.{kind_listed}
use Rattle.state.specs.State.{index_count, Shaped}
use Rattle.state.specs.Listed.{words, listed_head, number_place, index_place, head_bytes}
use Rattle.state.specs.declared.State.{State}
use Rattle.state.proofs.FillLaws.{SoFar, fill_none, fill_more}

-- ---- the indexes, and the head

pub length_words : (xs : List ℕ) → length (words xs) ≡ 2 * length xs
unfolding words
length_words [] = refl
length_words (x ∷ xs) = omega (arith, length-append (be 2 x) (words xs), length_be 2 x, length_words xs)

pub length_head : (number : ℕ) (next : State) → Shaped next → length (listed_head number next) ≡ head_bytes
unfolding listed_head
length_head number next all = simp (length-append, length_be, length_words) (omega arith)

pub bytes_words : (xs : List ℕ) → Bytes (words xs)
unfolding words Bytes
bytes_words [] = tt
bytes_words (x ∷ xs) = bytes_append (be 2 x) (words xs) (bytes_be 2 x) (bytes_words xs)

pub bytes_head : (number : ℕ) (next : State) → Bytes (listed_head number next)
unfolding listed_head
bytes_head number next =
    simp append_assoc
    (bytes_append (be 1 kind_listed) _ (bytes_be 1 kind_listed)
    (bytes_append (be 2 number) _ (bytes_be 2 number)
    (bytes_words next.index)))

-- ---- the head, byte by byte

two_bytes : (n : ℕ) → be 2 n ≡ (n / 256 % 256) ∷ (n % 256) ∷ []
unfolding be
two_bytes n = rw div-one

-- each index stands as its two bytes, the high one first
words_each : (xs : List ℕ) (i : ℕ) → i < length xs → (get_or xs i 0 / 256 % 256 ≡ get_or (words xs) (2 * i) 0) × (get_or xs i 0 % 256 ≡ get_or (words xs) (2 * i + 1) 0)
unfolding words
words_each [] i h = absurd (omega arith)
words_each (x ∷ xs) zero h = rw (two_bytes x) (refl, refl)
words_each (x ∷ xs) (suc i) h =
    let high : 2 * suc i ≡ suc (suc (2 * i)) = omega arith in
    let low : 2 * suc i + 1 ≡ suc (suc (2 * i + 1)) = omega arith in
    rw (two_bytes x, low, high) (words_each xs i (omega arith))

module _ (number : ℕ) (next : State) (all : Shaped next) where
  -- the kind and the record number are laid
  pub head_start : (l : List ℕ) → length l ≡ head_bytes
      → SoFar (listed_head number next) (set (set (set l 0 kind_listed) number_place (number / 256 % 256)) (number_place + 1) (number % 256)) index_place
  unfolding listed_head be
  head_start l e =
      let long : length (listed_head number next) ≡ head_bytes = length_head number next all in
      fill_more (fill_more (fill_more (fill_none (listed_head number next) l (e ∙ sym long)) (omega arith) refl) (omega arith) refl) (omega arith) (sym (ap (λ (n : ℕ). n % 256) (div-one number)))

  behind : {p : ℕ} (k : ℕ) → p ≡ index_place + k → get_or (words next.index) k 0 ≡ get_or (listed_head number next) p 0
  unfolding listed_head be
  behind k e = rw e (sym (get_or-append-add (be 1 kind_listed ++ be 2 number) (words next.index) k 0))

  -- one index more
  pub head_more : {l : List ℕ} {i : ℕ} → SoFar (listed_head number next) l (index_place + 2 * i) → i < index_count
      → SoFar (listed_head number next) (set (set l (index_place + 2 * i) (get_or next.index i 0 / 256 % 256)) (index_place + 2 * i + 1) (get_or next.index i 0 % 256)) (index_place + 2 * (i + 1))
  head_more {l} {i} f h =
      let long = length_head number next all in
      let each = words_each next.index i (omega arith) in
      let place : index_place + 2 * (i + 1) ≡ index_place + 2 * i + 1 + 1 = omega arith in
      rw place
      (fill_more
      (fill_more f (omega arith) (each.0 ∙ behind (2 * i) refl))
      (omega arith)
      (each.1 ∙ behind (2 * i + 1) (omega arith)))
