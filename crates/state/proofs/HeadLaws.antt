-- The laws of an 04 line's head: it is read number by number, and what was laid for a state is read back as that state.
-- Assumes nothing.
use Prim.Native.Nat.{ℕ, zero, suc, ◌+◌, ◌*◌, ◌≤◌, ◌<◌}
use native.Mathlib.Omega.{arith}
use mathlib.Core.Path.{◌≡◌, refl, sym, ap, ◌∙◌}
use mathlib.Core.Bool.{true, false}
use mathlib.Core.List.{List, [], ◌∷◌, ◌++◌, append_assoc}
use Rattle.std.specs.Prelude.{Some, None}
use lib.ListN.{length, get_or, set, length-append}
use borrow.Author.Tests.{lt-ltb, le-ltb}
use Rattle.frame.specs.Hex.{be}
use Rattle.frame.specs.Field.{big_at}
use Rattle.frame.proofs.HexLaws.{length_be}
use Rattle.frame.proofs.FieldLaws.{field_back}
use Rattle.unit.specs.Kinds.{kind_listed}
use Rattle.state.specs.State.{index_count, within, Shaped}
use Rattle.state.specs.Listed.{words, listed_head, least_listed, number_place, index_place, words_at, state_at, state_back}
use Rattle.state.specs.declared.State.{State}
use Rattle.state.proofs.FillLaws.{SoFar, fill_none, fill_more, fill_all}

-- ---- the numbers of a frame, one by one

pub length_words_at : (k : ℕ) (bs : List ℕ) (at : ℕ) → length (words_at k bs at) ≡ k
unfolding words_at
length_words_at zero bs at = refl
length_words_at (suc k) bs at = ap suc (length_words_at k bs (at + 2))

pub words_at_each : (k : ℕ) (bs : List ℕ) (at i : ℕ) → i < k → get_or (words_at k bs at) i 0 ≡ big_at 2 bs (at + 2 * i)
unfolding words_at
words_at_each zero bs at i h = absurd (omega arith)
words_at_each (suc k) bs at zero h = ap (big_at 2 bs) (let q : at ≡ at + 2 * 0 = omega arith in q)
words_at_each (suc k) bs at (suc i) h =
    words_at_each k bs (at + 2) i (omega arith) ∙ ap (big_at 2 bs) (let q : at + 2 + 2 * i ≡ at + 2 * suc i = omega arith in q)

-- the indexes, read one after the other into their places
module _ (bs : List ℕ) where
  pub index_start : (index : List ℕ) → length index ≡ index_count → SoFar (words_at index_count bs index_place) index 0
  index_start index e = fill_none _ index (e ∙ sym (length_words_at index_count bs index_place))

  pub index_more : {index : List ℕ} {j v : ℕ} → SoFar (words_at index_count bs index_place) index j → j < index_count → v ≡ big_at 2 bs (index_place + 2 * j)
      → SoFar (words_at index_count bs index_place) (set index j v) (j + 1)
  index_more {index} {j} f h e = fill_more f (rw (length_words_at index_count bs index_place) h) (e ∙ sym (words_at_each index_count bs index_place j h))

  pub index_all : {index : List ℕ} {j : ℕ} → SoFar (words_at index_count bs index_place) index j → index_count ≤ j → index ≡ words_at index_count bs index_place
  index_all f h = fill_all f (rw (length_words_at index_count bs index_place) h)

-- ---- read back

pub words_back : (pre xs tail : List ℕ) → ((i : ℕ) → get_or xs i 0 < 65536) → words_at (length xs) (pre ++ (words xs ++ tail)) (length pre) ≡ xs
unfolding words_at words
words_back pre [] tail h = refl
words_back pre (x ∷ xs) tail h =
    let next : length (pre ++ be 2 x) ≡ length pre + 2 = rw (length-append, length_be) in
    rw (append_assoc (be 2 x) (words xs) tail, field_back 2 x pre (words xs ++ tail) (h 0))
    (ap (λ (l : List ℕ). x ∷ l)
    (rw (← next, ← append_assoc pre (be 2 x) (words xs ++ tail))
    (words_back (pre ++ be 2 x) xs tail (λ i. h (suc i)))))

-- the head of an 04 line says the state behind its record
pub state_head : (number : ℕ) (next : State) (tail : List ℕ) → number < 65536 → ((i : ℕ) → get_or next.index i 0 < 65536)
    → Shaped next → next.number ≡ number + 1 → state_at (listed_head number next ++ tail) ≡ next
unfolding state_at listed_head be
state_head number next tail fits each shaped e =
    let front : be 1 kind_listed ++ be 2 number ++ words next.index ++ tail ≡ be 1 kind_listed ++ (be 2 number ++ (words next.index ++ tail)) = simp append_assoc in
    let back : be 1 kind_listed ++ be 2 number ++ words next.index ++ tail ≡ be 1 kind_listed ++ be 2 number ++ (words next.index ++ tail) = append_assoc (be 1 kind_listed ++ be 2 number) (words next.index) tail in
    let q : big_at 2 (be 1 kind_listed ++ be 2 number ++ words next.index ++ tail) number_place ≡ number = rw front (field_back 2 number (be 1 kind_listed) (words next.index ++ tail) fits) in
    let w : words_at index_count (be 1 kind_listed ++ be 2 number ++ words next.index ++ tail) index_place ≡ next.index = rw (back, ← shaped) (words_back (be 1 kind_listed ++ be 2 number) next.index tail each) in
    rw (q, w, ← e)

-- ---- what a line says

-- what is said, by the tests of the code, where its numbers are the frame's
module _ (count : ℕ) (counts bs : List ℕ) (n : ℕ) (size : n ≡ length bs) where
  pub back_short : n < least_listed → None ≡ state_back count counts bs
  unfolding state_back
  back_short l = rw (← size, lt-ltb n least_listed l)

  module _ (l : least_listed ≤ n) (q : ℕ) (number : q ≡ big_at 2 bs number_place) where
    pub back_far : count ≤ q → None ≡ state_back count counts bs
    unfolding state_back
    back_far h = rw (← size, le-ltb n least_listed l, ← number, le-ltb q count h)

    module _ (h : q < count) (s : State) (state : s ≡ state_at bs) where
      pub back_above : within s counts ≡ false → None ≡ state_back count counts bs
      unfolding state_back
      back_above w = rw (← size, le-ltb n least_listed l, ← number, lt-ltb q count h, ← state, w)

      pub back_fits : within s counts ≡ true → Some s ≡ state_back count counts bs
      unfolding state_back
      back_fits w = rw (← size, le-ltb n least_listed l, ← number, lt-ltb q count h, ← state, w)
