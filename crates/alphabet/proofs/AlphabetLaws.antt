-- The laws of the two alphabets: every index inside has a letter. A rule of the letters is one test, computed over each alphabet.
-- Assumes nothing.
use mathlib.Core.Path.{◌≡◌, refl, ap, sym, ◌∙◌}
use mathlib.Core.Bool.{Bool, true, false, cond}
use mathlib.Core.Logic.{◌⊎◌, inl, inr, ⊎_elim}
use mathlib.Core.List.{List, [], ◌∷◌}
use Prim.Native.Nat.{ℕ, zero, suc, ◌+◌, ◌*◌, ◌/◌, ◌%◌, ◌<◌, ◌≤◌, min}
use native.Mathlib.Nat.{zero-add}
use native.Mathlib.Omega.{arith}
use borrow.Author.Tests.{ne_eqb, ltb-true, ltb-false, leb-true, leb-false}
use lib.Dec.{eqb, ltb, leb, lit<}
use lib.ListN.{length, get_or, set, get_or-eq_default}
use Rattle.frame.specs.Hex.{glyph, hex_of}
use Rattle.writing.specs.Lay.{lay, Laid}
use Rattle.frame.proofs.Tests.{by_test, false_true, one_of}
use Rattle.alphabet.specs.Table35.{S₀, S₁, letters_of, letter_n, size_of, letter_of, code_of_n}
use Rattle.alphabet.specs.Code.Digits.{letters_from, digits_of, place_of, both_digits}

-- ---- a rule of a table, from one test over it

-- the test f passes at each entry
abbrev every : (ℕ → Bool) → List ℕ → Bool
every f [] = true
every f (x ∷ xs) = cond (f x) (every f xs) false

every_at : (f : ℕ → Bool) (xs : List ℕ) → every f xs ≡ true → (k : ℕ) → k < length xs → f (get_or xs k 0) ≡ true
every_at f [] t k h = absurd (omega arith)
every_at f (x ∷ xs) t zero h = by_test (f x) (λ y. y) (λ n. false_true (simp n at t))
every_at f (x ∷ xs) t (suc k) h = by_test (f x) (λ y. every_at f xs (simp y at t) k (omega arith)) (λ n. false_true (simp n at t))

-- what holds of both lists of letters holds of every alphabet
each_alphabet : (P : List ℕ → Type 0) → P S₀ → P S₁ → (alphabet : ℕ) → P (letters_of alphabet)
each_alphabet P p q alphabet = one_of P (eqb alphabet 0) S₀ S₁ p q

-- ---- letters

-- the rule: a letter is a byte, not 0
letter_rule : ℕ → Bool
letter_rule x = cond (ltb 0 x) (ltb x 256) false

rule_holds : (alphabet : ℕ) → every letter_rule (letters_of alphabet) ≡ true
unfolding letter_rule
rule_holds = each_alphabet (λ l. every letter_rule l ≡ true) refl refl

pub record IsLetter (alphabet index : ℕ) : Type 0 where
  pub some : 0 < letter_of alphabet index
  pub byte : letter_of alphabet index < 256

pub inside : (alphabet index : ℕ) → index < size_of alphabet → IsLetter alphabet index
unfolding size_of letter_of letter_rule
inside alphabet index h =
    let x = get_or (letters_of alphabet) index 0 in
    let t : letter_rule x ≡ true = every_at letter_rule (letters_of alphabet) (rule_holds alphabet) index h in
    by_test (ltb 0 x)
    (λ b. record { some = ltb-true 0 x b; byte = ltb-true x 256 (simp b at t) })
    (λ b. false_true (simp b at t))

-- an index outside the alphabet has no letter
pub outside : (alphabet index : ℕ) → size_of alphabet ≤ index → letter_of alphabet index ≡ 0
unfolding size_of letter_of
outside alphabet index h = get_or-eq_default (letters_of alphabet) 0 h

-- so every index has a byte
pub letter_byte : (alphabet index : ℕ) → letter_of alphabet index < 256
letter_byte alphabet index =
    by_test (leb (size_of alphabet) index)
    (λ t. rw (outside alphabet index (leb-true _ _ t)) (lit< tt))
    (λ t. (inside alphabet index (leb-false _ _ t)).byte)

-- ---- sizes, and the letter N

pub size_two : (alphabet : ℕ) → (size_of alphabet ≡ 5) ⊎ (size_of alphabet ≡ 16)
unfolding size_of
size_two = each_alphabet (λ l. (length l ≡ 5) ⊎ (length l ≡ 16)) (inl refl) (inr refl)

pub letter_of_n : (alphabet : ℕ) → letter_of alphabet (code_of_n alphabet) ≡ letter_n
unfolding letter_of code_of_n
letter_of_n alphabet = by_test (eqb alphabet 0) (λ t. simp t) (λ t. simp t)

pub code_of_n_inside : (alphabet : ℕ) → code_of_n alphabet < size_of alphabet
unfolding size_of code_of_n
code_of_n_inside alphabet = by_test (eqb alphabet 0) (λ t. simp t (lit< tt)) (λ t. simp t (lit< tt))

pub code_n_lt : {y : ℕ} (alphabet : ℕ) → y ≡ code_of_n alphabet → y < 256
unfolding code_of_n
code_n_lt alphabet e = by_test (eqb alphabet 0) (λ t. rw (e, t) (omega arith)) (λ t. rw (e, t) (omega arith))

-- ---- the table of digits: a letter's two digits stand at twice its index

hex_of_high : (bs : List ℕ) (k : ℕ) → k < length bs → get_or (hex_of bs) (2 * k) 0 ≡ glyph (get_or bs k 0 / 16)
unfolding hex_of
hex_of_high [] k h = absurd (omega arith)
hex_of_high (b ∷ bs) zero h = refl
hex_of_high (b ∷ bs) (suc k) h = let e : 2 * suc k ≡ suc (suc (2 * k)) = omega arith in rw e (hex_of_high bs k (omega arith))

hex_of_low : (bs : List ℕ) (k : ℕ) → k < length bs → get_or (hex_of bs) (2 * k + 1) 0 ≡ glyph (get_or bs k 0 % 16)
unfolding hex_of
hex_of_low [] k h = absurd (omega arith)
hex_of_low (b ∷ bs) zero h = refl
hex_of_low (b ∷ bs) (suc k) h = let e : 2 * suc k + 1 ≡ suc (suc (2 * k + 1)) = omega arith in rw e (hex_of_low bs k (omega arith))

length_from : (alphabet i n : ℕ) → length (letters_from alphabet i n) ≡ n
unfolding letters_from
length_from alphabet i zero = refl
length_from alphabet i (suc n) = ap suc (length_from alphabet (i + 1) n)

from_at : (alphabet i n k : ℕ) → k < n → get_or (letters_from alphabet i n) k 0 ≡ letter_of alphabet (i + k)
unfolding letters_from
from_at alphabet i zero k h = absurd (omega arith)
from_at alphabet i (suc n) zero h = let e : i + 0 ≡ i = omega arith in rw e
from_at alphabet i (suc n) (suc k) h =
    let e : i + suc k ≡ i + 1 + k = omega arith in
    rw e (from_at alphabet (i + 1) n k (omega arith))

digits_high : (alphabet index : ℕ) → index ≤ 16 → get_or (digits_of alphabet) (2 * index) 0 ≡ glyph (letter_of alphabet index / 16)
unfolding digits_of
digits_high alphabet index h =
    hex_of_high (letters_from alphabet 0 17) index (rw length_from (omega arith))
    ∙ rw (from_at alphabet 0 17 index (omega arith), zero-add)

digits_low : (alphabet index : ℕ) → index ≤ 16 → get_or (digits_of alphabet) (2 * index + 1) 0 ≡ glyph (letter_of alphabet index % 16)
unfolding digits_of
digits_low alphabet index h =
    hex_of_low (letters_from alphabet 0 17) index (rw length_from (omega arith))
    ∙ rw (from_at alphabet 0 17 index (omega arith), zero-add)

-- 16 stands for every index behind it
letter_past : (alphabet index : ℕ) → 16 ≤ index → letter_of alphabet index ≡ letter_of alphabet 16
letter_past alphabet index h =
    let past : (k : ℕ) → 16 ≤ k → letter_of alphabet k ≡ 0 = λ k g. outside alphabet k (⊎_elim (λ e. omega arith) (λ e. omega arith) (size_two alphabet)) in
    past index h ∙ sym (past 16 (omega arith))

-- ---- a letter, from the table of digits

pub place_most : (symbol : ℕ) → place_of symbol ≤ 16
unfolding place_of
place_most symbol = by_test (ltb symbol 16) (λ t. rw t (omega (arith, ltb-true symbol 16 t))) (λ t. rw t (omega arith))

letter_place : (alphabet symbol : ℕ) → letter_of alphabet (place_of symbol) ≡ letter_of alphabet symbol
unfolding place_of
letter_place alphabet symbol = by_test (ltb symbol 16) (λ t. rw t) (λ t. rw t (sym (letter_past alphabet symbol (ltb-false symbol 16 t))))

pub laid_letter : {a b t : List ℕ} {at r : ℕ} (alphabet symbol : ℕ) → t ≡ digits_of alphabet → r ≡ at + 2
    → b ≡ set (set a at (get_or t (2 * place_of symbol) 0)) (at + 1) (get_or t (2 * place_of symbol + 1) 0) → Laid a b at r (letter_of alphabet symbol ∷ [])
unfolding lay
laid_letter alphabet symbol e f g =
    record {
      to = f;
      holds = g ∙ rw (e, digits_high alphabet _ (place_most symbol), digits_low alphabet _ (place_most symbol), letter_place);
    }

-- ---- a letter of alphabet 0, from five tests

pub five_digits : (symbol : ℕ)
    → 12336 + cond (eqb symbol 0) 260 0 + cond (eqb symbol 1) 772 0 + cond (eqb symbol 2) 1796 0 + cond (eqb symbol 3) 1029 0 + cond (eqb symbol 4) 13572 0 ≡ both_digits (letter_of 0 symbol)
unfolding both_digits letter_of glyph
five_digits zero = refl
five_digits (suc zero) = refl
five_digits (suc (suc zero)) = refl
five_digits (suc (suc (suc zero))) = refl
five_digits (suc (suc (suc (suc zero)))) = refl
five_digits (suc (suc (suc (suc (suc n))))) =
    let past : (k : ℕ) → k < 5 → eqb (suc (suc (suc (suc (suc n))))) k ≡ false = λ k h. ne_eqb _ k (λ e. omega arith) in
    rw (past 4 (lit< tt), past 3 (lit< tt), past 2 (lit< tt), past 1 (lit< tt), past 0 (lit< tt))

glyph_small : (n : ℕ) → n < 16 → glyph n < 256
unfolding glyph
glyph_small n h = by_test (ltb n 10) (λ t. rw t (omega arith)) (λ t. rw t (omega arith))

-- the low byte is the first digit, the high byte the second
pub laid_five : {a b : List ℕ} {at r d : ℕ} (symbol : ℕ) → d ≡ both_digits (letter_of 0 symbol) → r ≡ at + 2
    → b ≡ set (set a at (d % 256)) (at + 1) (d / 256) → Laid a b at r (letter_of 0 symbol ∷ [])
unfolding lay both_digits
laid_five {d = d} symbol e f g =
    let l = letter_of 0 symbol in
    let small = glyph_small (l / 16) (omega (arith, letter_byte 0 symbol)) in
    let low : d % 256 ≡ glyph (l / 16) = omega arith in
    let high : d / 256 ≡ glyph (l % 16) = omega arith in
    record { to = f; holds = g ∙ rw (low, high) }

-- ---- the place, as the lower of two numbers

pub place_min : (symbol : ℕ) → min symbol 16 ≡ place_of symbol
unfolding place_of
place_min symbol = by_test (ltb symbol 16) (λ t. rw t (omega (arith, ltb-true symbol 16 t))) (λ t. rw t (omega (arith, ltb-false symbol 16 t)))
