-- The laws of hexadecimal text: digits and bytes undo each other.
-- Assumes nothing.
use mathlib.Core.Path.{◌≡◌, refl, ap}
use mathlib.Core.Bool.{true}
use mathlib.Core.Logic.{◌⊎◌, inl, inr, ⊎_elim}
use mathlib.Core.List.{List, [], ◌∷◌, ◌++◌}
use Prim.Native.Nat.{ℕ, zero, suc, ◌+◌, ◌*◌, ◌-◌, ◌/◌, ◌%◌, ◌^◌, ◌<◌, ◌≤◌}
use native.Mathlib.Nat.{div-add-mod', zero-add, suc-add, add_comm, div-div-eq-div-mul}
use native.Mathlib.Omega.{arith}
use borrow.Author.Tests.{lt-ltb, le-ltb, ltb-true, ltb-false, le-leb, lt-leb, leb-true}
use lib.Dec.{ltb, leb, lit<}
use lib.ListN.{length, get_or}
use lib.Pow.{pow-add}
use Rattle.frame.proofs.Tests.{cond_of}
pub use Rattle.frame.proofs.Tests.{by_test, false_true}
use Rattle.frame.specs.Hex.{is_digit, nib, glyph, unhex, hex_of, all_digits, be, Bytes}

-- ---- a digit

pub nib_lt : (d : ℕ) → nib d < 16
unfolding nib
nib_lt d = omega arith

-- the same for a result that is a digit's value
pub nib_below : {r : ℕ} (d : ℕ) → r ≡ nib d → r < 16
nib_below d e = rw e (nib_lt d)

pub nib_glyph : (n : ℕ) → n < 16 → nib (glyph n) ≡ n
unfolding glyph nib
nib_glyph n h =
    cond_of (λ x. nib x ≡ n) (ltb n 10) (48 + n) (97 + (n - 10))
    (λ a.
    let l : n < 10 = ltb-true n 10 a in
    let q : (48 + n) / 64 ≡ 0 = omega arith in
    let r : (48 + n) % 16 ≡ n = omega arith in
    rw (q, r) (omega arith))
    (λ a.
    let l : 10 ≤ n = ltb-false n 10 a in
    let q : (97 + (n - 10)) / 64 ≡ 1 = omega arith in
    let r : (97 + (n - 10)) % 16 ≡ n - 9 = omega arith in
    rw (q, r) (omega arith))

pub glyph_from : (d : ℕ) → 48 ≤ glyph d
unfolding glyph
glyph_from d =
    by_test (ltb d 10) (λ e. rw e (omega arith)) (λ e. rw e (omega arith))

pub digit_glyph : (n : ℕ) → n < 16 → is_digit (glyph n) ≡ true
unfolding is_digit glyph
digit_glyph n h =
    by_test (ltb n 10)
    (λ e. let l : n < 10 = ltb-true n 10 e in simp (e, le-ltb (48 + n) 48 (omega arith), le-leb (48 + n) 57 (omega arith)))
    (λ e. let l : 10 ≤ n = ltb-false n 10 e in
    let d = 97 + (n - 10) in
    simp (e, le-ltb d 48 (omega arith), lt-leb d 57 (omega arith), le-ltb d 97 (omega arith), le-leb d 102 (omega arith)))

pub digit_range : (d : ℕ) → is_digit d ≡ true → ((48 ≤ d) × (d ≤ 57)) ⊎ ((97 ≤ d) × (d ≤ 102))
unfolding is_digit
digit_range d t =
    by_test (ltb d 48) (λ e. false_true (simp e at t)) (λ e.
    by_test (leb d 57) (λ f. inl (ltb-false d 48 e, leb-true d 57 f)) (λ f.
    by_test (ltb d 97) (λ g. false_true (simp (e, f, g) at t)) (λ g. inr (ltb-false d 97 g, leb-true d 102 (simp (e, f, g) at t)))))

pub glyph_nib : (d : ℕ) → is_digit d ≡ true → glyph (nib d) ≡ d
unfolding glyph nib
glyph_nib d t =
    ⊎_elim
    (λ w.
    let q : d / 64 ≡ 0 = omega arith in
    let r : d % 16 ≡ d - 48 = omega arith in
    let v : (d - 48 + 0 * 9) % 16 ≡ d - 48 = omega arith in
    simp (q, r, v, lt-ltb (d - 48) 10 (omega arith)) (omega arith))
    (λ w.
    let q : d / 64 ≡ 1 = omega arith in
    let r : d % 16 ≡ d - 96 = omega arith in
    let v : (d - 96 + 1 * 9) % 16 ≡ d - 87 = omega arith in
    simp (q, r, v, le-ltb (d - 87) 10 (omega arith)) (omega arith))
    (digit_range d t)

-- ---- hex_of

pub length_hex_of : (bs : List ℕ) → length (hex_of bs) ≡ 2 * length bs
unfolding hex_of
length_hex_of [] = refl
length_hex_of (b ∷ bs) = omega (arith, length_hex_of bs)

pub digits_hex_of : (bs : List ℕ) → Bytes bs → all_digits (hex_of bs) ≡ true
unfolding all_digits hex_of Bytes
digits_hex_of [] h = refl
digits_hex_of (b ∷ bs) h =
    rw (digit_glyph (b / 16) (omega (arith, h.0)), digit_glyph (b % 16) (omega arith)) (digits_hex_of bs h.1)

-- ---- unhex

pub length_unhex : (l : List ℕ) → length (unhex l) ≡ length l / 2
unfolding unhex
length_unhex [] = refl
length_unhex (a ∷ []) = refl
length_unhex (a ∷ b ∷ ds) = omega (arith, length_unhex ds)

pub unhex_at : (l : List ℕ) (i : ℕ) → i < length l / 2 → get_or (unhex l) i 0 ≡ nib (get_or l (i * 2) 0) * 16 + nib (get_or l (i * 2 + 1) 0)
unfolding unhex
unhex_at [] i h = absurd (omega arith)
unhex_at (a ∷ []) i h = absurd (omega arith)
unhex_at (a ∷ b ∷ ds) zero h = refl
unhex_at (a ∷ b ∷ ds) (suc i) h =
    let e : suc i * 2 ≡ suc (suc (i * 2)) = omega arith in
    let f : suc i * 2 + 1 ≡ suc (suc (i * 2 + 1)) = omega arith in
    rw (f, e) (unhex_at ds i (omega arith))

pub unhex_past : (l : List ℕ) (i : ℕ) → length l / 2 ≤ i → get_or (unhex l) i 0 ≡ 0
unfolding unhex
unhex_past [] i h = refl
unhex_past (a ∷ []) i h = refl
unhex_past (a ∷ b ∷ ds) zero h = absurd (omega arith)
unhex_past (a ∷ b ∷ ds) (suc i) h = unhex_past ds i (omega arith)

pub byte_lt : (l : List ℕ) (i : ℕ) → get_or (unhex l) i 0 < 256
unfolding unhex
byte_lt [] i = lit< tt
byte_lt (a ∷ []) i = lit< tt
byte_lt (a ∷ b ∷ ds) zero = omega (arith, nib_lt a, nib_lt b)
byte_lt (a ∷ b ∷ ds) (suc i) = byte_lt ds i

pub bytes_unhex : (l : List ℕ) → Bytes (unhex l)
unfolding unhex Bytes
bytes_unhex [] = tt
bytes_unhex (a ∷ []) = tt
bytes_unhex (a ∷ b ∷ ds) = (omega (arith, nib_lt a, nib_lt b), bytes_unhex ds)

-- ---- there and back. A byte behind the digits, as a line's 0A, stands for none

pub unhex_hex_of : (bs tail : List ℕ) → Bytes bs → unhex (hex_of bs ++ tail) ≡ bs ++ unhex tail
unfolding unhex hex_of Bytes
unhex_hex_of [] tail h = refl
unhex_hex_of (b ∷ bs) tail h =
    rw (nib_glyph (b / 16) (omega (arith, h.0)), nib_glyph (b % 16) (omega arith), unhex_hex_of bs tail h.1)
    (ap (λ (x : ℕ). x ∷ (bs ++ unhex tail)) (div-add-mod' b 16))

pub hex_of_unhex : (l : List ℕ) → length l % 2 ≡ 0 → all_digits l ≡ true → hex_of (unhex l) ≡ l
unfolding hex_of unhex all_digits
hex_of_unhex [] h t = refl
hex_of_unhex (a ∷ []) h t = absurd (omega arith)
hex_of_unhex (a ∷ b ∷ ds) h t =
    by_test (is_digit a)
    (λ e.
    by_test (is_digit b)
    (λ f.
    let q : (nib a * 16 + nib b) / 16 ≡ nib a = omega (arith, nib_lt b) in
    let r : (nib a * 16 + nib b) % 16 ≡ nib b = omega (arith, nib_lt b) in
    rw (q, r, glyph_nib a e, glyph_nib b f, hex_of_unhex ds (omega arith) (simp (e, f) at t)))
    (λ f. false_true (simp (e, f) at t)))
    (λ e. false_true (simp e at t))

-- ---- the bytes of a number, for every width

pub length_be : (k n : ℕ) → length (be k n) ≡ k
unfolding be
length_be zero n = refl
length_be (suc k) n = ap suc (length_be k n)

pub bytes_be : (k n : ℕ) → Bytes (be k n)
unfolding be Bytes
bytes_be zero n = tt
bytes_be (suc k) n = (omega arith, bytes_be k n)

pub be_one : (n : ℕ) → (n % 256) ∷ [] ≡ be 1 n
unfolding be
be_one n = let e : n % 256 ≡ n / 1 % 256 = omega arith in cc

-- the high ones, then the low ones, for every two widths
pub be_add : (j k n : ℕ) → be j (n / 256 ^ k) ++ be k n ≡ be (j + k) n
unfolding be
be_add zero k n = rw zero-add
be_add (suc j) k n = rw (suc-add, be_add j k n, div-div-eq-div-mul, ← pow-add, add_comm k j)

-- bytes behind bytes
pub bytes_append : (xs ys : List ℕ) → Bytes xs → Bytes ys → Bytes (xs ++ ys)
unfolding Bytes
bytes_append [] ys p q = q
bytes_append (x ∷ xs) ys p q = (p.0, bytes_append xs ys p.1 q)

pub bytes_one : (b : ℕ) → b < 256 → Bytes (b ∷ [])
unfolding Bytes
bytes_one b h = (h, tt)
