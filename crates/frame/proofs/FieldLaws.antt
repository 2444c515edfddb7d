-- The laws of fields, for every width: a field is short or its number, and what was laid as a number is read back.
-- Assumes nothing.
use mathlib.Core.Path.{◌≡◌, refl, sym, ap, ◌∙◌}
use mathlib.Core.List.{List, [], ◌∷◌, ◌++◌}
use Prim.Native.Nat.{ℕ, zero, suc, ◌+◌, ◌*◌, ◌/◌, ◌%◌, ◌^◌, ◌<◌, ◌≤◌}
use native.Mathlib.Nat.{add-zero, zero-add, zero-mul, mod-one, pow-suc, one-le-pow, mod-eq_of_lt, pow-le-pow_right, lt_of_lt_of_le}
use native.Mathlib.Numerals.{add-one}
use native.Mathlib.Omega.{arith}
use borrow.Author.Tests.{le-leb, lt-leb, leb-true}
use lib.Arith.{mod-mul}
use lib.Dec.{leb, lit<}
use lib.ListN.{length, get_or, get_or-append, get_or-eq_default}
use lib.Seq.{get_or-append-add, get_or_at}
use Rattle.frame.specs.Hex.{be}
use Rattle.frame.specs.Field.{Field, big_at, field_at}
use Rattle.frame.specs.Code.Narrow.{Narrow}
use Rattle.frame.specs.declared.field.Cursor.{Cursor}
use Rattle.std.specs.Prelude.{Ok, Err}
use Rattle.refusal.specs.declared.Refusal.{Refusal}
use Rattle.refusal.specs.declared.Refusal.TheVariants.{Misframed}
use Rattle.frame.proofs.HexLaws.{by_test, length_be, be_add}

-- ---- the number that k bytes stand for

-- two bytes, the high one first
pub word_is : (s : List ℕ) (at a b : ℕ) → a ≡ get_or s at 0 → b ≡ get_or s (at + 1) 0 → a * 256 + b ≡ big_at 2 s at
unfolding big_at
word_is s at a b e f = rw (e, f, add-zero, zero-mul, zero-add)

-- past the end they are 0
pub word_past : (s : List ℕ) (at : ℕ) → length s ≤ at → big_at 2 s at ≡ 0
word_past s at h =
    sym (word_is s at 0 0 (sym (get_or-eq_default {A = ℕ} s 0 {n = at} h)) (sym (get_or-eq_default {A = ℕ} s 0 {n = at + 1} (omega (arith, h)))))

pub big_at_lt : (k : ℕ) (s : List ℕ) (at : ℕ) → ((i : ℕ) → get_or s i 0 < 256) → big_at k s at < 256 ^ k
unfolding big_at
big_at_lt zero s at h = lit< tt
big_at_lt (suc k) s at h = rw pow-suc (omega (arith, big_at_lt k s at h, h (at + k)))

-- the number so far, before the last byte of a field of at most four: there is room for one byte more
pub big_room : {v : ℕ} (k : ℕ) → v < 256 ^ k → k < 4 → v < 2 ^ 24
big_room k e h = lt_of_lt_of_le e (pow-le-pow_right {n = 256} (lit< tt) {i = k} {j = 3} (omega arith))

pub room_more : {v b : ℕ} (k : ℕ) → v < 256 ^ k → b < 256 → v * 256 + b < 256 ^ (k + 1)
room_more k h l = rw (add-one, pow-suc) (omega arith)

pub big_more : (k : ℕ) (s : List ℕ) (at v b : ℕ) → v ≡ big_at k s at → b ≡ get_or s (at + k) 0 → v * 256 + b ≡ big_at (k + 1) s at
unfolding big_at
big_more k s at v b e f = rw (add-one, e, f)

-- only the k bytes from `at` on count
pub big_at_same : (k : ℕ) (s t : List ℕ) (a b : ℕ) → ((i : ℕ) → i < k → get_or s (a + i) 0 ≡ get_or t (b + i) 0) → big_at k s a ≡ big_at k t b
unfolding big_at
big_at_same zero s t a b h = refl
big_at_same (suc k) s t a b h = rw (big_at_same k s t a b (λ i l. h i (omega arith)), h k (omega arith))

-- ---- a field

pub field_short : (k : ℕ) (s : List ℕ) (at : ℕ) → length s < at + k → Err Misframed ≡ field_at k s at
unfolding field_at
field_short k s at h = simp (lt-leb (at + k) (length s) h)

pub field_value : (k : ℕ) (s : List ℕ) (at v : ℕ) → at + k ≤ length s → v ≡ big_at k s at → Ok (v, record { at = at + k }) ≡ field_at k s at
unfolding field_at
field_value k s at v h e = simp (le-leb (at + k) (length s) h, e)

-- ---- a field that was answered

-- what `Ok (v, c)` says of the field
pub record IsField (k : ℕ) (s : List ℕ) (at v : ℕ) (c : Cursor) : Type 0 where
  pub fits : at + k ≤ length s
  pub number : v ≡ big_at k s at
  pub next : c.at ≡ at + k

pub value_is_field : (k : ℕ) (s : List ℕ) (at v : ℕ) (c : Cursor) → Ok (v, c) ≡ field_at k s at → IsField k s at v c
unfolding field_at
value_is_field k s at v c e =
    by_test (leb (at + k) (length s))
    (λ t.
    let q : ◌≡◌ {A = Field} (Ok (v, c)) (Ok (big_at k s at, record { at = at + k })) = simp t at e in
    let both : ◌≡◌ {A = ℕ × Cursor} (v, c) (big_at k s at, record { at = at + k }) = cc in
    let d : c ≡ record { at = at + k } = ap (λ (x : ℕ × Cursor). x.1) both in
    record { fits = leb-true _ _ t; number = ap (λ (x : ℕ × Cursor). x.0) both; next = ap (λ (x : Cursor). x.at) d })
    (λ t. absurd (let q : ◌≡◌ {A = Field} (Ok (v, c)) (Err Misframed) = simp t at e in let z : ◌≡◌ {A = ℕ} 0 1 = cc in omega arith))

-- what is not complete is refused by 2
pub field_misframed : (k : ℕ) (s : List ℕ) (at : ℕ) (n : Refusal) → field_at k s at ≡ Err n → n ≡ Misframed
unfolding field_at
field_misframed k s at n e =
    by_test (leb (at + k) (length s))
    (λ t. absurd (let q : ◌≡◌ {A = Field} (Ok (big_at k s at, record { at = at + k })) (Err n) = simp t at e in let z : ◌≡◌ {A = ℕ} 0 1 = cc in omega arith))
    (λ t. let q : ◌≡◌ {A = Field} (Err Misframed) (Err n) = simp t at e in cc)

-- its number fits its bytes
pub value_fits : (k v : ℕ) (c : Cursor) {answer : Field} → Narrow k answer → answer ≡ Ok (v, c) → v < 256 ^ k
value_fits k v c n h = rw h at n

-- ---- a number that was laid is read back

be_snoc : (k n : ℕ) → be (suc k) n ≡ be k (n / 256) ++ (n % 256) ∷ []
unfolding be
be_snoc k n = let e : n % 256 ≡ n / 1 % 256 = omega arith in rw e (ap (λ (m : ℕ). be m n) (sym (add-one k)) ∙ sym (be_add k 1 n))

pub big_at_be : (k n : ℕ) → big_at k (be k n) 0 ≡ n % 256 ^ k
unfolding big_at
big_at_be zero n = sym (mod-one n)
big_at_be (suc k) n =
    let front : big_at k (be k (n / 256) ++ (n % 256) ∷ []) 0 ≡ big_at k (be k (n / 256)) 0 =
    big_at_same k _ _ 0 0 (λ i h. get_or-append (be k (n / 256)) _ 0 (0 + i) (rw (length_be, zero-add) h)) in
    rw (be_snoc, front, big_at_be k (n / 256), zero-add, get_or_at (be k (n / 256)) (n % 256) [] 0 k (length_be k (n / 256)), pow-suc)
    (sym (mod-mul n {m = 256 ^ k} {c = 256} (one-le-pow k 256 (lit< tt)) (lit< tt)))

-- wherever it stands
pub field_back : (k n : ℕ) (xs ys : List ℕ) → n < 256 ^ k → big_at k (xs ++ (be k n ++ ys)) (length xs) ≡ n
field_back k n xs ys h =
    big_at_same k _ (be k n) (length xs) 0 (λ i l. get_or-append-add xs (be k n ++ ys) i 0 ∙ get_or-append (be k n) ys 0 i (rw length_be l) ∙ rw zero-add)
    ∙ big_at_be k n ∙ mod-eq_of_lt h
