-- The laws of a line: a well-formed line is the line of its bytes, and the line of bytes is well formed.
-- Assumes nothing.
use mathlib.Core.Path.{◌≡◌, sym, ap, ◌∙◌}
use mathlib.Core.Bool.{Bool, true, false, cond}
use mathlib.Core.List.{List, [], ◌∷◌, ◌++◌, append-nil}
use Prim.Native.Nat.{ℕ, suc, ◌+◌, ◌*◌, ◌-◌, ◌/◌, ◌%◌, ◌<◌, ◌≤◌, min, max}
use native.Mathlib.Numerals.{add-one}
use native.Mathlib.Omega.{arith}
use borrow.Author.Tests.{lt-ltb, le-ltb, ltb-true, ltb-false, leb-true, leb-false, ne_eqb, eqb-true, eqb-false}
use lib.Dec.{ltb, leb, eqb}
use lib.ListN.{length, take, get_or, length-append, take-append-drop, drop_of_length-le}
use lib.Seq.{get_or_at, take_at, slice, slice-cons, slice_empty, length-take-le, drop-cons}
use Rattle.frame.specs.Hex.{is_digit, unhex, hex_of, all_digits, Bytes}
use Rattle.frame.specs.Line.{line_end, line_within}
pub use Rattle.frame.specs.Line.{line_of_bytes}
use Rattle.std.specs.Prelude.{Ok, Err}
use Rattle.refusal.specs.Answers.{OrRefused}
use Rattle.refusal.specs.declared.Refusal.{Refusal}
use Rattle.refusal.specs.declared.Refusal.TheVariants.{Malformed}
use Rattle.frame.proofs.HexLaws.{by_test, length_hex_of, digits_hex_of, unhex_hex_of, hex_of_unhex, bytes_unhex}

-- ---- a scan of digits, from index i up to index m

digits_step : (l : List ℕ) (m i : ℕ) → i < m → m ≤ length l → is_digit (get_or l i 0) ≡ true → all_digits (slice i m l) ≡ all_digits (slice (i + 1) m l)
unfolding all_digits
digits_step l m i h k t = rw (slice-cons i m l 0 h k, t, add-one)

digits_stop : (l : List ℕ) (m i : ℕ) → i < m → m ≤ length l → is_digit (get_or l i 0) ≡ false → all_digits (slice i m l) ≡ false
unfolding all_digits
digits_stop l m i h k t = rw (slice-cons i m l 0 h k, t)

digits_end : (l : List ℕ) (m i : ℕ) → m ≤ i → i ≤ m → all_digits (slice i m l) ≡ true
unfolding all_digits
digits_end l m i h k = let e : i ≡ m = omega arith in rw (e, slice_empty)

-- ---- the same scan without a way out: what was found so far, 0 where all were digits

-- outside 0 to 9 and outside a to f
pub other_digit : {a b : ℕ} (d : ℕ) → a ≡ cond (ltb d 48) 1 0 + cond (ltb 57 d) 1 0 → b ≡ cond (ltb d 97) 1 0 + cond (ltb 102 d) 1 0
    → cond (ltb a b) a b ≡ cond (is_digit d) 0 1
unfolding is_digit
other_digit d e f =
    by_test (ltb d 48)
    (λ t. let s = ltb-true d 48 t in rw (e, f) (simp (t, le-ltb 57 d (omega arith), lt-ltb d 97 (omega arith), le-ltb 102 d (omega arith))))
    (λ t. by_test (leb d 57)
    (λ u. let s = leb-true d 57 u in rw (e, f) (simp (t, u, le-ltb 57 d s, lt-ltb d 97 (omega arith), le-ltb 102 d (omega arith))))
    (λ u. let s = leb-false d 57 u in by_test (ltb d 97)
    (λ v. let r = ltb-true d 97 v in rw (e, f) (simp (t, u, v, lt-ltb 57 d s, le-ltb 102 d (omega arith))))
    (λ v. by_test (leb d 102)
    (λ w. rw (e, f) (simp (t, u, v, w, lt-ltb 57 d s, le-ltb 102 d (leb-true d 102 w))))
    (λ w. rw (e, f) (simp (t, u, v, w, lt-ltb 57 d s, lt-ltb 102 d (leb-false d 102 w)))))))

-- the rest is all digits, and so was what stands before it
abbrev pub scanned : (found : ℕ) (l : List ℕ) (m i : ℕ) → Bool
scanned found l m i = cond (eqb found 0) (all_digits (slice i m l)) false

pub scan_on : (found : ℕ) {o : ℕ} (l : List ℕ) (m i : ℕ) → i < m → m ≤ length l → o ≡ cond (is_digit (get_or l i 0)) 0 1
    → scanned (cond (ltb found o) o found) l m (i + 1) ≡ scanned found l m i
scan_on found {o} l m i h k e =
    by_test (is_digit (get_or l i 0))
    (λ t. let z : o ≡ 0 = simp t at e in rw (z, le-ltb found 0 (omega arith), digits_step l m i h k t))
    (λ t.
    let z : o ≡ 1 = simp t at e in
    by_test (eqb found 0)
    (λ u. let y = eqb-true found 0 u in rw (z, y, digits_stop l m i h k t))
    (λ u. let y = eqb-false found 0 u in rw (z, le-ltb found 1 (omega arith)) (simp u)))

pub scan_end : (found : ℕ) (l : List ℕ) (m i : ℕ) → m ≤ i → i ≤ m → scanned found l m i ≡ eqb found 0
scan_end found l m i h k = by_test (eqb found 0) (λ t. simp (t, digits_end l m i h k)) (λ t. simp t)

-- ---- the line of bytes

pub length_line : (bs : List ℕ) → length (line_of_bytes bs) ≡ 2 * length bs + 1
length_line bs = rw (length-append, length_hex_of)

pub unhex_line : (bs : List ℕ) → Bytes bs → unhex (line_of_bytes bs) ≡ bs
unfolding unhex
unhex_line bs h = unhex_hex_of bs (line_end ∷ []) h ∙ append-nil bs

-- it is well formed, where the limit allows it
pub line_is_frame : (most : ℕ) (bs : List ℕ) → Bytes bs → 2 * length bs ≤ most → line_within most (line_of_bytes bs) ≡ Ok (length bs)
unfolding line_within
line_is_frame most bs h l =
    let n : length (line_of_bytes bs) ≡ 2 * length bs + 1 = length_line bs in
    let m : 2 * length bs + 1 - 1 ≡ 2 * length bs = omega arith in
    let half : 2 * length bs / 2 ≡ length bs = omega arith in
    let odd : (2 * length bs + 1) % 2 ≡ 0 → ⊥ = λ e. omega arith in
    simp (
      n,
      m,
      ne_eqb _ _ odd,
      le-ltb most (2 * length bs) l,
      get_or_at (hex_of bs) line_end [] 0 (2 * length bs) (length_hex_of bs),
      take_at (hex_of bs) (line_end ∷ []) (2 * length bs) (length_hex_of bs),
      digits_hex_of bs h,
      half,
    )

-- ---- and back: a well-formed line is the line of its bytes

-- what a line that was answered `Ok n` is
pub record IsLine (most : ℕ) (s : List ℕ) (n : ℕ) : Type 0 where
  pub line : s ≡ line_of_bytes (unhex s)
  pub bytes : Bytes (unhex s)
  pub count : n ≡ length (unhex s)
  pub fits : 2 * n ≤ most
  pub long : length s ≡ 2 * n + 1

-- the digits and what stands behind them
cut_last : (s : List ℕ) (m : ℕ) → length s ≡ m + 1 → s ≡ take m s ++ get_or s m 0 ∷ []
cut_last s m e =
    sym (take-append-drop m s)
    ∙ rw (drop-cons s m 0 (omega arith), drop_of_length-le s {i = suc m} (omega arith))

pub frame_is_line : (most : ℕ) (s : List ℕ) (n : ℕ) → line_within most s ≡ Ok n → IsLine most s n
unfolding line_within
frame_is_line most s n q =
    by_test (eqb (length s % 2) 0) (λ a. never (simp a at q)) (λ a.
    by_test (ltb most (length s - 1)) (λ b. never (simp (a, b) at q)) (λ b.
    by_test (eqb (get_or s (length s - 1) 0) line_end) (λ d.
    by_test (all_digits (take (length s - 1) s)) (λ f.
    let k : (length s - 1) / 2 ≡ n = cc (simp (a, b, d, f) at q) in
    let odd : length s % 2 ≡ 0 → ⊥ = eqb-false _ _ a in
    let one : length s ≡ length s - 1 + 1 = omega arith in
    let cut : s ≡ take (length s - 1) s ++ line_end ∷ [] = cut_last s (length s - 1) one ∙ ap (λ (x : ℕ). take (length s - 1) s ++ x ∷ []) (eqb-true _ _ d) in
    let digits : hex_of (unhex (take (length s - 1) s)) ≡ take (length s - 1) s =
    hex_of_unhex _ (rw (length-take-le (length s - 1) s (omega arith)) (omega arith)) f in
    whole most s (take (length s - 1) s) n cut digits (length-take-le (length s - 1) s (omega arith)) (omega (arith, ltb-false most (length s - 1) b)) (omega arith))
    (λ f. never (simp (a, b, d, f) at q)))
    (λ d. never (simp (a, b, d) at q))))
  where
    never : {P : Type 0} → ◌≡◌ {A = OrRefused ℕ} (Err Malformed) (Ok n) → P
    never e = absurd (let z : ◌≡◌ {A = ℕ} 0 1 = cc in omega arith)

    whole : (most : ℕ) (s d : List ℕ) (n : ℕ) → s ≡ d ++ line_end ∷ [] → hex_of (unhex d) ≡ d → length d ≡ length s - 1 → 2 * n ≤ most → length s ≡ 2 * n + 1 → IsLine most s n
    whole most s d n cut digits long fits size =
        let same : unhex s ≡ unhex d = rw (cut, ← digits) (unhex_line (unhex d) (bytes_unhex d) ∙ rw digits) in
        record {
          line = cut ∙ rw (same, digits);
          bytes = bytes_unhex s;
          count = omega (arith, length_line (unhex d), ap length digits, length_hex_of (unhex d), ap length same);
          fits = fits;
          long = size;
        }

-- ---- a line that is refused: too long, or without 0A

pub line_too_long : (most : ℕ) (s : List ℕ) → most + 1 < length s → line_within most s ≡ Err Malformed
unfolding line_within
line_too_long most s h = by_test (eqb (length s % 2) 0) (λ t. simp t) (λ t. simp (t, lt-ltb most (length s - 1) (omega arith)))

-- an empty line has none
pub line_unended : (most : ℕ) (s : List ℕ) → (get_or s (length s - 1) 0 ≡ line_end → ⊥) → line_within most s ≡ Err Malformed
unfolding line_within
line_unended most s h =
    by_test (eqb (length s % 2) 0) (λ t. simp t) (λ t.
    by_test (ltb most (length s - 1)) (λ u. simp (t, u)) (λ u. simp (t, u, ne_eqb _ _ h)))

-- whatever is refused is refused by 1
pub line_malformed : (most : ℕ) (s : List ℕ) (n : Refusal) → line_within most s ≡ Err n → n ≡ Malformed
unfolding line_within
line_malformed most s n e =
    by_test (eqb (length s % 2) 0) (λ a. is (simp a at e)) (λ a.
    by_test (ltb most (length s - 1)) (λ b. is (simp (a, b) at e)) (λ b.
    by_test (eqb (get_or s (length s - 1) 0) line_end) (λ d.
    by_test (all_digits (take (length s - 1) s)) (λ f. never (simp (a, b, d, f) at e))
    (λ f. is (simp (a, b, d, f) at e)))
    (λ d. is (simp (a, b, d) at e))))
  where
    is : ◌≡◌ {A = OrRefused ℕ} (Err Malformed) (Err n) → n ≡ Malformed
    is q = cc

    never : {P : Type 0} {k : ℕ} → ◌≡◌ {A = OrRefused ℕ} (Ok k) (Err n) → P
    never q = absurd (let z : ◌≡◌ {A = ℕ} 0 1 = cc in omega arith)

-- ---- the lower and the higher of two numbers, as tests

pub min_cond : (a b : ℕ) → min a b ≡ cond (ltb a b) a b
min_cond a b = by_test (ltb a b) (λ t. rw t (omega (arith, ltb-true a b t))) (λ t. rw t (omega (arith, ltb-false a b t)))

pub max_cond : (a b : ℕ) → max a b ≡ cond (ltb a b) b a
max_cond a b = by_test (ltb a b) (λ t. rw t (omega (arith, ltb-true a b t))) (λ t. rw t (omega (arith, ltb-false a b t)))
