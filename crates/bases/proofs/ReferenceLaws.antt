-- The laws of the lent reference: a run of positions is padding, lent bases and padding (10.2.2, Figure 5), for its letters and for refusal 10.
-- Assumes nothing.
use Prim.Native.Nat.{ℕ, zero, suc, ◌+◌, ◌-◌, ◌*◌, ◌<◌, ◌≤◌, min, max}
use mathlib.Core.Path.{◌≡◌, refl, ap, sym, ◌∙◌}
use mathlib.Core.Bool.{true, false, cond}
use mathlib.Core.List.{List, [], ◌∷◌, ◌++◌}
use native.Mathlib.Omega.{arith}
use native.Mathlib.Nat.{zero-add, suc-add, add-zero, add_assoc}
use native.Mathlib.Numerals.{add-one}
use borrow.Author.Tests.{lt-ltb, le-ltb, le-leb, lt-leb, ltb-true, ltb-false, leb-true, leb-false}
use lib.Dec.{ltb, leb}
use lib.ListN.{length, get_or, take, drop, replicate, length-replicate, length-drop}
use lib.Seq.{get_or-take, get_or-drop, length-take-le}
use Rattle.std.specs.Prelude.{⊤, Ok, Err}
use Rattle.refusal.specs.Answers.{OrRefused, no_refusal, checked}
use Rattle.refusal.specs.declared.Refusal.TheVariants.{SymbolOut}
use Rattle.writing.specs.Lay.{Laid}
use Rattle.frame.proofs.HexLaws.{by_test}
use Rattle.writing.proofs.LayLaws.{laid_as, laid_then, laid_room, Rest, rest_put, rest_room}
use Rattle.alphabet.specs.Table35.{letter_n, letter_of, size_of}
use Rattle.alphabet.proofs.AlphabetLaws.{code_of_n_inside}
use Rattle.bases.specs.Reference.{is_lent, base_at, base_refusal, matched_bases, match_refusal}
use Rattle.bases.specs.Bases.{letters_at}
use Rattle.bases.specs.Code.Helpers.{least, lent_before, higher, highest, symbols_refusal}

-- ---- the smaller of two

least_left : (a b : ℕ) → a ≤ b → least a b ≡ a
unfolding least
least_left a b h = by_test (ltb a b) (λ t. rw t) (λ t. rw t (omega (arith, ltb-false a b t)))

least_right : (a b : ℕ) → b ≤ a → least a b ≡ b
unfolding least
least_right a b h = rw (le-ltb a b h)

-- ---- padding, one by one

pub padding_on : (n : ℕ) → 0 < n → replicate n letter_n ≡ (letter_n ∷ []) ++ replicate (n - 1) letter_n
padding_on zero h = absurd (omega arith)
padding_on (suc n) h = let e : suc n - 1 ≡ n = omega arith in rw e

pub padding_end : (n : ℕ) → n ≤ 0 → replicate n letter_n ≡ []
padding_end zero h = refl
padding_end (suc n) h = absurd (omega arith)

-- ---- symbols from a place on

letters_on : (alphabet : ℕ) (s : List ℕ) (i end : ℕ) → i < end → letters_at alphabet s i (end - i) ≡ (letter_of alphabet (get_or s i 0) ∷ []) ++ letters_at alphabet s (i + 1) (end - (i + 1))
unfolding letters_at
letters_on alphabet s i end h = let e : end - i ≡ suc (end - (i + 1)) = omega (arith, add-one (end - (i + 1))) in rw e

pub letters_end : (alphabet : ℕ) (s : List ℕ) (i end : ℕ) → end ≤ i → letters_at alphabet s i (end - i) ≡ []
unfolding letters_at
letters_end alphabet s i end h = let e : end - i ≡ 0 = omega arith in rw e

pub length_letters : (alphabet : ℕ) (s : List ℕ) (at n : ℕ) → length (letters_at alphabet s at n) ≡ n
unfolding letters_at
length_letters alphabet s at zero = refl
length_letters alphabet s at (suc n) = ap suc (length_letters alphabet s (at + 1) n)

-- a turn of a loop that lays letters
module _ (alphabet : ℕ) (s : List ℕ) (start end i : ℕ) {l l₀ : List ℕ} {p p₀ : ℕ} (w : Rest l p (letters_at alphabet s i (end - i)) l₀ p₀ (letters_at alphabet s start (end - start))) (more : i < end) where
  pub letters_room : p₀ + 2 * (end - start) ≤ length l₀ → p + 2 ≤ length l
  letters_room room = rest_room (_ ∷ []) _ w (letters_on alphabet s i end more) (rw length_letters room)

  pub letters_put : {m : List ℕ} {q : ℕ} → Laid l m p q (letter_of alphabet (get_or s i 0) ∷ []) → Rest m q (letters_at alphabet s (i + 1) (end - (i + 1))) l₀ p₀ (letters_at alphabet s start (end - start))
  letters_put f = rest_put w (letters_on alphabet s i end more) f

-- ---- the highest of symbols, and refusal 10 of them

pub highest_on : (most : ℕ) (s : List ℕ) (i end : ℕ) {y : ℕ} → y ≡ higher most (get_or s i 0) → i < end → highest most s i (end - i) ≡ highest y s (i + 1) (end - (i + 1))
unfolding highest
highest_on most s i end q h = let e : end - i ≡ suc (end - (i + 1)) = omega (arith, add-one (end - (i + 1))) in rw (e, q)

pub highest_end : (most : ℕ) (s : List ℕ) (i end : ℕ) → end ≤ i → highest most s i (end - i) ≡ most
unfolding highest
highest_end most s i end h = let e : end - i ≡ 0 = omega arith in rw e

-- one of two is outside where the higher is
higher_out : (size a b : ℕ) (n : OrRefused ⊤) → cond (leb size (higher a b)) (Err SymbolOut) n ≡ cond (leb size a) (Err SymbolOut) (cond (leb size b) (Err SymbolOut) n)
unfolding higher
higher_out size a b n =
    by_test (ltb a b)
    (λ t. by_test (leb size a) (λ u. simp (t, u, le-leb size b (omega (arith, ltb-true a b t, leb-true size a u)))) (λ u. simp (t, u)))
    (λ t. by_test (leb size a) (λ u. simp (t, u)) (λ u. simp (t, u, lt-leb size b (omega (arith, ltb-false a b t, leb-false size a u)))))

highest_out : (alphabet most : ℕ) (s : List ℕ) (at n : ℕ) → cond (leb (size_of alphabet) (highest most s at n)) (Err SymbolOut) no_refusal ≡ cond (leb (size_of alphabet) most) (Err SymbolOut) (symbols_refusal alphabet s at n)
unfolding highest symbols_refusal
highest_out alphabet most s at zero = refl
highest_out alphabet most s at (suc n) = highest_out alphabet (higher most (get_or s at 0)) s (at + 1) n ∙ higher_out (size_of alphabet) most (get_or s at 0) (symbols_refusal alphabet s (at + 1) n)

-- one of the symbols is outside the alphabet where the highest is
pub symbols_highest : (alphabet : ℕ) (s : List ℕ) (at n : ℕ) → symbols_refusal alphabet s at n ≡ cond (leb (size_of alphabet) (highest 0 s at n)) (Err SymbolOut) no_refusal
symbols_highest alphabet s at n =
    rw (highest_out alphabet 0 s at n, lt-leb (size_of alphabet) 0 (omega (arith, code_of_n_inside alphabet)))

-- ---- the first of two refusals

pub first_fine : (n : OrRefused ⊤) → checked n no_refusal ≡ n
first_fine (Ok t) = refl
first_fine (Err refusal) = refl

pub first_assoc : (a b c : OrRefused ⊤) → checked (checked a b) c ≡ checked a (checked b c)
first_assoc (Ok t) b c = refl
first_assoc (Err refusal) b c = refl

-- ---- inside and outside

module _ (reference : List ℕ) (first position : ℕ) where
  pub lent_before_lem : position < first → is_lent reference first position ≡ false
  unfolding is_lent
  lent_before_lem h = rw (lt-ltb position first h)

  pub lent_late : first + length reference ≤ position → is_lent reference first position ≡ false
  unfolding is_lent
  lent_late h = rw (le-ltb position first (omega arith), le-ltb position (first + length reference) h)

  pub lent_inside : first ≤ position → position < first + length reference → is_lent reference first position ≡ true
  unfolding is_lent
  lent_inside h l = rw (le-ltb position first h, lt-ltb position (first + length reference) l)

-- ---- a run of positions

module _ (alphabet : ℕ) (reference : List ℕ) (first : ℕ) where
  pub matched_none : (position : ℕ) → matched_bases alphabet reference first position 0 ≡ []
  unfolding matched_bases
  matched_none position = refl

  pub length_matched : (position n : ℕ) → length (matched_bases alphabet reference first position n) ≡ n
  unfolding matched_bases
  length_matched position zero = refl
  length_matched position (suc n) = ap suc (length_matched (position + 1) n)

  pub matched_add : (position a b : ℕ) → matched_bases alphabet reference first position (a + b) ≡ matched_bases alphabet reference first position a ++ matched_bases alphabet reference first (position + a) b
  unfolding matched_bases
  matched_add position zero b = rw (zero-add b, add-zero position)
  matched_add position (suc a) b = let e : position + suc a ≡ position + 1 + a = omega arith in rw (suc-add a b, e, matched_add (position + 1) a b)

  pub match_add : (position a b : ℕ) → match_refusal alphabet reference first position (a + b) ≡ checked (match_refusal alphabet reference first position a) (match_refusal alphabet reference first (position + a) b)
  unfolding match_refusal
  match_add position zero b = rw (zero-add b, add-zero position)
  match_add position (suc a) b =
      let e : position + suc a ≡ position + 1 + a = omega arith in
      rw (suc-add a b, e, match_add (position + 1) a b) (sym (first_assoc (base_refusal alphabet reference first position) (match_refusal alphabet reference first (position + 1) a) (match_refusal alphabet reference first (position + 1 + a) b)))

  -- nothing of it is lent
  pub matched_padded : (position n : ℕ) → ((i : ℕ) → i < n → is_lent reference first (position + i) ≡ false) → matched_bases alphabet reference first position n ≡ replicate n letter_n
  unfolding matched_bases base_at
  matched_padded position zero h = refl
  matched_padded position (suc n) h =
      let z : is_lent reference first position ≡ false = rw (add-zero position) at (h 0 (omega arith)) in
      rw (z, matched_padded (position + 1) n (λ i l. let e : position + 1 + i ≡ position + suc i = omega arith in rw e (h (suc i) (omega arith))))

  pub match_padded : (position n : ℕ) → ((i : ℕ) → i < n → is_lent reference first (position + i) ≡ false) → match_refusal alphabet reference first position n ≡ no_refusal
  unfolding match_refusal base_refusal
  match_padded position zero h = refl
  match_padded position (suc n) h =
      let z : is_lent reference first position ≡ false = rw (add-zero position) at (h 0 (omega arith)) in
      rw (z, match_padded (position + 1) n (λ i l. let e : position + 1 + i ≡ position + suc i = omega arith in rw e (h (suc i) (omega arith))))

  -- all of it is lent
  pub matched_lent : (position at n : ℕ) → position ≡ first + at → at + n ≤ length reference → matched_bases alphabet reference first position n ≡ letters_at alphabet reference at n
  unfolding matched_bases base_at letters_at
  matched_lent position at zero q h = refl
  matched_lent position at (suc n) q h =
      let e : position - first ≡ at = omega arith in
      rw (lent_inside reference first position (omega arith) (omega arith), e, matched_lent (position + 1) (at + 1) n (omega arith) (omega arith))

  pub match_lent : (position at n : ℕ) → position ≡ first + at → at + n ≤ length reference → match_refusal alphabet reference first position n ≡ symbols_refusal alphabet reference at n
  unfolding match_refusal base_refusal symbols_refusal
  match_lent position at zero q h = refl
  match_lent position at (suc n) q h =
      let e : position - first ≡ at = omega arith in
      rw (lent_inside reference first position (omega arith) (omega arith), e, match_lent (position + 1) (at + 1) n (omega arith) (omega arith))
      (by_test (leb (size_of alphabet) (get_or reference at 0)) (λ t. simp t) (λ t. simp t))

-- ---- Figure 5: a run of n positions, of which `before` stand before the lent reference, and those from `start` to `end` are lent

pub record Split (lent first position n before start end : ℕ) : Type 0 where
  pub order : start ≤ end
  pub room : end ≤ lent
  pub fits : before + (end - start) ≤ n
  pub early : (i : ℕ) → i < before → position + i < first
  pub inner : start < end → position + before ≡ first + start
  pub late : (i : ℕ) → before + (end - start) ≤ i → i < n → first + lent ≤ position + i

pub window_split : (lent first position n : ℕ) {gap before start end : ℕ} → gap ≡ first - position → before ≡ least n gap → start ≡ lent_before lent first position → end ≡ lent_before lent first (position + n) → Split lent first position n before start end
window_split lent first position n {gap} {before} {start} {end} g q qs qe =
    let qb : before ≡ least n (first - position) = q ∙ ap (λ (k : ℕ). least n k) g in
    by_test (ltb position first)
    (λ t.
    let l = ltb-true position first t in
    let s : start ≡ 0 = qs ∙ least_left (position - first) lent (omega arith) ∙ omega arith in
    by_test (ltb first (position + n))
    (λ u.
    let m = ltb-true first (position + n) u in
    let b : before ≡ first - position = qb ∙ least_right n (first - position) (omega arith) in
    by_test (ltb lent (position + n - first))
    (λ v.
    let k = ltb-true lent (position + n - first) v in
    let e : end ≡ lent = qe ∙ least_right (position + n - first) lent (omega arith) in
    record { order = omega arith; room = omega arith; fits = omega arith; early = λ i h. omega arith; inner = λ h. omega arith; late = λ i h j. omega arith })
    (λ v.
    let k = ltb-false lent (position + n - first) v in
    let e : end ≡ position + n - first = qe ∙ least_left (position + n - first) lent k in
    record { order = omega arith; room = omega arith; fits = omega arith; early = λ i h. omega arith; inner = λ h. omega arith; late = λ i h j. omega arith }))
    (λ u.
    let m = ltb-false first (position + n) u in
    let b : before ≡ n = qb ∙ least_left n (first - position) (omega arith) in
    let e : end ≡ 0 = qe ∙ least_left (position + n - first) lent (omega arith) ∙ omega arith in
    record { order = omega arith; room = omega arith; fits = omega arith; early = λ i h. omega arith; inner = λ h. omega arith; late = λ i h j. omega arith }))
    (λ t.
    let l = ltb-false position first t in
    let b : before ≡ 0 = qb ∙ least_right n (first - position) (omega arith) ∙ omega arith in
    by_test (ltb lent (position + n - first))
    (λ v.
    let k = ltb-true lent (position + n - first) v in
    let e : end ≡ lent = qe ∙ least_right (position + n - first) lent (omega arith) in
    by_test (ltb lent (position - first))
    (λ w.
    let s : start ≡ lent = qs ∙ least_right (position - first) lent (omega (arith, ltb-true lent (position - first) w)) in
    record { order = omega arith; room = omega arith; fits = omega arith; early = λ i h. omega arith; inner = λ h. omega arith; late = λ i h j. omega (arith, ltb-true lent (position - first) w) })
    (λ w.
    let s : start ≡ position - first = qs ∙ least_left (position - first) lent (ltb-false lent (position - first) w) in
    record { order = omega (arith, ltb-false lent (position - first) w); room = omega arith; fits = omega (arith, ltb-false lent (position - first) w); early = λ i h. omega arith; inner = λ h. omega arith; late = λ i h j. omega (arith, ltb-false lent (position - first) w) }))
    (λ v.
    let k = ltb-false lent (position + n - first) v in
    let e : end ≡ position + n - first = qe ∙ least_left (position + n - first) lent k in
    let s : start ≡ position - first = qs ∙ least_left (position - first) lent (omega arith) in
    record { order = omega arith; room = omega arith; fits = omega arith; early = λ i h. omega arith; inner = λ h. omega arith; late = λ i h j. omega arith }))

module _ (alphabet : ℕ) (reference : List ℕ) (first position n : ℕ) {before start end : ℕ} (s : Split (length reference) first position n before start end) where
  inside_matched : matched_bases alphabet reference first (position + before) (end - start) ≡ letters_at alphabet reference start (end - start)
  unfolding matched_bases letters_at
  inside_matched =
      by_test (ltb start end)
      (λ t. matched_lent alphabet reference first (position + before) start (end - start) (s.inner (ltb-true start end t)) (omega (arith, s.room, ltb-true start end t)))
      (λ t. let e : end - start ≡ 0 = omega (arith, ltb-false start end t) in rw e)

  pub matched_split : matched_bases alphabet reference first position n ≡ (replicate before letter_n ++ letters_at alphabet reference start (end - start)) ++ replicate (n - before - (end - start)) letter_n
  matched_split =
      let behind = n - before - (end - start) in
      let w : n ≡ before + (end - start) + behind = omega (arith, s.fits) in
      let e1 = matched_padded alphabet reference first position before (λ i h. lent_before_lem reference first (position + i) (s.early i h)) in
      let e3 = matched_padded alphabet reference first (position + (before + (end - start))) behind (λ i h. lent_late reference first _ (let q : position + (before + (end - start)) + i ≡ position + (before + (end - start) + i) = omega arith in rw q (s.late (before + (end - start) + i) (omega arith) (omega (arith, s.fits))))) in
      ap (λ (k : ℕ). matched_bases alphabet reference first position k) w
      ∙ rw (matched_add alphabet reference first position (before + (end - start)) behind, matched_add alphabet reference first position before (end - start), e1, inside_matched, e3)

  inside_match : match_refusal alphabet reference first (position + before) (end - start) ≡ symbols_refusal alphabet reference start (end - start)
  unfolding match_refusal symbols_refusal
  inside_match =
      by_test (ltb start end)
      (λ t. match_lent alphabet reference first (position + before) start (end - start) (s.inner (ltb-true start end t)) (omega (arith, s.room, ltb-true start end t)))
      (λ t. let e : end - start ≡ 0 = omega (arith, ltb-false start end t) in rw e)

  pub match_split : match_refusal alphabet reference first position n ≡ symbols_refusal alphabet reference start (end - start)
  match_split =
      let behind = n - before - (end - start) in
      let w : n ≡ before + (end - start) + behind = omega (arith, s.fits) in
      let e1 = match_padded alphabet reference first position before (λ i h. lent_before_lem reference first (position + i) (s.early i h)) in
      let e3 = match_padded alphabet reference first (position + (before + (end - start))) behind (λ i h. lent_late reference first _ (let q : position + (before + (end - start)) + i ≡ position + (before + (end - start) + i) = omega arith in rw q (s.late (before + (end - start) + i) (omega arith) (omega (arith, s.fits))))) in
      ap (λ (k : ℕ). match_refusal alphabet reference first position k) w
      ∙ rw (match_add alphabet reference first position (before + (end - start)) behind, match_add alphabet reference first position before (end - start), e1, inside_match, e3) (first_fine (symbols_refusal alphabet reference start (end - start)))

-- ---- what writers of a run promise, one after the other

module _ {a b : List ℕ} {at p : ℕ} {lent first position n before start end : ℕ} (s : Split lent first position n before start end) (room : at + 2 * n ≤ length a) (f : Laid a b at p (replicate before letter_n)) where
  pub room_lent : p + 2 * (end - start) ≤ length b
  room_lent = laid_room before (2 * (end - start)) f (length-replicate before letter_n) (omega (arith, s.fits))

  pub room_behind : (alphabet : ℕ) (reference : List ℕ) {c : List ℕ} {q : ℕ} → Laid b c p q (letters_at alphabet reference start (end - start)) → q + 2 * (n - before - (end - start)) ≤ length c
  room_behind alphabet reference g =
      let k = laid_room before (2 * (end - start) + 2 * (n - before - (end - start))) f (length-replicate before letter_n) (omega (arith, s.fits)) in
      laid_room (end - start) (2 * (n - before - (end - start))) g (length_letters alphabet reference start (end - start)) (omega arith)

pub laid_matched : (alphabet : ℕ) (reference : List ℕ) (first position n : ℕ) {before start end : ℕ} {a b c d : List ℕ} {at p q z : ℕ}
    → Laid a b at p (replicate before letter_n) → Laid b c p q (letters_at alphabet reference start (end - start)) → Laid c d q z (replicate (n - before - (end - start)) letter_n)
    → Split (length reference) first position n before start end → Laid a d at z (matched_bases alphabet reference first position n)
laid_matched alphabet reference first position n f g h s = laid_as (sym (matched_split alphabet reference first position n s)) (laid_then (laid_then f g) h)

-- ---- the smaller and the higher of two, as the code has them

pub min_least : (a b : ℕ) → min a b ≡ least a b
unfolding least
min_least a b = by_test (ltb a b) (λ t. rw t (omega (arith, ltb-true a b t))) (λ t. rw t (omega (arith, ltb-false a b t)))

pub max_higher : (a b : ℕ) → max a b ≡ higher a b
unfolding higher
max_higher a b = by_test (ltb a b) (λ t. rw t (omega (arith, ltb-true a b t))) (λ t. rw t (omega (arith, ltb-false a b t)))

-- the window of a match, as the code comes to it
pub split_window : (lent first position n : ℕ) {wide gap before start end : ℕ} → wide ≡ first → gap ≡ wide - position → before ≡ min n gap → start ≡ lent_before lent first position → end ≡ lent_before lent first (position + n) → Split lent first position n before start end
split_window lent first position n {gap = gap} w g q s e = window_split lent first position n (rw w at g) (q ∙ min_least n gap) s e

-- ---- the symbols from `start` to `end`, lent alone

module _ (s : List ℕ) {start end : ℕ} (order : start ≤ end) (room : end ≤ length s) where
  pub window_length : length (take (end - start) (drop start s)) ≡ end - start
  window_length = length-take-le (end - start) (drop start s) (omega (arith, length-drop start s))

  window_symbol : (i : ℕ) → i < end - start → get_or (take (end - start) (drop start s)) i 0 ≡ get_or s (start + i) 0
  window_symbol i h = get_or-take (end - start) (drop start s) i 0 h ∙ get_or-drop start s i 0

  letters_within : (alphabet n i : ℕ) → i + n ≤ end - start → letters_at alphabet (take (end - start) (drop start s)) i n ≡ letters_at alphabet s (start + i) n
  unfolding letters_at
  letters_within alphabet zero i h = refl
  letters_within alphabet (suc n) i h = rw (window_symbol i (omega arith), letters_within alphabet n (i + 1) (omega arith), ← add_assoc) refl

  pub letters_window : (alphabet : ℕ) → letters_at alphabet (take (end - start) (drop start s)) 0 (length (take (end - start) (drop start s))) ≡ letters_at alphabet s start (end - start)
  letters_window alphabet = rw window_length (letters_within alphabet (end - start) 0 (omega arith) ∙ ap (λ k. letters_at alphabet s k (end - start)) (add-zero start))

  symbols_within : (alphabet n i : ℕ) → i + n ≤ end - start → symbols_refusal alphabet (take (end - start) (drop start s)) i n ≡ symbols_refusal alphabet s (start + i) n
  unfolding symbols_refusal
  symbols_within alphabet zero i h = refl
  symbols_within alphabet (suc n) i h = rw (window_symbol i (omega arith), symbols_within alphabet n (i + 1) (omega arith), ← add_assoc) refl

  pub symbols_window : (alphabet : ℕ) → symbols_refusal alphabet (take (end - start) (drop start s)) 0 (length (take (end - start) (drop start s))) ≡ symbols_refusal alphabet s start (end - start)
  symbols_window alphabet = rw window_length (symbols_within alphabet (end - start) 0 (omega arith) ∙ ap (λ k. symbols_refusal alphabet s k (end - start)) (add-zero start))
