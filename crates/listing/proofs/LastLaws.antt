-- The laws of the last kept line: what each line of a listing says, and which lines can be continued.
-- Assumes nothing.
use Prim.Native.Nat.{ℕ, ◌+◌, ◌*◌, ◌≤◌, ◌<◌}
use native.Mathlib.Omega.{arith}
use mathlib.Core.Path.{◌≡◌, refl, sym, ap, ◌∙◌}
use mathlib.Core.Bool.{true}
use mathlib.Core.Logic.{inl, inr}
use mathlib.Core.List.{List}
use lib.Dec.{ltb, leb, eqb, lit<, lit≤}
use lib.ListN.{length, get_or, take, get_or-eq_default}
use lib.Seq.{take_all, length-take-le}
use borrow.Author.Tests.{lt-ltb, le-ltb, ltb-true, ltb-false, eq-eqb, ne_eqb, eqb-true, eqb-false, leb-true, leb-false}
use Rattle.frame.specs.Hex.{Bytes, unhex, be}
use Rattle.frame.specs.Line.{line_within}
use Rattle.frame.specs.Field.{big_at}
use Rattle.frame.specs.Steps.{after_line}
use Rattle.std.specs.Prelude.{Ok, Err}
use Rattle.refusal.specs.Answers.{OrRefused}
use Rattle.refusal.specs.declared.Refusal.{Refusal}
use Rattle.frame.proofs.HexLaws.{by_test, false_true}
use Rattle.frame.proofs.LineLaws.{line_of_bytes, unhex_line, line_is_frame, frame_is_line, line_too_long}
use Rattle.unit.specs.Pairs.{subsequences}
use Rattle.state.specs.State.{within, index_count}
use Rattle.state.proofs.StateLaws.{within_all, within_each}
use Rattle.state.proofs.HeadLaws.{length_words_at, words_at_each}
use Rattle.unit.specs.Kinds.{kind_listed, kind_refused, kind_done}
use Rattle.state.specs.Listed.{most_listed, least_listed, number_place, index_place, words_at, state_at, state_back}
use Rattle.listing.specs.Listing.{frame05, line05, frame06, line06}
use Rattle.listing.specs.Resuming.{Last, go_on, whole, bad, bytes05, bytes06, listed_last, frame_last, last_of, ContinuableLine, ClosingLine, Closes}

-- ---- what a line says

-- the line of some bytes says what they say
pub last_bytes : (count : ℕ) (counts bs : List ℕ) → Bytes bs → 2 * length bs ≤ most_listed → last_of count counts (line_of_bytes bs) ≡ frame_last count counts bs
unfolding last_of
last_bytes count counts bs h l = rw (line_is_frame most_listed bs h l, unhex_line bs h)

-- the bytes of the last lines
pub bytes_05 : (q n : ℕ) → Bytes (frame05 q n)
unfolding be Bytes
bytes_05 q n = (lit< tt, (omega arith, (omega arith, (omega arith, tt))))

pub bytes_06 : (q : ℕ) → Bytes (frame06 q)
unfolding be Bytes
bytes_06 q = (lit< tt, (omega arith, (omega arith, tt)))

pub last_05 : (count : ℕ) (counts : List ℕ) (q n : ℕ) → last_of count counts (line05 q n) ≡ whole
unfolding line05 frame_last be
last_05 count counts q n = last_bytes count counts (frame05 q n) (bytes_05 q n) (lit≤ tt)

pub last_06 : (count : ℕ) (counts : List ℕ) (q : ℕ) → last_of count counts (line06 q) ≡ whole
unfolding line06 frame_last be
last_06 count counts q = last_bytes count counts (frame06 q) (bytes_06 q) (lit≤ tt)

pub frame_listed : (count : ℕ) (counts bs : List ℕ) → get_or bs 0 0 ≡ kind_listed → least_listed ≤ length bs → big_at 2 bs number_place < count
    → within (state_at bs) counts ≡ true → frame_last count counts bs ≡ go_on (state_at bs)
unfolding frame_last state_back
frame_listed count counts bs k l n w = simp (eq-eqb _ _ k, le-ltb (length bs) least_listed l, lt-ltb (big_at 2 bs number_place) count n, w)

-- and of a frame of kind k
module _ (count : ℕ) (counts bs : List ℕ) (n : ℕ) (size : n ≡ length bs) (k : ℕ) (kind : k ≡ get_or bs 0 0) where
  pub frame_is_listed : k ≡ kind_listed → listed_last count counts bs ≡ frame_last count counts bs
  unfolding frame_last
  frame_is_listed a = rw (← kind, eq-eqb k kind_listed a)

  module _ (a : k ≡ kind_listed → ⊥) where
    pub frame_05 : k ≡ kind_refused → n ≡ bytes05 → whole ≡ frame_last count counts bs
    unfolding frame_last
    frame_05 b l = simp (sym kind, sym size, ne_eqb k kind_listed a, eq-eqb k kind_refused b, eq-eqb n bytes05 l)

    pub frame_not_05 : k ≡ kind_refused → (n ≡ bytes05 → ⊥) → bad ≡ frame_last count counts bs
    unfolding frame_last
    frame_not_05 b l = simp (sym kind, sym size, ne_eqb k kind_listed a, eq-eqb k kind_refused b, ne_eqb n bytes05 l)

    module _ (b : k ≡ kind_refused → ⊥) where
      pub frame_06 : k ≡ kind_done → n ≡ bytes06 → whole ≡ frame_last count counts bs
      unfolding frame_last
      frame_06 d l = simp (sym kind, sym size, ne_eqb k kind_listed a, ne_eqb k kind_refused b, eq-eqb k kind_done d, eq-eqb n bytes06 l)

      pub frame_not_06 : k ≡ kind_done → (n ≡ bytes06 → ⊥) → bad ≡ frame_last count counts bs
      unfolding frame_last
      frame_not_06 d l = simp (sym kind, sym size, ne_eqb k kind_listed a, ne_eqb k kind_refused b, eq-eqb k kind_done d, ne_eqb n bytes06 l)

      pub frame_other : (k ≡ kind_done → ⊥) → bad ≡ frame_last count counts bs
      unfolding frame_last
      frame_other d = simp (sym kind, ne_eqb k kind_listed a, ne_eqb k kind_refused b, ne_eqb k kind_done d)

pub last_malformed : (count : ℕ) (counts line : List ℕ) (n : Refusal) → line_within most_listed line ≡ Err n → bad ≡ last_of count counts line
unfolding last_of
last_malformed count counts line n e = rw e

pub last_frame : (count : ℕ) (counts line : List ℕ) (n : ℕ) → line_within most_listed line ≡ Ok n → frame_last count counts (unhex line) ≡ last_of count counts line
unfolding last_of
last_frame count counts line n e = rw e

-- ---- so much of a line as the longest has, and one byte more, is enough

pub last_near : (count : ℕ) (counts : List ℕ) (n : ℕ) (line : List ℕ) → most_listed + 1 < n → last_of count counts (take n line) ≡ last_of count counts line
unfolding last_of
last_near count counts n line h =
    by_test (leb (length line) n)
    (λ t. rw (take_all n line (leb-true (length line) n t)))
    (λ t. let l = leb-false (length line) n t in
    rw (line_too_long most_listed line (omega arith), line_too_long most_listed (take n line) (rw (length-take-le n line (omega arith)) h)))

-- ---- which lines say something, field by field

-- the indexes of a frame are not above the counts, said one by one
within_fields : (counts bs : List ℕ) → length counts ≡ subsequences
    → ((i : ℕ) → i < index_count → big_at 2 bs (index_place + 2 * i) ≤ get_or counts i 0) → within (state_at bs) counts ≡ true
unfolding state_at
within_fields counts bs e h =
    within_all _ counts (length_words_at index_count bs index_place ∙ sym e)
    (λ i. by_test (ltb i index_count)
    (λ t. let l = ltb-true i index_count t in rw (words_at_each index_count bs index_place i l) (h i l))
    (λ t. rw (get_or-eq_default (words_at index_count bs index_place) 0 {n = i} (rw (length_words_at index_count bs index_place) (ltb-false i index_count t))) (omega arith)))

fields_within : (counts bs : List ℕ) → within (state_at bs) counts ≡ true
    → (i : ℕ) → i < index_count → big_at 2 bs (index_place + 2 * i) ≤ get_or counts i 0
unfolding state_at
fields_within counts bs e i h = rw (← words_at_each index_count bs index_place i h) (within_each _ counts e i)

-- a line, sorted by what it says
pub data Sorted (count : ℕ) (counts line : List ℕ) : Last → Type 0 where
  listed : ContinuableLine count counts line → Sorted count counts line (go_on (state_at (unhex line)))
  closed05 : ClosingLine kind_refused bytes05 line → Sorted count counts line whole
  closed06 : ClosingLine kind_done bytes06 line → Sorted count counts line whole
  other : (ContinuableLine count counts line → ⊥) → (ClosingLine kind_refused bytes05 line → ⊥) → (ClosingLine kind_done bytes06 line → ⊥) → Sorted count counts line bad

module _ (count : ℕ) (counts line : List ℕ) (all : length counts ≡ subsequences) where
  module _ (n : ℕ) (e : line_within most_listed line ≡ Ok n) where
    -- the bytes that a well-formed line is said to have are those of its frame
    size : (m : ℕ) → line_within most_listed line ≡ Ok m → m ≡ length (unhex line)
    size m q = (frame_is_line most_listed line m q).count

    digits : (m : ℕ) → length (unhex line) ≡ m → line_within most_listed line ≡ Ok m
    digits m q = e ∙ ap Ok (size n e ∙ q)

    -- of another kind
    not_listed : (get_or (unhex line) 0 0 ≡ kind_listed → ⊥) → ContinuableLine count counts line → ⊥
    not_listed h w = h w.kind

    not_closed : (k b : ℕ) → (get_or (unhex line) 0 0 ≡ k → ⊥) → ClosingLine k b line → ⊥
    not_closed k b h w = h w.kind

    -- of another length
    not_long : (k b : ℕ) → (length (unhex line) ≡ b → ⊥) → ClosingLine k b line → ⊥
    not_long k b h w = h (sym (size b w.digits))

    sorted_listed : get_or (unhex line) 0 0 ≡ kind_listed → Sorted count counts line (listed_last count counts (unhex line))
    unfolding state_back
    sorted_listed k =
        let five = not_closed kind_refused bytes05 (λ q. omega arith) in
        let six = not_closed kind_done bytes06 (λ q. omega arith) in
        by_test (ltb (length (unhex line)) least_listed)
        (λ t. rw t (other (λ w. omega (arith, w.least, size w.bytes w.digits, ltb-true (length (unhex line)) least_listed t)) five six))
        (λ t. rw t
        (by_test (ltb (big_at 2 (unhex line) number_place) count)
        (λ u. rw u
        (by_test (within (state_at (unhex line)) counts)
        (λ v. rw v
        (listed (record {
          bytes = n;
          digits = e;
          kind = k;
          least = omega (arith, size n e, ltb-false (length (unhex line)) least_listed t);
          in_count = ltb-true _ _ u;
          in_counts = fields_within counts (unhex line) v;
        })))
        (λ v. rw v (other (λ w. false_true {P = ⊥} (sym v ∙ within_fields counts (unhex line) all w.in_counts)) five six))))
        (λ u. rw u (other (λ w. omega (arith, w.in_count, ltb-false (big_at 2 (unhex line) number_place) count u)) five six))))

    sorted_frame : Sorted count counts line (frame_last count counts (unhex line))
    unfolding frame_last
    sorted_frame =
        by_test (eqb (get_or (unhex line) 0 0) kind_listed)
        (λ t. rw t (sorted_listed (eqb-true _ _ t)))
        (λ t. rw t
        (let four = not_listed (eqb-false (get_or (unhex line) 0 0) kind_listed t) in
        by_test (eqb (get_or (unhex line) 0 0) kind_refused)
        (λ u. rw u
        (let k : get_or (unhex line) 0 0 ≡ kind_refused = eqb-true _ _ u in
        let six = not_closed kind_done bytes06 (λ q. omega arith) in
        by_test (eqb (length (unhex line)) bytes05)
        (λ v. rw v (closed05 (record { digits = digits bytes05 (eqb-true _ _ v); kind = k })))
        (λ v. rw v (other four (not_long kind_refused bytes05 (eqb-false (length (unhex line)) _ v)) six))))
        (λ u. rw u
        (let five = not_closed kind_refused bytes05 (eqb-false (get_or (unhex line) 0 0) kind_refused u) in
        by_test (eqb (get_or (unhex line) 0 0) kind_done)
        (λ x. rw x
        (let k : get_or (unhex line) 0 0 ≡ kind_done = eqb-true _ _ x in
        by_test (eqb (length (unhex line)) bytes06)
        (λ v. rw v (closed06 (record { digits = digits bytes06 (eqb-true _ _ v); kind = k })))
        (λ v. rw v (other four five (not_long kind_done bytes06 (eqb-false (length (unhex line)) _ v))))))
        (λ x. rw x (other four five (not_closed kind_done bytes06 (eqb-false (get_or (unhex line) 0 0) kind_done x))))))))

  -- a malformed line says nothing
  malformed_frame : {n : Refusal} (m : ℕ) → line_within most_listed line ≡ Err n → line_within most_listed line ≡ Ok m → ⊥
  malformed_frame m e q = let z : ◌≡◌ {A = ℕ} 0 1 = cc in omega arith

  pub sorted : Sorted count counts line (last_of count counts line)
  unfolding last_of
  sorted = by (line_within most_listed line) refl
    where
      by : (t : OrRefused ℕ) → line_within most_listed line ≡ t → Sorted count counts line (after_line (λ refusal. bad) t (frame_last count counts (unhex line)))
      by (Ok n) e = sorted_frame n e
      by (Err n) e = other (λ w. malformed_frame w.bytes e w.digits) (λ w. malformed_frame bytes05 e w.digits) (λ w. malformed_frame bytes06 e w.digits)

  -- and back: what each sort of line says

  pub listed_believed : ContinuableLine count counts line → last_of count counts line ≡ go_on (state_at (unhex line))
  listed_believed w = by sorted
    where
      by : {t : Last} → Sorted count counts line t → t ≡ go_on (state_at (unhex line))
      by (listed v) = refl
      by (closed05 v) = absurd (omega (arith, w.kind, v.kind))
      by (closed06 v) = absurd (omega (arith, w.kind, v.kind))
      by (other a b d) = absurd (a w)

  pub said_closes : Closes line → last_of count counts line ≡ whole
  said_closes w = by sorted w
    where
      by : {t : Last} → Sorted count counts line t → Closes line → t ≡ whole
      by (listed v) (inl c) = absurd (omega (arith, c.kind, v.kind))
      by (listed v) (inr c) = absurd (omega (arith, c.kind, v.kind))
      by (closed05 v) c = refl
      by (closed06 v) c = refl
      by (other a b d) (inl c) = absurd (b c)
      by (other a b d) (inr c) = absurd (d c)
