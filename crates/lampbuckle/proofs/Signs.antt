-- A refused call answers a negative number and an accepted one 0 or more, so that C tells them by the sign: no refusal has the number 0.
-- Assumes nothing.
use mathlib.Core.Path.{◌≡◌, refl, sym, ◌∙◌}
use mathlib.Core.Bool.{cond}
use mathlib.Core.List.{List}
use Prim.Native.Nat.{ℕ, zero, suc, ◌+◌, ◌*◌, ◌<◌}
use native.Mathlib.Omega.{arith}
use borrow.Author.Tests.{ltb-true, ltb-false, eqb-true, eqb-false}
use lib.Dec.{ltb, eqb}
use lib.IntN.{pos, pos-ne-negsuc}
use lib.ListN.{length}
use Rattle.std.specs.Prelude.{⊤, Ok, Err}
use Rattle.refusal.specs.declared.Refusal.{Refusal}
use Rattle.refusal.specs.declared.Refusal.TheVariants.{UnitOut, CountOut, Missing, OtherFirst, OtherLast, NoRoom}
use Rattle.refusal.specs.Numbers.{number_of, InTable}
use Rattle.refusal.specs.Answers.{OrRefused, no_refusal}
use Rattle.refusal.proofs.RefusalLaws.{in_table}
use Rattle.refusal.proofs.AnswerLaws.{never_refused}
use Rattle.frame.proofs.HexLaws.{by_test}
use Rattle.frame.proofs.Tests.{one_of}
use Rattle.writing.specs.Whole.{wrote_of}
use Rattle.state.specs.Listed.{Step, refused, accepted}
use Rattle.unit.specs.Pairs.{subsequences}
use Rattle.unit.specs.declared.Unit.{Unit}
use Rattle.front.specs.UnitLine.{unit_line, unit_bytes}
use Rattle.front.specs.PairLine.{pair_line}
use Rattle.front.specs.ReferenceLine.{reference_line}
use Rattle.record.specs.Record.{record_of}
use Rattle.frame.specs.Same.{same_list}
use Rattle.listing.specs.Resuming.{Last, go_on, whole, bad, last_of, Edges, nothing, edges, edges_from, Place, afresh, second, on, over, no, on_last, place_by}
use Rattle.resuming.specs.Last.{placed_of}
use Rattle.lampbuckle.specs.Answer.{minus, Outcome}
use Rattle.lampbuckle.specs.Numbers.{unit_length, unit_of, unit_numbers_refusal, keep_length}
use Rattle.state.specs.Numbers.{state_length, state_of}
use Rattle.lampbuckle.specs.Lines.{unit_answered, unit_call, pair_answered, pair_call, reference_answered, reference_call}
use Rattle.lampbuckle.specs.Call.{record_answered, record_call}
use Rattle.lampbuckle.specs.Write.{after_numbers, written_call, unit_written}
use Rattle.lampbuckle.specs.Resume.{keep_call, place_answered, place_call, wanted_length, pass_call}

-- ---- the two signs

-- minus a number of document 01's table
pub record Negative (x : Outcome) : Type 0 where
  pub number : ℕ
  pub told : InTable number
  pub is : x.answer ≡ minus number

-- 0 or more
pub record Counts (x : Outcome) : Type 0 where
  pub number : ℕ
  pub is : x.answer ≡ pos number

-- no answer is both
pub never_both : (x : Outcome) → Negative x → Counts x → ⊥
never_both x n c = by n.number n.told (sym n.is ∙ c.is)
  where
    by : (k : ℕ) → InTable k → minus k ≡ pos c.number → ⊥
    by zero h e = omega (arith, h.0)
    by (suc k) h e = pos-ne-negsuc c.number k (sym e)

-- a call that is accepted where `Good` holds, and refused elsewhere
pub data Signed (x : Outcome) (Good : Type 0) : Type 0 where
  is_accepted : Good → Counts x → Signed x Good
  signed_refused : (Good → ⊥) → Negative x → Signed x Good

-- ---- by the form of an outcome

minus_told : {x : Outcome} (n : Refusal) → x.answer ≡ minus (number_of n) → Negative x
minus_told n e = record { number = number_of n; told = in_table n; is = e }

pos_told : {x : Outcome} (n : ℕ) → x.answer ≡ pos n → Counts x
pos_told n e = record { number = n; is = e }

-- numbers of another shape are refused
shaped : (l : List ℕ) (k : ℕ) {x y : Outcome} {Good : Type 0} → Signed x Good → Negative y → Signed (cond (eqb (length l) k) x y) ((length l ≡ k) × Good)
shaped l k {x} {y} {Good} s n = by_test (eqb (length l) k) (λ t. rw t (both (eqb-true _ _ t) s)) (λ t. rw t (signed_refused (λ o. eqb-false _ _ t o.0) n))
  where
    both : length l ≡ k → Signed x Good → Signed x ((length l ≡ k) × Good)
    both e (is_accepted o c) = is_accepted (e, o) c
    both e (signed_refused f c) = signed_refused (λ o. f o.1) c

-- where nothing else is refused
shape_only : (l : List ℕ) (k : ℕ) {x y : Outcome} → Counts x → Negative y → Signed (cond (eqb (length l) k) x y) (length l ≡ k)
shape_only l k c n = by_test (eqb (length l) k) (λ t. rw t (is_accepted (eqb-true _ _ t) c)) (λ t. rw t (signed_refused (eqb-false _ _ t) n))

-- ---- the calls

-- a line that its reader accepts
abbrev pub LineRead : {A : Type 0} → OrRefused A → Type 0
LineRead (Ok a) = ⊤
LineRead (Err refusal) = ⊥

pub unit_signed : (line lent : List ℕ) → Signed (unit_call line lent) ((length lent ≡ unit_length) × LineRead (unit_line line))
unfolding unit_call
unit_signed line lent = shaped lent unit_length (by (unit_line line)) (minus_told UnitOut refl)
  where
    by : (r : OrRefused Unit) → Signed (unit_answered r line lent) (LineRead r)
    by (Ok u) = is_accepted tt (pos_told (length line) refl)
    by (Err n) = signed_refused (λ o. o) (minus_told n refl)

pub pair_signed : (line : List ℕ) (number : ℕ) (table counts : List ℕ) → Signed (pair_call line number table counts) ((length counts ≡ subsequences) × LineRead (pair_line line number (length table)))
unfolding pair_call
pair_signed line number table counts = shaped counts subsequences (by (pair_line line number (length table))) (minus_told CountOut refl)
  where
    by : (r : OrRefused ℕ) → Signed (pair_answered r line number table counts) (LineRead r)
    by (Ok n) = is_accepted tt (pos_told n refl)
    by (Err n) = signed_refused (λ o. o) (minus_told n refl)

pub reference_signed : (line lent : List ℕ) (used : ℕ) → Signed (reference_call line lent used) (LineRead (reference_line line used (length lent)))
unfolding reference_call
reference_signed line lent used = by (reference_line line used (length lent))
  where
    by : (r : OrRefused ℕ) → Signed (reference_answered r line lent used) (LineRead r)
    by (Ok n) = is_accepted tt (pos_told n refl)
    by (Err n) = signed_refused (λ o. o) (minus_told n refl)

abbrev pub RecordRead : Step → Type 0
RecordRead (refused n) = ⊥
RecordRead (accepted frame next) = ⊤

pub record_signed : (numbers bases symbols counts state line out : List ℕ)
    → Signed (record_call numbers bases symbols counts state line out) ((length numbers ≡ unit_length) × RecordRead (record_of (unit_of numbers) bases symbols counts (state_of state) line (length out)))
unfolding record_call
record_signed numbers bases symbols counts state line out =
    shaped numbers unit_length (by (record_of (unit_of numbers) bases symbols counts (state_of state) line (length out))) (minus_told UnitOut refl)
  where
    by : (x : Step) → Signed (record_answered x state out) (RecordRead x)
    by (refused n) = signed_refused (λ o. o) (minus_told n refl)
    by (accepted frame next) = is_accepted tt (pos_told (2 * length frame + 1) refl)

-- a line that is written has room with its 0A
pub written_signed : (frame out : List ℕ) → Signed (written_call frame out) (2 * length frame < length out)
unfolding written_call wrote_of
written_signed frame out =
    by_test (ltb (2 * length frame) (length out))
    (λ t. rw t (is_accepted (ltb-true _ _ t) (pos_told (2 * length frame + 1) refl)))
    (λ t. rw t (signed_refused (λ o. omega (arith, ltb-false (2 * length frame) (length out) t)) (minus_told NoRoom refl)))

pub unit_written_signed : (numbers out : List ℕ) → Signed (unit_written numbers out) ((unit_numbers_refusal numbers ≡ no_refusal) × (2 * length (unit_bytes (unit_of numbers)) < length out))
unfolding unit_written
unit_written_signed numbers out = by (unit_numbers_refusal numbers)
  where
    both : {x : Outcome} {A B : Type 0} → A → Signed x B → Signed x (A × B)
    both a (is_accepted o c) = is_accepted (a, o) c
    both a (signed_refused f c) = signed_refused (λ o. f o.1) c

    by : (r : OrRefused ⊤) → Signed (after_numbers r out (written_call (unit_bytes (unit_of numbers)) out)) ((r ≡ no_refusal) × (2 * length (unit_bytes (unit_of numbers)) < length out))
    by (Ok t) = both refl (written_signed (unit_bytes (unit_of numbers)) out)
    by (Err n) = signed_refused (λ o. never_refused o.0) (minus_told n refl)

pub keep_signed : (piece lent : List ℕ) → Signed (keep_call piece lent) (length lent ≡ keep_length)
unfolding keep_call
keep_signed piece lent = shape_only lent keep_length (pos_told _ refl) (minus_told Missing refl)

abbrev pub CanGoOn : Place → Type 0
CanGoOn (no n) = ⊥
CanGoOn afresh = ⊤
CanGoOn second = ⊤
CanGoOn (on s) = ⊤
CanGoOn over = ⊤

pub place_signed : (listed : List ℕ) (count : ℕ) (counts first last lent : List ℕ)
    → Signed (place_call listed count counts first last lent) ((length counts ≡ subsequences) × ((length lent ≡ state_length) × CanGoOn (place_by listed count counts (edges_from first last))))
unfolding place_call placed_of
place_signed listed count counts first last lent =
    shaped counts subsequences (shaped lent state_length (by (edges_from first last)) (minus_told Missing refl)) (minus_told CountOut refl)
  where
    SignedPlace : Place → Type 0
    SignedPlace x = Signed (place_answered (placed_of x) lent) (CanGoOn x)

    on_last_lem : (x : Last) → SignedPlace (on_last x)
    on_last_lem (go_on s) = is_accepted tt (pos_told 2 refl)
    on_last_lem whole = is_accepted tt (pos_told 3 refl)
    on_last_lem bad = signed_refused (λ o. o) (minus_told OtherLast refl)

    by : (e : Edges) → SignedPlace (place_by listed count counts e)
    by nothing = is_accepted tt (pos_told 0 refl)
    by (edges a z) =
        one_of SignedPlace (same_list a listed) _ _
        (one_of SignedPlace (same_list z listed) _ _ (is_accepted tt (pos_told 1 refl)) (on_last_lem (last_of count counts z)))
        (signed_refused (λ o. o) (minus_told OtherFirst refl))

pub pass_signed : (piece lent : List ℕ) → Signed (pass_call piece lent) (length lent ≡ wanted_length)
unfolding pass_call
pass_signed piece lent = shape_only lent wanted_length (pos_told _ refl) (minus_told Missing refl)
