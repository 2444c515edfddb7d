-- The laws of a file that is read through a buffer: bytes moved to the front, bytes read behind others, the first line of what waits.
-- Assumes nothing.
use Prim.Native.Nat.{ℕ, zero, suc, ◌+◌, ◌-◌, ◌<◌, ◌≤◌}
use native.Mathlib.Omega.{arith}
use mathlib.Core.Path.{◌≡◌, refl, sym, ap, ◌∙◌}
use mathlib.Core.Bool.{Bool, true, false, cond}
use mathlib.Core.List.{List, [], ◌∷◌}
use lib.Dec.{eqb, leb}
use Rattle.std.proofs.Math.Nat.{sub-zero}
use Rattle.std.specs.Prelude.{Option}
use Rattle.std.specs.List.{CopiedTo, SameFrom}
use Rattle.std.specs.declared.ops.Range.{Range}
use Rattle.std.specs.declared.io.Error.{Error}
use lib.ListN.{length, take, drop, get_or, set, length-set, length-take, length-drop}
use lib.Seq.{slice, get_or-set_same, get_or-set_other, get_or-take, get_or-drop, ext_get_or, length-take-le, length-slice, take-take, take-add, drop_at}
use borrow.Author.Tests.{eqb-true, eqb-false, leb-true, leb-false}
use borrow.Rule.Slice.PartMut.{mid_of, put_mid, mid_len, same_len_mid, take_put}
use Rattle.refusal.specs.Numbers.{malformed, missing}
use Rattle.frame.specs.Line.{line_digits, line_end, line_of}
use Rattle.refusal.specs.Answers.{answer_number}
use Rattle.frame.specs.Next.{ended_by, next_line, next_number}
use Rattle.frame.specs.declared.line.Next.{Next}
use Rattle.frame.specs.declared.line.Next.TheVariants.{Whole, TooLong, NoEnd}
use Rattle.frame.proofs.Tests.{by_test, one_of}
use Rattle.frame.proofs.HexLaws.{false_true}
use Rattle.frame.proofs.LineLaws.{line_unended}
use Rattle.resuming.specs.Pass.{pass_over}
use Rattle.resuming.proofs.PassLaws.{pass_within}
use Rattle.stream.specs.Source.{unreadable, Held, Leads, WaitsFor, bytes_by, line_bytes, HandedLine}
use Rattle.stream.specs.Code.Filling.{Some, Filled, Refilled}
use Rattle.resuming.specs.declared.pass.Passed.{Passed}
use Rattle.stream.specs.declared.source.Source.{Source}

-- ---- bytes moved to the front

-- the first i of them are moved
pub record Moved (before : List ℕ) (start : ℕ) (after : List ℕ) (i : ℕ) : Type 0 where
  pub long : length after ≡ length before
  pub moved : (k : ℕ) → k < i → get_or after k 0 ≡ get_or before (start + k) 0
  pub rest : (k : ℕ) → i ≤ k → get_or after k 0 ≡ get_or before k 0

pub moved_none : (before : List ℕ) (start : ℕ) → Moved before start before 0
moved_none before start = record { long = refl; moved = λ k h. absurd (omega arith); rest = λ k h. refl }

pub moved_one : {before : List ℕ} {start : ℕ} {after : List ℕ} {i : ℕ} → Moved before start after i → start + i < length before
    → Moved before start (set after i (get_or after (start + i) 0)) (i + 1)
moved_one {before} {start} {after} {i} m h =
    record {
      long = simp length-set m.long;
      moved = λ k g. by_test (eqb k i) (λ e. here k (eqb-true k i e)) (λ e. there k g (eqb-false k i e));
      rest = λ k g. get_or-set_other after i k _ 0 (λ e. omega arith) ∙ m.rest k (omega arith);
    }
  where
    here : (k : ℕ) → k ≡ i → get_or (set after i (get_or after (start + i) 0)) k 0 ≡ get_or before (start + k) 0
    here k e = rw e (get_or-set_same after i _ 0 (omega (arith, m.long)) ∙ m.rest (start + i) (omega arith))

    there : (k : ℕ) → k < i + 1 → (k ≡ i → ⊥) → get_or (set after i (get_or after (start + i) 0)) k 0 ≡ get_or before (start + k) 0
    there k g e = get_or-set_other after i k _ 0 e ∙ m.moved k (omega arith)

-- as the library's copy within a list leaves them
pub moved_copied : {before after : List ℕ} {start n : ℕ} → length after ≡ length before → CopiedTo before after start 0 n → SameFrom before after (0 + n) → Moved before start after n
moved_copied {before} {after} {start} {n} e copied same =
    record {
      long = e;
      moved = λ k h. copied k 0 (omega arith) (omega arith) ∙ ap (λ j. get_or before (start + j) 0) (sub-zero k);
      rest = λ k h. same k 0 (omega arith);
    }

pub moved_all : {before : List ℕ} {start : ℕ} {after : List ℕ} {n : ℕ} → Moved before start after n → start + n ≤ length before
    → take n after ≡ slice start (start + n) before
moved_all {before} {start} {after} {n} m h =
    ext_get_or 0 _ _ (long ∙ sym (length-slice start (start + n) before h ∙ omega arith)) (λ k g. same k (omega (arith, long)))
  where
    long : length (take n after) ≡ n
    long = length-take-le n after (omega (arith, m.long))

    same : (k : ℕ) → k < n → get_or (take n after) k 0 ≡ get_or (slice start (start + n) before) k 0
    same k g =
        get_or-take n after k 0 g ∙ m.moved k g ∙ sym (get_or-drop start (take (start + n) before) k 0 ∙ get_or-take (start + n) before (start + k) 0 (omega arith))

-- ---- bytes read behind others

-- what stands before the part that a read was lent is as it was
pub take_before : (e a k : ℕ) (xs ys : List ℕ) → e ≤ a → a ≤ length xs → take e (put_mid a k xs ys) ≡ take e xs
take_before e a k xs ys h g = sym (take-take e a (put_mid a k xs ys) h) ∙ ap (take e) (take_put a k xs ys g) ∙ take-take e a xs h

-- so far, from place `start` to place `end`
pub record Filling (before : List ℕ) (start : ℕ) (after : List ℕ) (end : ℕ) : Type 0 where
  pub long : length after ≡ length before
  pub more : start ≤ end
  pub inside : end ≤ length after
  pub same : take start after ≡ take start before

pub filling_none : (before : List ℕ) (start : ℕ) → start ≤ length before → Filling before start before start
filling_none before start h = record { long = refl; more = omega arith; inside = h; same = refl }

-- a read, into all that is behind place `end`
pub filling_read : {before : List ℕ} {start : ℕ} {after : List ℕ} {end : ℕ} → Filling before start after end → (ys : List ℕ)
    → length ys ≡ length (mid_of end (length after - end) after) → Filling before start (put_mid end (length after - end) after ys) end
filling_read {before} {start} {after} {end} f ys e =
    record {
      long = long ∙ f.long;
      more = f.more;
      inside = omega (arith, long, f.inside);
      same = take_before start end (length after - end) after ys f.more f.inside ∙ f.same;
    }
  where
    long : length (put_mid end (length after - end) after ys) ≡ length after
    long = same_len_mid end (length after - end) after ys e

-- and it brought k bytes
pub record LineTurn (before : List ℕ) (start : ℕ) (after : List ℕ) (end : ℕ) (ys : List ℕ) (k : ℕ) : Type 0 where
  pub fits : end + k ≤ length after
  pub less : length (put_mid end (length after - end) after ys) - (end + k) < length after - end
  pub filling : Filling before start (put_mid end (length after - end) after ys) (end + k)

pub filling_turn : {before : List ℕ} {start : ℕ} {after : List ℕ} {end k : ℕ} → Filling before start after end → (ys : List ℕ)
    → length ys ≡ length (mid_of end (length after - end) after) → Some (length ys) k → LineTurn before start after end ys k
filling_turn {before} {start} {after} {end} {k} f ys e b =
    record {
      fits = fits;
      less = omega (arith, fits, g.long, f.long, b.more);
      filling = record { long = g.long; more = omega (arith, f.more); inside = omega (arith, fits, g.long, f.long); same = g.same };
    }
  where
    g : Filling before start (put_mid end (length after - end) after ys) end
    g = filling_read f ys e

    fits : end + k ≤ length after
    fits = let m = mid_len end (length after) after (omega arith) in omega (arith, f.inside, b.inside)

pub filled : {R : Type 0} {before after : List ℕ} {s r : Source R} → Held (length before) s → Filling before s.end after r.end → r.at ≡ s.at → (r.ended ≡ false → r.end ≡ length after) → Filled before s after r
filled h f e full = record { held = record { order = omega (arith, h.order, f.more); inside = f.inside }; start = e; more = f.more; same = f.same; full = full }

-- bytes that wait where they waited
pub leads_same : {R : Type 0} (buf : List ℕ) (s : Source R) → Held (length buf) s → Leads buf s buf s.at s.end
leads_same buf s h = let e : s.at + (s.end - s.at) ≡ s.end = omega arith in record { room = omega arith; same = rw e }

-- bytes that were moved to the front, with others read behind them
pub refilled : {R : Type 0} {before shifted after : List ℕ} {s m r : Source R} (n : ℕ) → Held (length before) s → n ≡ s.end - s.at → m.at ≡ 0 → m.end ≡ n
    → take n shifted ≡ slice s.at (s.at + n) before → Filled shifted m after r → Refilled before s after r
refilled {R} {before} {shifted} {after} {s} {m} {r} n h en zero-at at_n moved f =
    record { held = f.held; start = start; leads = record { room = omega (arith, f.more); same = same }; full = f.full }
  where
    start : r.at ≡ 0
    start = f.start ∙ zero-at

    wide : s.at + n ≡ s.end
    wide = omega arith

    kept : take n after ≡ take n shifted
    kept = rw at_n at f.same

    same : slice r.at (r.at + (s.end - s.at)) after ≡ slice s.at s.end before
    same = let e : r.at + (s.end - s.at) ≡ n = omega arith in
        rw (e, start) (kept ∙ moved ∙ rw wide)

-- ---- so many bytes are there, or all that the file has left

module _ (wanted : ℕ) where
  -- whatever the file keeps of why it cannot be read
  pub ready_unreadable : {R : Type 0} (buf : List ℕ) (s : Source R) (file : R) {failed : Option Error} {r : Source R} → r ≡ record { file = file; at = 0; end = 0; ended = true; failed = failed } → (Held (length buf) s → ⊥) → WaitsFor wanted buf s buf r
  ready_unreadable {R} buf s file e bad =
      record {
        held = rw e (record { order = omega arith; inside = omega arith });
        leads = λ h. absurd (bad h);
        enough = λ o. false_true (sym o ∙ ap (λ (q : Source R). q.ended) e);
      }

  pub ready_failed : {R : Type 0} (buf : List ℕ) (s : Source R) (file : R) (cause : Error) {r : Source R} → r ≡ unreadable file cause → (Held (length buf) s → ⊥) → WaitsFor wanted buf s buf r
  ready_failed buf s file cause e bad = ready_unreadable buf s file e bad

  pub ready_ended : {R : Type 0} (buf : List ℕ) (s : Source R) → Held (length buf) s → s.ended ≡ true → WaitsFor wanted buf s buf s
  ready_ended buf s h e = record { held = h; leads = leads_same buf s; enough = λ o. false_true (sym o ∙ e) }

  pub ready_enough : {R : Type 0} (buf : List ℕ) (s : Source R) → Held (length buf) s → wanted ≤ s.end - s.at → WaitsFor wanted buf s buf s
  ready_enough buf s h e = record { held = h; leads = leads_same buf s; enough = λ o w. e }

  pub ready_refilled : {R : Type 0} {before after : List ℕ} {s r : Source R} → Refilled before s after r → WaitsFor wanted before s after r
  ready_refilled f = record { held = f.held; leads = λ h. f.leads; enough = λ o w. omega (arith, f.start, f.full o) }

-- ---- the first line of what waits

ended_within : (n most k : ℕ) (xs : List ℕ) (without : Next) → k + length xs ≤ most → bytes_by n without ≤ most → bytes_by n (ended_by k xs without) ≤ most
unfolding ended_by
ended_within n most k [] without h g = g
ended_within n most k (x ∷ xs) without h g =
    by (eqb x line_end) (ended_within n most (k + 1) xs without (omega arith) g)
  where
    by : (t : Bool) → bytes_by n (ended_by (k + 1) xs without) ≤ most → bytes_by n (cond t (Whole (k + 1)) (ended_by (k + 1) xs without)) ≤ most
    by true i = omega arith
    by false i = i

pub line_within_lem : (s : List ℕ) → line_bytes s ≤ length s
unfolding line_bytes next_line
line_within_lem s =
    by_test (eqb (length s) 0) (λ e. rw e (omega arith))
    (λ e. rw e (ended_within (length s) (length s) 0 (take (line_digits + 1) s) _ (simp length-take (omega arith)) without))
  where
    without : bytes_by (length s) (cond (leb (length s) line_digits) NoEnd TooLong) ≤ length s
    without =
        by_test (leb (length s) line_digits) (λ e. rw e (omega arith))
        (λ e. rw e (omega (arith, leb-false (length s) line_digits e)))

-- a line of no bytes is none
ended_some : (n k : ℕ) (xs : List ℕ) (without : Next) → 0 < bytes_by n without → 0 < bytes_by n (ended_by k xs without)
unfolding ended_by
ended_some n k [] without h = h
ended_some n k (x ∷ xs) without h =
    one_of (λ (a : Next). 0 < bytes_by n a) (eqb x line_end) (Whole (k + 1)) (ended_by (k + 1) xs without) (omega arith) (ended_some n (k + 1) xs without h)

pub line_none : (s : List ℕ) → line_bytes s ≡ 0 → next_number (next_line s) ≡ missing
unfolding line_bytes next_line
line_none s h =
    by_test (eqb (length s) 0) (λ e. rw e) (λ e.
    let n : length s ≡ 0 → ⊥ = eqb-false (length s) 0 e in
    let some = ended_some (length s) 0 (take (line_digits + 1) s) (cond (leb (length s) line_digits) NoEnd TooLong) (one_of (λ (a : Next). 0 < bytes_by (length s) a) (leb (length s) line_digits) NoEnd TooLong (omega arith) (omega arith)) in
    let h = rw e at h in
    absurd (omega arith))

-- where the answer is 1, there is no 0A among the bytes that are looked at
no_ends : (k : ℕ) (xs : List ℕ) (without : Next) → next_number (ended_by k xs without) ≡ malformed
    → (ended_by k xs without ≡ without) × ((i : ℕ) → i < length xs → get_or xs i 0 ≡ line_end → ⊥)
unfolding ended_by
no_ends k [] without h = (refl, λ i g e. omega arith)
no_ends k (x ∷ xs) without h =
    by_test (eqb x line_end)
    (λ t. let z = rw t at h in absurd (omega arith))
    (λ t.
    let r = no_ends (k + 1) xs without (rw t at h) in
    (rw t r.0, by t r.1))
  where
    by : eqb x line_end ≡ false → ((i : ℕ) → i < length xs → get_or xs i 0 ≡ line_end → ⊥) → (i : ℕ) → i < suc (length xs) → get_or (x ∷ xs) i 0 ≡ line_end → ⊥
    by t r zero g e = eqb-false x line_end t e
    by t r (suc i) g e = r i (omega arith) e

-- so many bytes without 0A are no line
no_line : (s : List ℕ) (m : ℕ) → 0 < m → m ≤ length s → m ≤ line_digits + 1
    → ((i : ℕ) → i < length (take (line_digits + 1) s) → get_or (take (line_digits + 1) s) i 0 ≡ line_end → ⊥) → answer_number (line_of (take m s)) ≡ malformed
no_line s m some h g none = ap (answer_number {A = ℕ}) (line_unended line_digits (take m s) (λ e. none (m - 1) (simp length-take (omega arith)) (last e)))
  where
    last : get_or (take m s) (length (take m s) - 1) 0 ≡ line_end → get_or (take (line_digits + 1) s) (m - 1) 0 ≡ line_end
    last e = rw (length-take-le m s h, get_or-take m s (m - 1) 0 (omega arith), ← get_or-take (line_digits + 1) s (m - 1) 0 (omega arith)) at e

pub line_refused : (s : List ℕ) → next_number (next_line s) ≡ malformed → answer_number (line_of (take (line_bytes s) s)) ≡ malformed
unfolding line_bytes next_line
line_refused s h =
    by_test (eqb (length s) 0)
    (λ e. let z = rw e at h in absurd (omega arith))
    (λ e.
    let n : length s ≡ 0 → ⊥ = eqb-false (length s) 0 e in
    let w = no_ends 0 (take (line_digits + 1) s) _ (rw e at h) in
    by_test (leb (length s) line_digits)
    (λ t. rw (e, w.0, t) (no_line s (length s) (omega arith) (omega arith) (omega (arith, leb-true (length s) line_digits t)) w.1))
    (λ t. rw (e, w.0, t) (no_line s (line_digits + 1) (omega arith) (omega (arith, leb-false (length s) line_digits t)) (omega arith) w.1)))

-- the bytes that wait, as they are lent
pub part_slice : (a e : ℕ) (l : List ℕ) → a ≤ e → e ≤ length l → take (e - a) (drop a l) ≡ slice a e l
part_slice a e l h g =
    let w : a + (e - a) ≡ e = omega arith in
    sym (ap (drop a) (ap (λ n. take n l) (sym w) ∙ take-add a (e - a) l) ∙ drop_at (take a l) (take (e - a) (drop a l)) a (length-take-le a l (omega arith)))

-- the first n of them
part_front : (a e n : ℕ) (l : List ℕ) → a + n ≤ e → e ≤ length l → take n (slice a e l) ≡ slice a (a + n) l
part_front a e n l h g =
    let w : n ≡ a + n - a = omega arith in
    rw (← part_slice a e l (omega arith) g, take-take n (e - a) (drop a l) (omega arith)) (ap (λ k. take k (drop a l)) w ∙ part_slice a (a + n) l (omega arith) (omega arith))

-- they are as many as their places
pub part_long : (a e : ℕ) (l : List ℕ) → e ≤ length l → length (take (e - a) (drop a l)) ≡ e - a
part_long a e l g = length-take-le (e - a) (drop a l) (simp length-drop (omega arith))

pub line_fits : (a e n : ℕ) (l : List ℕ) → a ≤ e → e ≤ length l → n ≡ line_bytes (take (e - a) (drop a l)) → a + n ≤ e
line_fits a e n l h g q =
    let i = line_within_lem (take (e - a) (drop a l)) in
    let w = part_long a e l g in
    omega arith

pub handed_line : {R : Type 0} {before after : List ℕ} {s r q : Source R} {t : Range ℕ} (n : ℕ) → WaitsFor (line_digits + 1) before s after r → n ≡ line_bytes (take (r.end - r.at) (drop r.at after))
    → t.start ≡ r.at → t.end ≡ r.at + n → q.at ≡ t.end → q.end ≡ r.end → q.ended ≡ r.ended → HandedLine before s after t q
handed_line {R} {before} {after} {s} {r} {q} {t} n f is from to next end ended =
    record {
      part =
          record {
            order = omega arith;
            inside = omega (arith, fits, f.held.inside);
            next = next;
            held = record { order = omega (arith, fits); inside = omega (arith, f.held.inside) };
            leads = λ h. rw (from, end) (f.leads h);
            enough = λ o w. rw (from, end) (f.enough (sym ended ∙ o) w);
          };
      line = line;
      none = λ e. line_none _ (omega (arith, line));
      refused = λ e. rw (← part) (line_refused _ e);
    }
  where
    fits : r.at + n ≤ r.end
    fits = line_fits r.at r.end n after f.held.order f.held.inside is

    line : t.end ≡ t.start + line_bytes (slice t.start q.end after)
    line = to ∙ simp (from, end, is, part_slice r.at r.end after f.held.order f.held.inside)

    part : take (line_bytes (slice t.start q.end after)) (slice t.start q.end after) ≡ slice t.start t.end after
    part = rw line (part_front t.start q.end _ after (omega (arith, fits, line)) (omega (arith, f.held.inside)))

-- ---- lines passed over

pub pass_fits : (a e want : ℕ) (l : List ℕ) {p : Passed} → a ≤ e → e ≤ length l → p ≡ pass_over want (take (e - a) (drop a l)) → a + p.at ≤ e
pass_fits a e want l h g q =
    let i = pass_within want (take (e - a) (drop a l)) in
    let w = part_long a e l g in
    rw q (omega arith)
