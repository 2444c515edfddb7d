-- The laws of the lengths of a read's pieces: one length more, and what is known where they are accepted.
-- Assumes nothing.
use mathlib.Core.Path.{◌≡◌, refl, ap}
use mathlib.Core.List.{List, [], ◌∷◌}
use Prim.Native.Nat.{ℕ, zero, suc, ◌+◌, ◌-◌, ◌*◌, ◌<◌, ◌≤◌}
use native.Mathlib.Omega.{arith}
use borrow.Author.Tests.{lt-ltb, le-ltb, ltb-true, ltb-false}
use lib.Dec.{ltb}
use lib.ListN.{length}
use Rattle.std.specs.Prelude.{Ok, Err}
use Rattle.refusal.specs.declared.Refusal.{Refusal}
use Rattle.refusal.specs.declared.Refusal.TheVariants.{LengthOut}
use Rattle.frame.specs.Field.{Field, big_at, field_at}
use Rattle.frame.specs.declared.field.Cursor.{Cursor}
use Rattle.frame.proofs.Tests.{by_test}
use Rattle.frame.proofs.StepLaws.{past_field, past_refusal, past_match_lem}
use Rattle.state.specs.Listed.{words_at}
use Rattle.edits.specs.Pieces.{sum_of, last_length}
use Rattle.edits.proofs.PieceLaws.{NoneZero}
use Rattle.splices.specs.Located.{lengths_in}
use Rattle.splices.specs.declared.Splices.{Splices}
use Rattle.splices.proofs.WalkLaws.{length_past}
use Rattle.block.specs.Checked.{sum_in, lengths_from}

-- ---- a turn of the code's loop

module _ (bytes : List ℕ) (total sum : ℕ) where
  pub lengths_short : (k at : ℕ) (n : Refusal) → 0 < k → field_at 2 bytes at ≡ Err n → lengths_from bytes total sum k at ≡ Err n
  unfolding lengths_from
  lengths_short zero at n h e = absurd (omega arith)
  lengths_short (suc k) at n h e = rw e refl

  pub lengths_zero : (k at v : ℕ) (next : Cursor) → 0 < k → field_at 2 bytes at ≡ Ok (v, next) → v < 1 → lengths_from bytes total sum k at ≡ Err LengthOut
  unfolding lengths_from
  lengths_zero zero at v next h e l = absurd (omega arith)
  lengths_zero (suc k) at v next h e l = rw (e, lt-ltb v 1 l) refl

  pub lengths_on : (k at v : ℕ) (next : Cursor) → 0 < k → field_at 2 bytes at ≡ Ok (v, next) → 1 ≤ v → lengths_from bytes total sum k at ≡ lengths_from bytes total (sum + v) (k - 1) next.at
  unfolding lengths_from
  lengths_on zero at v next h e l = absurd (omega arith)
  lengths_on (suc k) at v next h e l = let j : suc k - 1 ≡ k = omega arith in rw (e, le-ltb v 1 l, j) refl

  pub lengths_end : (k at : ℕ) → k ≤ 0 → lengths_from bytes total sum k at ≡ sum_in total sum at
  unfolding lengths_from
  lengths_end zero at h = refl
  lengths_end (suc k) at h = absurd (omega arith)

-- ---- lengths that are accepted

pub record LengthsGot (bytes : List ℕ) (total sum k at next : ℕ) : Type 0 where
  pub adds : sum + sum_of (words_at k bytes at) ≡ total
  pub each : (i : ℕ) → i < k → 1 ≤ big_at 2 bytes (at + 2 * i)
  pub place : next ≡ at + 2 * k
  pub inside : at ≤ length bytes → next ≤ length bytes

pub lengths_got : (bytes : List ℕ) (total sum k at v : ℕ) (c : Cursor) → lengths_from bytes total sum k at ≡ Ok (v, c) → LengthsGot bytes total sum k at c.at
unfolding lengths_from words_at sum_of
lengths_got bytes total sum zero at v c q =
    let never : ◌≡◌ {A = Field} (Err LengthOut) (Ok (v, c)) → ⊥ = λ e. (let z : ◌≡◌ {A = ℕ} 0 1 = cc in omega arith) in
    let a = past_match_lem _ never sum total _ q in
    let both : ◌≡◌ {A = ℕ × Cursor} (sum, record { at = at }) (v, c) = cc a.1 in
    let p : at ≡ c.at = ap (λ (x : ℕ × Cursor). x.1.at) both in
    record { adds = omega (arith, a.0); each = λ i h. absurd (omega arith); place = omega arith; inside = λ h. omega arith }
lengths_got bytes total sum (suc k) at v c q =
    let never : (n : Refusal) → ◌≡◌ {A = Field} (Err n) (Ok (v, c)) → ⊥ = λ n e. (let z : ◌≡◌ {A = ℕ} 0 1 = cc in omega arith) in
    let f = past_field Err never 2 bytes at _ q in
    let a = past_refusal _ (never LengthOut) (big_at 2 bytes at) 1 _ f.rest in
    let r = lengths_got bytes total (sum + big_at 2 bytes at) k (at + 2) v c a.1 in
    record { adds = omega (arith, r.adds); each = λ i h. by i h r.each a.0; place = omega (arith, r.place); inside = λ h. r.inside f.fits }
  where
    by : (i : ℕ) → i < suc k → ((j : ℕ) → j < k → 1 ≤ big_at 2 bytes (at + 2 + 2 * j)) → 1 ≤ big_at 2 bytes at → 1 ≤ big_at 2 bytes (at + 2 * i)
    by zero h more here = let e : at + 2 * zero ≡ at = omega arith in rw e here
    by (suc j) h more here = let e : at + 2 * suc j ≡ at + 2 + 2 * j = omega arith in rw e (more j (omega arith))

-- ---- as they stand in the frame

pub words_none_zero : (bytes : List ℕ) (k at : ℕ) → ((i : ℕ) → i < k → 1 ≤ big_at 2 bytes (at + 2 * i)) → NoneZero (words_at k bytes at)
unfolding words_at NoneZero
words_none_zero bytes zero at h = tt
words_none_zero bytes (suc k) at h =
    let e : at + 2 * 0 ≡ at = omega arith in
    (rw e at (h 0 (omega arith)), words_none_zero bytes k (at + 2) (λ i l. let f : at + 2 + 2 * i ≡ at + 2 * suc i = omega arith in rw f (h (suc i) (omega arith))))

pub last_word : (bytes : List ℕ) (k at : ℕ) → last_length (words_at (suc k) bytes at) ≡ big_at 2 bytes (at + 2 * k)
unfolding words_at last_length
last_word bytes zero at = let e : at + 2 * 0 ≡ at = omega arith in rw e refl
last_word bytes (suc k) at = let e : at + 2 * suc k ≡ at + 2 + 2 * k = omega arith in rw e (last_word bytes k (at + 2))

-- where the code reads it
pub last_length_lem : (bytes : List ℕ) (s : Splices) → 2 ≤ s.count → last_length (lengths_in bytes s) ≡ big_at 2 bytes (s.lengths_at + 2 * (s.count - 1))
last_length_lem bytes s h = let e : suc (s.count - 1) ≡ s.count = omega arith in rw e at (last_word bytes (s.count - 1) s.lengths_at)

-- a length that is not 0 stands in the frame
pub length_inside : (bytes : List ℕ) (at : ℕ) → 0 < big_at 2 bytes at → at < length bytes
length_inside bytes at h =
    by_test (ltb at (length bytes)) (ltb-true at (length bytes))
    (λ e. absurd (omega (arith, h, length_past bytes at (ltb-false at (length bytes) e))))

last_below : (n : ℕ) (ns : List ℕ) → last_length (n ∷ ns) ≤ sum_of (n ∷ ns)
unfolding last_length sum_of
last_below n [] = omega arith
last_below n (m ∷ ns) = omega (arith, last_below m ns)

-- the first and the last of several are no more than all of them
pub ends_below : (bytes : List ℕ) (k at : ℕ) → 2 ≤ k → big_at 2 bytes at + last_length (words_at k bytes at) ≤ sum_of (words_at k bytes at)
unfolding words_at last_length sum_of
ends_below bytes zero at h = absurd (omega arith)
ends_below bytes (suc zero) at h = absurd (omega arith)
ends_below bytes (suc (suc k)) at h = omega (arith, last_below (big_at 2 bytes (at + 2)) (words_at k bytes (at + 2 + 2)))
