-- The laws of a pair line: its symbols one by one, and the table after it.
-- Assumes nothing.
use mathlib.Core.Path.{◌≡◌, refl, sym, ap, ◌∙◌}
use mathlib.Core.List.{List, [], ◌∷◌}
use Prim.Native.Nat.{ℕ, zero, suc, ◌+◌, ◌*◌, ◌-◌, ◌/◌, ◌^◌, ◌<◌, ◌≤◌}
use native.Mathlib.Omega.{arith}
use borrow.Author.Tests.{lt-ltb, le-ltb, eq-eqb, ne_eqb}
use lib.ListN.{length, get_or}
use Rattle.std.specs.Prelude.{Ok, Err}
use Rattle.refusal.specs.Answers.{OrRefused}
use Rattle.refusal.specs.declared.Refusal.{Refusal}
use Rattle.refusal.specs.declared.Refusal.TheVariants.{CountOut}
use Rattle.frame.specs.Hex.{unhex}
use Rattle.frame.specs.Line.{line_of}
use Rattle.frame.specs.Field.{big_at}
use Rattle.frame.proofs.HexLaws.{byte_lt, length_unhex}
use Rattle.frame.proofs.FieldLaws.{big_at_lt}
use Rattle.frame.proofs.StepLaws.{past_line, past_field, past_refusal, past_limit, past_match_lem}
use Rattle.frame.proofs.StoreLaws.{length_stored}
use Rattle.unit.specs.Kinds.{kind_pair}
use Rattle.frame.specs.Steps.{stored_at}
use Rattle.unit.specs.Pairs.{most_symbols, subsequences, table_length, symbol_place}
use Rattle.front.specs.PairLine.{symbol_bytes, pair_head, pair_misframed, pair_symbols, pair_count, pair_line, symbol_list, table_by, table_after}

-- ---- the symbols of a frame

pub length_symbols : (n : ℕ) (s : List ℕ) (at : ℕ) → length (symbol_list n s at) ≡ n
unfolding symbol_list
length_symbols zero s at = refl
length_symbols (suc n) s at = ap suc (length_symbols n s (at + symbol_bytes))

-- room for so many symbols is room for them
pub symbols_fit : (n : ℕ) (s : List ℕ) (at p : ℕ) {m : ℕ} → p + n ≤ m → p + length (symbol_list n s at) ≤ m
symbols_fit n s at p h = rw (length_symbols n s at) h

-- the next one of those that are left
pub symbols_next : (n : ℕ) (s : List ℕ) (i : ℕ) → i < n
    → symbol_list (n - i) s (pair_head + symbol_bytes * i) ≡ big_at symbol_bytes s (pair_head + symbol_bytes * i) ∷ symbol_list (n - (i + 1)) s (pair_head + symbol_bytes * (i + 1))
unfolding symbol_list
symbols_next n s i h =
    let e : n - i ≡ suc (n - (i + 1)) = omega arith in
    let f : pair_head + symbol_bytes * (i + 1) ≡ pair_head + symbol_bytes * i + symbol_bytes = omega arith in
    rw (e, f)

pub symbols_none : (n : ℕ) (s : List ℕ) (i : ℕ) → n ≤ i → symbol_list (n - i) s (pair_head + symbol_bytes * i) ≡ []
unfolding symbol_list
symbols_none n s i h = let e : n - i ≡ zero = omega arith in rw e

-- ---- the symbols that a count asks for

-- symbol k is the number at its place
pub symbol_at_lem : (n : ℕ) (s : List ℕ) (at k : ℕ) → k < n → get_or (symbol_list n s at) k 0 ≡ big_at symbol_bytes s (at + symbol_bytes * k)
unfolding symbol_list
symbol_at_lem zero s at k h = absurd (omega arith)
symbol_at_lem (suc n) s at zero h = let e : at + symbol_bytes * 0 ≡ at = omega arith in rw e
symbol_at_lem (suc n) s at (suc k) h =
    let e : at + symbol_bytes * suc k ≡ at + symbol_bytes + symbol_bytes * k = omega arith in
    rw e (symbol_at_lem n s (at + symbol_bytes) k (omega arith))

-- and fits its four bytes
pub symbol_fits : (n : ℕ) (l : List ℕ) (at k : ℕ) → k < n → get_or (symbol_list n (unhex l) at) k 0 < 256 ^ symbol_bytes
symbol_fits n l at k h = rw (symbol_at_lem n (unhex l) at k h) (big_at_lt symbol_bytes (unhex l) (at + symbol_bytes * k) (byte_lt l))

module _ (l : List ℕ) (count at : ℕ) where
  pub count_above : most_symbols < count → Err CountOut ≡ pair_symbols (unhex l) count at
  unfolding pair_symbols
  count_above h = simp (lt-ltb most_symbols count h)

  -- too few symbols, or bytes left over
  pub symbols_other : count ≤ most_symbols → (at + symbol_bytes * count ≡ length l / 2 → ⊥) → pair_misframed ≡ pair_symbols (unhex l) count at
  unfolding pair_symbols
  symbols_other h k = simp (le-ltb most_symbols count h, length_unhex, ne_eqb _ _ k)

  pub symbols_just : count ≤ most_symbols → at + symbol_bytes * count ≡ length l / 2 → Ok count ≡ pair_symbols (unhex l) count at
  unfolding pair_symbols
  symbols_just h e = simp (le-ltb most_symbols count h, length_unhex, eq-eqb _ _ e)

-- ---- the whole line

never : {m : ℕ} (n : Refusal) → ◌≡◌ {A = OrRefused ℕ} (Err n) (Ok m) → ⊥
never n e = let z : ◌≡◌ {A = ℕ} 0 1 = cc in omega arith

-- what an accepted line is: its frame is the head and the symbols, and nothing more
pub record IsPair (line : List ℕ) (number n : ℕ) : Type 0 where
  pub most : n ≤ most_symbols
  pub long : length (unhex line) ≡ pair_head + symbol_bytes * n
  pub kind : big_at 1 (unhex line) 0 ≡ kind_pair
  pub sub : big_at 1 (unhex line) 1 ≡ number
  pub count : big_at 2 (unhex line) 2 ≡ n

-- the symbols behind the count
symbols_counted : (s : List ℕ) (count at n : ℕ) → pair_symbols s count at ≡ Ok n → (n ≤ most_symbols) × (length s ≡ at + symbol_bytes * n) × (count ≡ n)
unfolding pair_symbols
symbols_counted s count at n e =
    let a = past_refusal _ (never _) most_symbols count _ e in
    let b = past_match_lem _ (never _) (at + symbol_bytes * count) (length s) _ a.1 in
    let q : count ≡ n = cc b.1 in
    (rw (← q) a.0, rw (← q) (sym b.0), q)

pub pair_counted : (line : List ℕ) (number n : ℕ) → Ok n ≡ pair_count line number → IsPair line number n
unfolding pair_count
pair_counted line number n e =
    let s = unhex line in
    let l = past_line {X = OrRefused ℕ} Err never (line_of line) _ (sym e) in
    let a = past_field {X = OrRefused ℕ} Err never 1 s 0 _ l.rest in
    let k = past_match_lem _ (never _) _ kind_pair _ a.rest in
    let b = past_field {X = OrRefused ℕ} Err never 1 s 1 _ k.1 in
    let m = past_match_lem _ (never _) _ number _ b.rest in
    let d = past_field {X = OrRefused ℕ} Err never 2 s 2 _ m.1 in
    let w = symbols_counted s _ _ n d.rest in
    record { most = w.0; long = w.1; kind = k.0; sub = m.0; count = w.2 }

-- for a table and a number that there are
pub pair_shaped : (line : List ℕ) (number places : ℕ) → places ≡ table_length → number < subsequences → pair_count line number ≡ pair_line line number places
unfolding pair_line
pair_shaped line number places e h = simp (eq-eqb _ _ e, lt-ltb _ _ h)

-- ---- the answer and the table after it, as one

module _ (line : List ℕ) (number : ℕ) (n : Refusal) (t : List ℕ) where
  pub table_kept : {r : OrRefused ℕ} → r ≡ Err n → r ≡ pair_line line number (length t) → (r ≡ pair_line line number (length t)) × (t ≡ table_after line number t)
  unfolding table_after table_by
  table_kept q e = (e, rw (← e, q))

module _ (line : List ℕ) (number n : ℕ) (t : List ℕ) where
  pub table_stored : {u : List ℕ} {p : ℕ} → Ok n ≡ pair_line line number (length t) → u ≡ stored_at t p (symbol_list n (unhex line) pair_head) → p ≡ symbol_place number 0
      → (Ok n ≡ pair_line line number (length t)) × (u ≡ table_after line number t)
  unfolding table_after table_by
  table_stored e f g = (e, rw (← e, ← g) f)

-- ---- what other rooms may say of an answer

-- a table and a number that there are, and an accepted line
pub record IsRow (line : List ℕ) (number places n : ℕ) : Type 0 where
  pub table : places ≡ table_length
  pub row : number < subsequences
  pub pair : IsPair line number n

pub pair_accepted : (line : List ℕ) (number places n : ℕ) → Ok n ≡ pair_line line number places → IsRow line number places n
unfolding pair_line
pair_accepted line number places n e =
    let a = past_match_lem _ (never _) places table_length _ (sym e) in
    let b = past_limit _ (never _) number subsequences _ a.1 in
    record { table = a.0; row = b.0; pair = pair_counted line number n (sym b.1) }

module _ (line : List ℕ) (number n : ℕ) (t : List ℕ) (e : Ok n ≡ pair_line line number (length t)) where
  -- the row's places are in the table
  pub row_fits : symbol_place number 0 + length (symbol_list n (unhex line) pair_head) ≤ length t
  row_fits =
      let w = pair_accepted line number (length t) n e in
      symbols_fit n (unhex line) pair_head (symbol_place number 0) (omega (arith, w.table, w.row, w.pair.most))

  table_is : table_after line number t ≡ stored_at t (symbol_place number 0) (symbol_list n (unhex line) pair_head)
  unfolding table_after table_by
  table_is = rw (← e)

-- the table keeps its length, whatever the line says
pub length_table : (line : List ℕ) (number : ℕ) (t : List ℕ) → length (table_after line number t) ≡ length t
length_table line number t = by (pair_line line number (length t)) refl
  where
    by : (r : OrRefused ℕ) → r ≡ pair_line line number (length t) → length (table_after line number t) ≡ length t
    by (Ok n) e = ap length (table_is line number n t e) ∙ length_stored t _ _ (row_fits line number n t e)
    by (Err n) e = ap length (sym (table_kept line number n t refl e).1)
