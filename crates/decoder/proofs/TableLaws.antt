-- The laws of the flat table and the symbol counts: each symbol stands in its row, and one read a pair line makes the table.
-- Assumes nothing.
use Prim.Native.Nat.{ℕ, zero, suc, ◌+◌, ◌<◌, ◌≤◌}
use native.Mathlib.Omega.{arith}
use mathlib.Core.Path.{◌≡◌, refl, sym, ap, ◌∙◌}
use mathlib.Core.List.{List, [], ◌∷◌, ◌++◌}
use lib.ListN.{length, get_or, take, length-replicate, length-append}
use Rattle.std.specs.Prelude.{Ok, Err}
use Rattle.refusal.specs.Answers.{OrRefused}
use Rattle.frame.specs.Hex.{unhex}
use Rattle.unit.specs.Unit.{most_reference}
use Rattle.unit.specs.Pairs.{subsequences, most_symbols, symbol_place, table_length}
use Rattle.frame.specs.Steps.{stored_at}
use Rattle.front.specs.PairLine.{table_by, table_after}
use Rattle.front.specs.ReferenceLine.{bases_of, reference_line, reference_after}
use Rattle.front.proofs.ReferenceLaws.{reference_accepted, reference_joined, length_reference}
use Rattle.front.proofs.PairLaws.{length_table}
use Rattle.frame.proofs.StoreLaws.{length_stored, stored_inside, stored_before}
use Rattle.listing.specs.Files.{good}
use Rattle.decoder.specs.Files.{after_bases, joined_bases, bases_into, read_pair, counts_in, rows_into, empty_table, table_of, reads_into}
use Rattle.decoder.proofs.FilesLaws.{pair_row}

-- no subsequence has more symbols than the limit
abbrev pub Few : List (List ℕ) → Type 0
Few rows = (i : ℕ) → length (get_or rows i []) ≤ most_symbols

-- ---- the counts

pub length_counts : (rows : List (List ℕ)) → length (counts_in rows) ≡ length rows
unfolding counts_in
length_counts [] = refl
length_counts (row ∷ rows) = ap suc (length_counts rows)

pub count_at_lem : (rows : List (List ℕ)) (i : ℕ) → get_or (counts_in rows) i 0 ≡ length (get_or rows i [])
unfolding counts_in
count_at_lem [] i = refl
count_at_lem (row ∷ rows) zero = refl
count_at_lem (row ∷ rows) (suc i) = count_at_lem rows i

-- ---- the table

-- the places before a row are not touched by it, nor by those behind it
rows_before : (rows : List (List ℕ)) (t : List ℕ) (i : ℕ) → Few rows → symbol_place (i + length rows) 0 ≤ length t → (p : ℕ) → p < symbol_place i 0 → get_or (rows_into t i rows) p 0 ≡ get_or t p 0
unfolding rows_into
rows_before [] t i few room p h = refl
rows_before (row ∷ rows) t i few room p h =
    let fits : symbol_place i 0 + length row ≤ length t = omega (arith, few 0) in
    let long : length (stored_at t (symbol_place i 0) row) ≡ length t = length_stored t (symbol_place i 0) row fits in
    rows_before rows (stored_at t (symbol_place i 0) row) (suc i) (λ j. few (suc j)) (omega (arith, long)) p (omega arith)
    ∙ stored_before t (symbol_place i 0) row p (omega arith) h

-- symbol k of a row stands at its place
rows_at : (rows : List (List ℕ)) (t : List ℕ) (i : ℕ) → Few rows → symbol_place (i + length rows) 0 ≤ length t → (j k : ℕ) → k < length (get_or rows j [])
    → get_or (rows_into t i rows) (symbol_place (i + j) k) 0 ≡ get_or (get_or rows j []) k 0
unfolding rows_into
rows_at [] t i few room j k h = absurd (omega arith)
rows_at (row ∷ rows) t i few room zero k h =
    let fits : symbol_place i 0 + length row ≤ length t = omega (arith, few 0) in
    let long : length (stored_at t (symbol_place i 0) row) ≡ length t = length_stored t (symbol_place i 0) row fits in
    let place : symbol_place (i + 0) k ≡ symbol_place i 0 + k = omega arith in
    rw place
    (rows_before rows (stored_at t (symbol_place i 0) row) (suc i) (λ j. few (suc j)) (omega (arith, long)) (symbol_place i 0 + k) (omega (arith, few 0))
    ∙ stored_inside t (symbol_place i 0) row k (omega arith) h)
rows_at (row ∷ rows) t i few room (suc j) k h =
    let fits : symbol_place i 0 + length row ≤ length t = omega (arith, few 0) in
    let long : length (stored_at t (symbol_place i 0) row) ≡ length t = length_stored t (symbol_place i 0) row fits in
    let next : i + suc j ≡ suc i + j = omega arith in
    rw next (rows_at rows (stored_at t (symbol_place i 0) row) (suc i) (λ m. few (suc m)) (omega (arith, long)) j k h)

pub length_empty : length empty_table ≡ table_length
length_empty = length-replicate {A = ℕ} table_length 0

module _ (rows : List (List ℕ)) (few : Few rows) (all-rows : length rows ≡ subsequences) where
  -- each symbol of a row stands in the row's places
  pub symbol_stands : (s k : ℕ) → k < length (get_or rows s []) → get_or (table_of rows) (symbol_place s k) 0 ≡ get_or (get_or rows s []) k 0
  unfolding table_of
  symbol_stands s k h =
      let start : 0 + s ≡ s = omega arith in
      rw start at (rows_at rows empty_table 0 few (omega (arith, length_empty)) s k h)

-- ---- the reads that make it

pair_stored : (i : ℕ) (line row t : List ℕ) → length t ≡ table_length → read_pair i line ≡ good row → table_after line i t ≡ stored_at t (symbol_place i 0) row
unfolding table_after table_by
pair_stored i line row t long e =
    let r = pair_row i line row e in
    rw (long, ← r.read) (ap (stored_at t (symbol_place i 0)) (sym r.symbols))

-- one read a pair line leaves the symbols in their rows
pub reads_rows : (pairs rows : List (List ℕ)) (t : List ℕ) (i : ℕ) → length t ≡ table_length → length pairs ≡ length rows
    → ((j : ℕ) → j < length rows → read_pair (i + j) (get_or pairs j []) ≡ good (get_or rows j [])) → reads_into t i pairs ≡ rows_into t i rows
unfolding reads_into rows_into
reads_rows [] [] t i long e read = refl
reads_rows [] (row ∷ rows) t i long e read = absurd (omega arith)
reads_rows (line ∷ pairs) [] t i long e read = absurd (omega arith)
reads_rows (line ∷ pairs) (row ∷ rows) t i long e read =
    let start : i + 0 ≡ i = omega arith in
    let stored = pair_stored i line row t long (rw start at (read 0 (omega arith))) in
    let next : (j : ℕ) → suc i + j ≡ i + suc j = λ j. omega arith in
    rw (← stored) (reads_rows pairs rows (table_after line i t) (suc i) (length_table line i t ∙ long) (omega arith) (λ j h. rw (next j) (read (suc j) (omega arith))))

-- ---- the reference, likewise

-- one read a reference line leaves the bases at the front of what is lent
pub reads_bases : (ls : List (List ℕ)) (t bases all : List ℕ) → length t ≡ most_reference → take (length bases) t ≡ bases → joined_bases bases ls ≡ good all
    → take (length all) (bases_into t (length bases) ls) ≡ all
unfolding joined_bases bases_into
reads_bases [] t bases all long front e = let z : bases ≡ all = cc in rw (← z) front
reads_bases (line ∷ ls) t bases all long front e =
    by (reference_line line (length bases) most_reference) refl e (reads_bases ls (reference_after line (length bases) t) (bases ++ bases_of (unhex line)) all)
  where
    by : (r : OrRefused ℕ) → r ≡ reference_line line (length bases) most_reference → after_bases r (joined_bases (bases ++ bases_of (unhex line)) ls) ≡ good all
        → (length (reference_after line (length bases) t) ≡ most_reference
        → take (length (bases ++ bases_of (unhex line))) (reference_after line (length bases) t) ≡ bases ++ bases_of (unhex line)
        → joined_bases (bases ++ bases_of (unhex line)) ls ≡ good all
        → take (length all) (bases_into (reference_after line (length bases) t) (length (bases ++ bases_of (unhex line))) ls) ≡ all)
        → take (length all) (bases_into (reference_after line (length bases) t) (length bases + length (bases_of (unhex line))) ls) ≡ all
    by (Ok n) h q go =
        let j = reference_joined line (length bases) n t (rw long h) in
        let a : n ≡ length bases + length (bases_of (unhex line)) = (reference_accepted line (length bases) most_reference n h).added.count in
        rw (← length-append bases (bases_of (unhex line))) (go (length_reference line (length bases) t ∙ long) (rw (length-append, ← a, j, front)) q)
    by (Err n) h q go = absurd (let z : ◌≡◌ {A = ℕ} 0 1 = cc in omega arith)
