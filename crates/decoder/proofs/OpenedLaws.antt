-- The laws of two files whose front is read: their setup is that of the reference, the unit and the symbols that were read.
-- Assumes nothing.
use Prim.Native.Nat.{ℕ, zero, suc, ◌+◌, ◌<◌}
use native.Mathlib.Omega.{arith}
use mathlib.Core.Path.{◌≡◌, refl, sym, ap, ◌∙◌}
use mathlib.Core.List.{List, [], ◌∷◌, ◌++◌}
use lib.Dec.{ltb}
use lib.ListN.{length, get_or, get_or-eq_default}
use borrow.Author.Tests.{ltb-true, ltb-false}
use Rattle.frame.proofs.HexLaws.{by_test}
use Rattle.unit.specs.Pairs.{subsequences}
use Rattle.unit.specs.declared.Unit.{Unit}
use Rattle.listing.specs.Lines.{lines_of}
use Rattle.listing.specs.Record.{Setup}
use Rattle.listing.specs.Files.{Read, good, wrong, on_ref, on_lines, on_unit, on_pair, pairs}
use Rattle.listing.specs.Listing.{Front, unpaired, ready}
use Rattle.decoder.specs.Files.{read_reference, read_unit, read_pair, empty_table, table_of, reads_into}
use Rattle.decoder.specs.Decoder.{setup_by, front_of, Opened, setup_in}
use Rattle.decoder.proofs.FilesLaws.{pair_row}
use Rattle.decoder.proofs.TableLaws.{Few, length_empty, reads_rows}

-- the readers' pair lines
abbrev pairs_of : ℕ → ℕ → List ℕ → List (List ℕ) → (List (List ℕ) → List (List ℕ) → Setup) → Front
pairs_of = pairs read_reference read_unit read_pair setup_by

-- ---- what is read makes the front

pairs_ready : (k i : ℕ) (first : List ℕ) (ps rows lines : List (List ℕ)) (done : List (List ℕ) → List (List ℕ) → Setup) → length ps ≡ k → length rows ≡ k
    → ((j : ℕ) → j < k → read_pair (i + j) (get_or ps j []) ≡ good (get_or rows j [])) → pairs_of k i first (ps ++ lines) done ≡ ready (done rows lines)
unfolding pairs
pairs_ready zero i first [] [] lines done a b read = refl
pairs_ready zero i first [] (row ∷ rows) lines done a b read = absurd (omega arith)
pairs_ready zero i first (p ∷ ps) rows lines done a b read = absurd (omega arith)
pairs_ready (suc k) i first [] rows lines done a b read = absurd (omega arith)
pairs_ready (suc k) i first (p ∷ ps) [] lines done a b read = absurd (omega arith)
pairs_ready (suc k) i first (p ∷ ps) (row ∷ rows) lines done a b read =
    let start : i + 0 ≡ i = omega arith in
    let next : (j : ℕ) → suc i + j ≡ i + suc j = λ j. omega arith in
    rw (rw start at (read 0 (omega arith)))
    (pairs_ready k (suc i) first ps rows lines (λ rs rest. done (row ∷ rs) rest) (omega arith) (omega arith) (λ j h. rw (next j) (read (suc j) (omega arith))))

-- so many that are read, and then one that is refused or missing
pub pairs_stop : (ps : List (List ℕ)) (k m i : ℕ) (first : List ℕ) (ls : List (List ℕ)) (done : List (List ℕ) → List (List ℕ) → Setup) (n : ℕ) → k ≡ length ps + suc m
    → ((j : ℕ) → j < length ps → (row : List ℕ) × (read_pair (i + j) (get_or ps j []) ≡ good row))
    → ((more : List (List ℕ) → List (List ℕ) → Setup) → pairs_of (suc m) (i + length ps) first ls more ≡ unpaired first n)
    → pairs_of k i first (ps ++ ls) done ≡ unpaired first n
unfolding pairs
pairs_stop [] k m i first ls done n e read stop =
    let q : k ≡ suc m = omega arith in
    let start : i + 0 ≡ i = omega arith in
    rw q (rw start at (stop done))
pairs_stop (p ∷ ps) zero m i first ls done n e read stop = absurd (omega arith)
pairs_stop (p ∷ ps) (suc k) m i first ls done n e read stop =
    let start : i + 0 ≡ i = omega arith in
    let next : (j : ℕ) → suc i + j ≡ i + suc j = λ j. omega arith in
    let r = read 0 (omega arith) in
    rw (rw start at r.1)
    (pairs_stop ps k m (suc i) first ls (λ rs rest. done (r.0 ∷ rs) rest) n (omega arith) (λ j h. rw (next j) (read (suc j) (omega arith))) (λ more. rw (next (length ps)) (stop more)))

pub opened_front : {refFile unitFile : List ℕ} (o : Opened refFile unitFile) → front_of refFile unitFile ≡ ready (setup_in o)
unfolding front_of
opened_front o =
    rw (o.reference_read, o.file, o.unit_read)
    (pairs_ready subsequences 0 o.first o.pairs o.rows o.lines (setup_by o.reference o.unit o.first) o.pair_lines o.row_lists
    (λ j h. let start : 0 + j ≡ j = omega arith in rw start (o.pair_read j h)))

-- ---- and every front that is ready is made so

record PairsRead (k i : ℕ) (ls : List (List ℕ)) (done : List (List ℕ) → List (List ℕ) → Setup) (E : Setup) : Type 0 where
  ps : List (List ℕ)
  rows : List (List ℕ)
  lines : List (List ℕ)
  file : ls ≡ ps ++ lines
  pair_lines : length ps ≡ k
  row_lists : length rows ≡ k
  read : (j : ℕ) → j < k → read_pair (i + j) (get_or ps j []) ≡ good (get_or rows j [])
  setup : E ≡ done rows lines

pairs_read : (k i : ℕ) (first : List ℕ) (ls : List (List ℕ)) (done : List (List ℕ) → List (List ℕ) → Setup) (E : Setup) → pairs_of k i first ls done ≡ ready E → PairsRead k i ls done E
unfolding pairs
pairs_read zero i first ls done E e =
    record { ps = []; rows = []; lines = ls; file = refl; pair_lines = refl; row_lists = refl; read = λ j h. absurd (omega arith); setup = cc }
pairs_read (suc k) i first [] done E e = absurd (let z : ◌≡◌ {A = ℕ} 0 1 = cc in omega arith)
pairs_read (suc k) i first (l ∷ ls) done E e =
    by (read_pair i l) refl e (λ row. pairs_read k (suc i) first ls (λ rs rest. done (row ∷ rs) rest) E)
  where
    by : (t : Read (List ℕ)) → read_pair i l ≡ t → on_pair read_reference read_unit read_pair setup_by first t (λ row. pairs_of k (suc i) first ls (λ rs rest. done (row ∷ rs) rest)) ≡ ready E
        → ((row : List ℕ) → pairs_of k (suc i) first ls (λ rs rest. done (row ∷ rs) rest) ≡ ready E → PairsRead k (suc i) ls (λ rs rest. done (row ∷ rs) rest) E)
        → PairsRead (suc k) i (l ∷ ls) done E
    by (wrong n) r q go = absurd (let z : ◌≡◌ {A = ℕ} 0 1 = cc in omega arith)
    by (good row) r q go =
        let p = go row q in
        record {
          ps = l ∷ p.ps;
          rows = row ∷ p.rows;
          lines = p.lines;
          file = ap (λ (x : List (List ℕ)). l ∷ x) p.file;
          pair_lines = ap suc p.pair_lines;
          row_lists = ap suc p.row_lists;
          read = each p;
          setup = p.setup;
        }
      where
        each : (p : PairsRead k (suc i) ls (λ rs rest. done (row ∷ rs) rest) E) (j : ℕ) → j < suc k → read_pair (i + j) (get_or (l ∷ p.ps) j []) ≡ good (get_or (row ∷ p.rows) j [])
        each p zero h = let start : i + 0 ≡ i = omega arith in rw start r
        each p (suc j) h = let next : i + suc j ≡ suc i + j = omega arith in rw next (p.read j (omega arith))

-- the files that such a front was read from
pub front_opened : (refFile unitFile : List ℕ) (E : Setup) → front_of refFile unitFile ≡ ready E → (o : Opened refFile unitFile) × (E ≡ setup_in o)
unfolding front_of
front_opened refFile unitFile E e = reference (read_reference (lines_of refFile)) refl e
  where
    unit : (R : List ℕ) → read_reference (lines_of refFile) ≡ good R → (first : List ℕ) (ls : List (List ℕ)) → lines_of unitFile ≡ first ∷ ls → (t : Read Unit) → read_unit first ≡ t
        → on_unit read_reference read_unit read_pair setup_by R first ls t ≡ ready E → (o : Opened refFile unitFile) × (E ≡ setup_in o)
    unit R r first ls l (wrong n) h q = absurd (let z : ◌≡◌ {A = ℕ} 0 1 = cc in omega arith)
    unit R r first ls l (good u) h q =
        let p = pairs_read subsequences 0 first ls (setup_by R u first) E q in (
          record {
            reference = R;
            unit = u;
            first = first;
            pairs = p.ps;
            lines = p.lines;
            rows = p.rows;
            reference_read = r;
            file = l ∙ ap (λ (x : List (List ℕ)). first ∷ x) p.file;
            unit_read = h;
            pair_lines = p.pair_lines;
            row_lists = p.row_lists;
            pair_read = λ i less. let start : 0 + i ≡ i = omega arith in rw start at (p.read i less);
          },
          p.setup,
        )

    lines : (R : List ℕ) → read_reference (lines_of refFile) ≡ good R → (ls : List (List ℕ)) → lines_of unitFile ≡ ls
        → on_lines read_reference read_unit read_pair setup_by R ls ≡ ready E → (o : Opened refFile unitFile) × (E ≡ setup_in o)
    lines R r [] l q = absurd (let z : ◌≡◌ {A = ℕ} 0 1 = cc in omega arith)
    lines R r (first ∷ ls) l q = unit R r first ls l (read_unit first) refl q

    reference : (t : Read (List ℕ)) → read_reference (lines_of refFile) ≡ t → on_ref read_reference read_unit read_pair setup_by unitFile t ≡ ready E → (o : Opened refFile unitFile) × (E ≡ setup_in o)
    reference (wrong n) r q = absurd (let z : ◌≡◌ {A = ℕ} 0 1 = cc in omega arith)
    reference (good R) r q = lines R r (lines_of unitFile) refl q

-- ---- the symbols that were read

module _ {refFile unitFile : List ℕ} (o : Opened refFile unitFile) where
  pub opened_few : Few o.rows
  opened_few i =
      by_test (ltb i subsequences)
      (λ t. (pair_row i _ _ (o.pair_read i (ltb-true i subsequences t))).most)
      (λ t. rw (get_or-eq_default o.rows [] {n = i} (omega (arith, ltb-false i subsequences t, o.row_lists))) (omega arith))

  -- one read a pair line, into a table without a symbol, leaves this table
  pub opened_table : reads_into empty_table 0 o.pairs ≡ table_of o.rows
  unfolding table_of
  opened_table = reads_rows o.pairs o.rows empty_table 0 length_empty (o.pair_lines ∙ sym o.row_lists) (λ j h. let start : 0 + j ≡ j = omega arith in rw start (o.pair_read j (rw o.row_lists at h)))
