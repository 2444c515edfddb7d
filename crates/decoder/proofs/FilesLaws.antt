-- The laws of the two files' readers: what they refuse has a number of the table but 17, and what they accept is as a listing needs it.
-- Assumes nothing.
use Prim.Native.Nat.{ℕ, ◌≤◌}
use native.Mathlib.Omega.{arith}
use mathlib.Core.Path.{◌≡◌, refl, sym}
use mathlib.Core.List.{List, [], ◌∷◌, ◌++◌}
use lib.ListN.{length}
use Rattle.std.specs.Prelude.{Ok, Err}
use Rattle.refusal.specs.Answers.{OrRefused}
use Rattle.refusal.specs.Numbers.{number_of, Early}
use Rattle.frame.specs.Hex.{unhex}
use Rattle.frame.specs.Field.{big_at}
use Rattle.frame.proofs.HexLaws.{bytes_unhex}
use Rattle.unit.specs.Unit.{most_records, most_reference}
use Rattle.unit.specs.Pairs.{most_symbols, table_length}
use Rattle.front.specs.UnitLine.{unit_line}
use Rattle.front.specs.PairLine.{pair_line, pair_head, symbol_list}
use Rattle.front.specs.ReferenceLine.{bases_of, reference_line}
use Rattle.unit.specs.declared.Unit.{Unit}
use Rattle.unit.proofs.ValidLaws.{valid_is}
use Rattle.front.proofs.UnitLaws.{unit_accepted, unit_valid}
use Rattle.front.proofs.PairLaws.{pair_accepted, length_symbols}
use Rattle.front.proofs.RefusalLaws.{UnitLow, unit_low, PairLow, pair_low, ReferenceLow, reference_low}
use Rattle.listing.specs.Record.{FirstLine}
use Rattle.listing.specs.Files.{good, wrong}
use Rattle.listing.proofs.ResumeLaws.{first_line}
use Rattle.decoder.specs.Files.{after_bases, joined_bases, read_reference, unit_by, read_unit, symbols_by, read_pair}

-- ---- the readers

wrong_good : {A : Type 0} {P : Type 0} {n : ℕ} {x : A} → good x ≡ wrong n → P
wrong_good e = absurd (let z : ◌≡◌ {A = ℕ} 0 1 = cc in omega arith)

-- what they refuse

pub unit_refused : (line : List ℕ) (n : ℕ) → read_unit line ≡ wrong n → Early n
unfolding read_unit
unit_refused line n e = by (unit_line line) (unit_low line) e
  where
    by : (r : OrRefused Unit) → UnitLow r → unit_by r ≡ wrong n → Early n
    by (Ok u) h q = wrong_good q
    by (Err m) h q = let z : number_of m ≡ n = cc in rw (← z) h

pub pair_refused : (i : ℕ) (line : List ℕ) (n : ℕ) → read_pair i line ≡ wrong n → Early n
unfolding read_pair
pair_refused i line n e = by (pair_line line i table_length) (pair_low line i table_length) e
  where
    by : (r : OrRefused ℕ) → PairLow r → symbols_by line r ≡ wrong n → Early n
    by (Ok m) h q = wrong_good q
    by (Err m) h q = let z : number_of m ≡ n = cc in rw (← z) h

bases_refused : (bases : List ℕ) (ls : List (List ℕ)) (n : ℕ) → joined_bases bases ls ≡ wrong n → Early n
unfolding joined_bases
bases_refused bases [] n e = wrong_good e
bases_refused bases (line ∷ ls) n e =
    by (reference_line line (length bases) most_reference) (reference_low line (length bases)) e (bases_refused (bases ++ bases_of (unhex line)) ls n)
  where
    by : (r : OrRefused ℕ) → ReferenceLow r → after_bases r (joined_bases (bases ++ bases_of (unhex line)) ls) ≡ wrong n
        → (joined_bases (bases ++ bases_of (unhex line)) ls ≡ wrong n → Early n) → Early n
    by (Ok m) h q go = go q
    by (Err m) h q go = let z : number_of m ≡ n = cc in rw (← z) h

pub reference_refused : (ls : List (List ℕ)) (n : ℕ) → read_reference ls ≡ wrong n → Early n
reference_refused ls n = bases_refused [] ls n

-- what they accept

pub unit_read : (line : List ℕ) (u : Unit) → read_unit line ≡ good u → Ok u ≡ unit_line line
unfolding read_unit
unit_read line u e = by (unit_line line) e
  where
    by : (r : OrRefused Unit) → unit_by r ≡ good u → Ok u ≡ r
    by (Ok v) q = let z : v ≡ u = cc in rw z refl
    by (Err m) q = wrong_good (sym q)

-- a unit line is of kind 01 and well formed, and lists no more records than the limit
pub unit_first : (line : List ℕ) (u : Unit) → read_unit line ≡ good u → FirstLine line
unfolding big_at
unit_first line u e =
    let w = unit_accepted line u (unit_read line u e) in
    rw w.whole (first_line (unhex line) (bytes_unhex line) (omega (arith, w.long)) (omega (arith, w.kind)))

pub unit_records : (line : List ℕ) (u : Unit) → read_unit line ≡ good u → u.records ≤ most_records
unit_records line u e = (valid_is u (unit_valid line u (unit_read line u e))).records

-- a pair line's symbols are those behind its count, no more than the limit
pub record RowOfLine (i : ℕ) (line row : List ℕ) : Type 0 where
  pub count : ℕ
  pub read : Ok count ≡ pair_line line i table_length
  pub symbols : row ≡ symbol_list count (unhex line) pair_head
  pub most : length row ≤ most_symbols

pub pair_row : (i : ℕ) (line row : List ℕ) → read_pair i line ≡ good row → RowOfLine i line row
unfolding read_pair
pair_row i line row e = by (pair_line line i table_length) refl e
  where
    by : (r : OrRefused ℕ) → r ≡ pair_line line i table_length → symbols_by line r ≡ good row → RowOfLine i line row
    by (Ok n) h q =
        let z : row ≡ symbol_list n (unhex line) pair_head = cc in
        record { count = n; read = h; symbols = z; most = rw (z, length_symbols) (pair_accepted line i table_length n h).pair.most }
    by (Err m) h q = wrong_good (sym q)
