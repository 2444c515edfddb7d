-- The symbols that a listing's records take (document 01, Pairing), one record after the other.
-- Assumes nothing.
use Rattle.std.specs.Prelude.{ℕ, zero, suc, ◌<◌, ◌≡◌, List, [], ◌∷◌, ◌++◌, length, get_or}
use Rattle.frame.specs.Line.{line_of_bytes}
use Rattle.unit.specs.Pairs.{subsequences}
use Rattle.state.specs.State.{index_count, fresh_state, Shaped, taken}
use Rattle.state.specs.Listed.{Step, refused, accepted, listed_head}
use Rattle.unit.specs.declared.Unit.{Unit}
use Rattle.state.specs.declared.State.{State}
use Rattle.taking.specs.Reading.{symbols_of}
use Rattle.plan.specs.Plan.{record_takes}
use Rattle.record.specs.Record.{step_of}
use Rattle.listing.specs.Listing.{line06}
use Rattle.listing.specs.Resuming.{last_from}
use Rattle.decoder.specs.Files.{counts_in, table_of}
use Rattle.decoder.specs.Decoder.{first_listed, rest_listed, Opened}

-- the symbols of an accepted record, and those of the records behind it
abbrev pub on_taken : List ℕ → Step → (State → List ℕ) → List ℕ
on_taken here (refused n) more = []
on_taken here (accepted frame next) more = here ++ more next

module _ (u : Unit) (reference symbols counts : List ℕ) where
  -- the symbols of subsequence s that so many records take, from a state on
  unfoldable pub symbols_taken_from : ℕ → ℕ → State → List (List ℕ) → List ℕ
  symbols_taken_from s zero state ls = []
  symbols_taken_from s (suc k) state [] = []
  symbols_taken_from s (suc k) state (l ∷ ls) =
      on_taken (symbols_of s (record_takes u reference symbols state l)) (step_of u reference symbols counts state l) (λ next. symbols_taken_from s k next ls)

-- the symbols of subsequence s that the first k records of two files take
abbrev pub symbols_taken : {refFile unitFile : List ℕ} → Opened refFile unitFile → ℕ → ℕ → List ℕ
symbols_taken o s k = symbols_taken_from o.unit o.reference (table_of o.rows) (counts_in o.rows) s k fresh_state o.lines

-- the 04 line of record i is what the record call answers for the i-th line behind the pair lines, from the state behind the records before it;
-- it carries its number and "the eight pair indexes after this record": how many symbols of each subsequence the records up to this one take
pub record RecordLine {refFile unitFile : List ℕ} (o : Opened refFile unitFile) (i : ℕ) (line : List ℕ) : Type 0 where
  pub before : State
  pub next : State
  pub frame : List ℕ
  pub is : line ≡ line_of_bytes frame
  pub call : step_of o.unit o.reference (table_of o.rows) (counts_in o.rows) before (get_or o.lines i []) ≡ accepted frame next
  pub number : before.number ≡ i
  pub indexes : Shaped before
  pub index_before : (s : ℕ) → s < index_count → taken before s ≡ length (symbols_taken o s i)
  pub tail : List ℕ
  pub head : frame ≡ listed_head i next ++ tail
  pub index : (s : ℕ) → s < index_count → taken next s ≡ length (symbols_taken o s (suc i))

-- every record is listed, the 06 line carries the record count, and every pair symbol is taken, once and in order
pub record AllTaken {refFile unitFile : List ℕ} (o : Opened refFile unitFile) : Type 0 where
  pub records : length (rest_listed refFile unitFile) ≡ suc o.unit.records
  pub count : last_from (first_listed refFile unitFile) (rest_listed refFile unitFile) ≡ line06 o.unit.records
  pub symbols : (s : ℕ) → s < subsequences → symbols_taken o s o.unit.records ≡ get_or o.rows s []
