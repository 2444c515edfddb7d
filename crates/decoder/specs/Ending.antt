-- Why the listing of two files ends where it does (document 01, The listing).
-- Assumes nothing.
use Rattle.std.specs.Prelude.{ℕ, suc, ◌<◌, ◌≡◌, List, [], length, get_or}
use Rattle.refusal.specs.declared.Refusal.{Refusal}
use Rattle.refusal.specs.Numbers.{number_of, missing}
use Rattle.unit.specs.Pairs.{subsequences}
use Rattle.state.specs.Listed.{refused}
use Rattle.state.specs.declared.State.{State}
use Rattle.state.specs.State.{index_count, taken}
use Rattle.record.specs.Record.{step_of}
use Rattle.listing.specs.Listing.{line05, line06}
use Rattle.decoder.specs.Files.{counts_in, table_of}
use Rattle.decoder.specs.Decoder.{rest_listed, Opened}
use Rattle.decoder.specs.Symbols.{symbols_taken, AllTaken}

-- the record call refuses record i in this way, from the state behind the records before it
pub record RefusedAt {refFile unitFile : List ℕ} (o : Opened refFile unitFile) (i : ℕ) (refusal : Refusal) : Type 0 where
  pub before : State
  pub wanted : i < o.unit.records
  pub there : i < length o.lines
  pub number : before.number ≡ i
  pub index_before : (s : ℕ) → s < index_count → taken before s ≡ length (symbols_taken o s i)
  pub call : step_of o.unit o.reference (table_of o.rows) (counts_in o.rows) before (get_or o.lines i []) ≡ refused refusal

-- why a listing is refused behind i records, and by which number
pub data Stopped {refFile unitFile : List ℕ} (o : Opened refFile unitFile) (i : ℕ) : ℕ → Type 0 where
  -- record i is refused
  refused_by : {refusal : Refusal} → RefusedAt o i refusal → Stopped o i (number_of refusal)
  -- record i is wanted, and the lines run out: 14
  lines_run_out : i < o.unit.records → length o.lines ≡ i → Stopped o i missing
  -- a line is left over behind the last record's: 14
  line_left : i ≡ o.unit.records → i < length o.lines → Stopped o i missing
  -- a pair symbol is left over behind the last record: 14
  symbol_left : i ≡ o.unit.records → (((s : ℕ) → s < subsequences → symbols_taken o s i ≡ get_or o.rows s []) → ⊥) → Stopped o i missing

-- the last line of a listing: 06, where every record is listed and every symbol is taken; or, behind i 04 lines, 05 with the number i and the refusal number
pub data Ending {refFile unitFile : List ℕ} (o : Opened refFile unitFile) (line : List ℕ) : Type 0 where
  done : line ≡ line06 o.unit.records → AllTaken o → Ending o line
  stopped : (i n : ℕ) → length (rest_listed refFile unitFile) ≡ suc i → line ≡ line05 i n → Stopped o i n → Ending o line
