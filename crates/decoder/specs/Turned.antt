-- What a caller sees of a turn (document 01, The listing): one call a line of the unit file.
-- Assumes nothing.
use Rattle.std.specs.Prelude.{ℕ, cond, List, [], ◌++◌, eqb, ltb, length, drop, Ok, Err}
use Rattle.std.proofs.Math.Option.{Option, none, some}
use Rattle.refusal.specs.Numbers.{fine, no_room}
use Rattle.refusal.specs.Answers.{OrRefused}
use Rattle.state.specs.Listed.{most_listed}
use Rattle.unit.specs.declared.Unit.{Unit}
use Rattle.state.specs.declared.State.{State}
use Rattle.listing.specs.Turn.{Turn, go, stop, turn, run_by}
use Rattle.decoder.specs.Files.{counts_in, table_of}
use Rattle.decoder.specs.Decoder.{setup_of, Opened}
use Rattle.decoder.specs.declared.Turned.{Turned}
use Rattle.decoder.specs.declared.Added.{Added}
use Rattle.decoder.specs.declared.Added.TheVariants.{Go, Stop, NoRoom}

-- a line of the unit file is never empty, so an empty one stands for the end of the file
unfoldable pub lent_line : List ℕ → Option (List ℕ)
lent_line line = cond (eqb (length line) 0) none (some line)

-- the turn of a unit: it looks at neither the unit line nor the lines behind this one.
-- Where a record is wanted, the record call refuses a unit, counts or a state that no files have (3, 4, 14). Where none is, they are not looked at:
-- `rest` alone calls `turn`, with the unit and the counts of accepted lines and a state that is fresh, a turn's own or an accepted last line's, none of them past the record count; C has no such call
unfoldable pub turn_of : Unit → List ℕ → List ℕ → List ℕ → State → List ℕ → Turn
turn_of u reference symbols counts state line = turn (setup_of u reference symbols counts [] []) state (lent_line line)

-- how many bytes are printed, whether the listing goes on, and the state to go on from; where it stops, the state as it was given
abbrev pub turned : State → Turn → Turned
turned state (go bytes next) = record { added = Go (length bytes); state = next }
turned state (stop bytes) = record { added = Stop (length bytes); state = state }

-- the bytes at the front of what is lent; behind them nothing differs
abbrev pub printed_into : List ℕ → Turn → List ℕ
printed_into out (go bytes next) = bytes ++ drop (length bytes) out
printed_into out (stop bytes) = bytes ++ drop (length bytes) out

-- a last line that was written, or not
abbrev pub stopped_by : OrRefused ℕ → State → Turned
stopped_by (Ok n) state = record { added = Stop n; state = state }
stopped_by (Err refusal) state = record { added = NoRoom; state = state }

-- no 04 line needs more than 20,809 bytes with its 0A, and "the programs lend as much": where less is lent nothing is done
unfoldable pub turned_of : List ℕ → State → Turn → Turned
turned_of out state t = cond (ltb most_listed (length out)) (turned state t) (record { added = NoRoom; state = state })

-- and what is lent, likewise
unfoldable pub output_of : List ℕ → Turn → List ℕ
output_of out t = cond (ltb most_listed (length out)) (printed_into out t) out

-- document 01's number of an answer
abbrev pub added_number : Added → ℕ
added_number (Go n) = fine
added_number (Stop n) = fine
added_number NoRoom = no_room

-- what is lent to `turn` for a line of the unit file, or for its end
abbrev pub lent_for : Option (List ℕ) → List ℕ
lent_for none = []
lent_for (some line) = line

-- what so many calls print, for two files that are read
abbrev pub calls_for : {refFile unitFile : List ℕ} → Opened refFile unitFile → ℕ → State → List (List ℕ) → List ℕ
calls_for o k state ls = run_by (λ s line. turn_of o.unit o.reference (table_of o.rows) (counts_in o.rows) s (lent_for line)) k state ls
