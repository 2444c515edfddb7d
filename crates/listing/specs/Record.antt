-- What a listing asks of the record call (document 01, The listing and Order): the call is the field `step` of a setup, and `Lawful` is what it must keep to.
-- Assumes nothing.
use Rattle.std.specs.Prelude.{ℕ, ◌+◌, ◌*◌, ◌<◌, ◌≤◌, ◌≡◌, List, ◌++◌, length, get_or, Ok}
use Rattle.refusal.specs.Numbers.{number_of, Early}
use Rattle.refusal.specs.declared.Refusal.{Refusal}
use Rattle.frame.specs.Hex.{Bytes, unhex}
use Rattle.frame.specs.Line.{line_of}
use Rattle.unit.specs.Unit.{most_records}
use Rattle.unit.specs.Pairs.{subsequences, most_symbols}
use Rattle.state.specs.declared.State.{State}
use Rattle.unit.specs.Kinds.{kind_unit}
use Rattle.state.specs.Listed.{most_listed, least_listed, listed_head, Step, refused, accepted}
use Rattle.state.specs.State.{Shaped}

-- a unit whose unit line, pair lines and reference are all accepted
pub record Setup : Type 0 where
  -- the unit line with its 0A
  pub first : List ℕ
  -- the record count, and the symbol count of each subsequence
  pub count : ℕ
  pub counts : List ℕ
  -- the record call at this unit, these pair symbols and this reference, whatever room is lent: from a state and a record line
  pub step : State → List ℕ → Step
  -- the lines of the unit file behind the pair lines
  pub lines : List (List ℕ)

-- what an accepted call says: the line is well formed; its 04 line carries this record's number and the indexes after it, which the unit allows; the next state is the next record's
pub record Accepted (E : Setup) (s : State) (line frame : List ℕ) (next : State) : Type 0 where
  pub size : ℕ
  pub well_formed : line_of line ≡ Ok size
  pub tail : List ℕ
  pub head : frame ≡ listed_head s.number next ++ tail
  pub bytes : Bytes frame
  pub least : least_listed ≤ length frame
  pub most : 2 * length frame ≤ most_listed
  pub in_count : s.number < E.count
  pub number : next.number ≡ s.number + 1
  pub indexes : Shaped next
  pub in_counts : (i : ℕ) → get_or next.index i 0 ≤ get_or E.counts i 0

-- a unit line, as far as a listing needs to know it: well formed, and of kind 01
pub record FirstLine (line : List ℕ) : Type 0 where
  pub size : ℕ
  pub well_formed : line_of line ≡ Ok size
  pub kind : get_or (unhex line) 0 0 ≡ kind_unit

-- what the theorems ask of a setup: of the record call only at states that have an index for each subsequence; it may answer any refusal of the table but 17
pub record Lawful (E : Setup) : Type 0 where
  pub unit : FirstLine E.first
  pub count_fits : E.count ≤ most_records
  pub counts_all : length E.counts ≡ subsequences
  pub counts_fit : (i : ℕ) → get_or E.counts i 0 ≤ most_symbols
  pub refusal : (s : State) (line : List ℕ) (n : Refusal) → Shaped s → E.step s line ≡ refused n → Early (number_of n)
  pub acceptance : (s : State) (line frame : List ℕ) (next : State) → Shaped s → E.step s line ≡ accepted frame next
      → Accepted E s line frame next
