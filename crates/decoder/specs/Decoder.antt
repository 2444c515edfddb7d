-- THE LISTING of two files (document 01, The listing), and what is printed for a found one (Resuming): the record call is the real one.
-- Assumes nothing.
use Rattle.std.specs.Prelude.{ℕ, ◌<◌, ◌≡◌, List, [], ◌∷◌, ◌++◌, length, get_or}
use Rattle.unit.specs.Pairs.{subsequences}
use Rattle.unit.specs.declared.Unit.{Unit}
use Rattle.record.specs.Record.{step_of}
use Rattle.listing.specs.Lines.{lines_of}
use Rattle.listing.specs.Record.{Setup}
use Rattle.listing.specs.Files.{good, front}
use Rattle.listing.specs.Listing.{Front, first_of, rest_of, listed, listing}
use Rattle.listing.specs.Resuming.{Edges, Supplied, supply, edges_in, resumed, resumed_again}
use Rattle.decoder.specs.Files.{read_reference, read_unit, read_pair, counts_in, table_of}

-- a unit with its reference, its pair symbols and their counts, its unit line and the lines behind the pair lines; a record is listed by the record call
abbrev pub setup_of : Unit → List ℕ → List ℕ → List ℕ → List ℕ → List (List ℕ) → Setup
setup_of u reference symbols counts first lines =
    record { first = first; count = u.records; counts = counts; step = step_of u reference symbols counts; lines = lines }

-- the same by the symbols of each subsequence
abbrev pub setup_by : List ℕ → Unit → List ℕ → List (List ℕ) → List (List ℕ) → Setup
setup_by reference u first rows lines = setup_of u reference (table_of rows) (counts_in rows) first lines

-- how far the front of reference.hex and unit.hex can be read
unfoldable pub front_of : List ℕ → List ℕ → Front
front_of refFile unitFile = front read_reference read_unit read_pair setup_by refFile unitFile

-- THE LISTING, as the bytes of a file
abbrev pub listing_of : List ℕ → List ℕ → List ℕ
listing_of refFile unitFile = listing (front_of refFile unitFile)

-- its first line
abbrev pub first_listed : List ℕ → List ℕ → List ℕ
first_listed refFile unitFile = first_of (front_of refFile unitFile)

-- the lines behind the first
abbrev pub rest_listed : List ℕ → List ℕ → List (List ℕ)
rest_listed refFile unitFile = rest_of (front_of refFile unitFile)

-- all of them
abbrev pub lines_listed : List ℕ → List ℕ → List (List ℕ)
lines_listed refFile unitFile = listed (front_of refFile unitFile)

-- two files whose reference lines, unit line and pair lines are all accepted
pub record Opened (refFile unitFile : List ℕ) : Type 0 where
  pub reference : List ℕ
  pub unit : Unit
  -- the unit line, the pair lines, and the lines behind them
  pub first : List ℕ
  pub pairs : List (List ℕ)
  pub lines : List (List ℕ)
  -- the symbols of each subsequence
  pub rows : List (List ℕ)
  pub reference_read : read_reference (lines_of refFile) ≡ good reference
  pub file : lines_of unitFile ≡ first ∷ (pairs ++ lines)
  pub unit_read : read_unit first ≡ good unit
  pub pair_lines : length pairs ≡ subsequences
  pub row_lists : length rows ≡ subsequences
  pub pair_read : (i : ℕ) → i < subsequences → read_pair i (get_or pairs i []) ≡ good (get_or rows i [])

-- their setup
abbrev pub setup_in : {refFile unitFile : List ℕ} → Opened refFile unitFile → Setup
setup_in o = setup_by o.reference o.unit o.first o.rows o.lines

-- ---- resuming

-- what is added, by the first and the last kept line of a found file; or the refusal
abbrev pub supplied_by : List ℕ → List ℕ → Edges → Supplied
supplied_by refFile unitFile e = supply (front_of refFile unitFile) e

-- what is added, by the found file itself
abbrev pub supplied_of : List ℕ → List ℕ → List ℕ → Supplied
supplied_of refFile unitFile found = supplied_by refFile unitFile (edges_in found)

-- what the resume program prints for a found file
abbrev pub resumed_of : List ℕ → List ℕ → List ℕ → List ℕ
resumed_of refFile unitFile found = resumed (front_of refFile unitFile) found

-- the listing, stopped and resumed as often as the list says
abbrev pub resumed_again_of : List ℕ → List ℕ → List (ℕ × ℕ) → List ℕ
resumed_again_of refFile unitFile stops = resumed_again (front_of refFile unitFile) stops
