-- The front of the two files (document 01, The listing): the reference, the unit line and the pair lines, by readers that are parameters.
-- Assumes nothing.
use Rattle.std.specs.Prelude.{ℕ, zero, suc, List, [], ◌∷◌}
use Rattle.refusal.specs.Numbers.{missing}
use Rattle.unit.specs.Pairs.{subsequences}
use Rattle.listing.specs.Lines.{lines_of}
use Rattle.listing.specs.Record.{Setup}
use Rattle.listing.specs.Listing.{Front, alone, unpaired, ready}

-- what a reader answers: a value, or a refusal number
pub data Read (A : Type 0) : Type 0 where
  good : A → Read A
  wrong : ℕ → Read A

module _ {Ref Head Pair : Type 0} (readRef : List (List ℕ) → Read Ref) (read_unit : List ℕ → Read Head) (read_pair : ℕ → List ℕ → Read Pair)
    (setup : Ref → Head → List ℕ → List Pair → List (List ℕ) → Setup) where
  -- a pair line that is read, or refused behind the unit line
  abbrev pub on_pair : List ℕ → Read Pair → (Pair → Front) → Front
  on_pair unit (good p) more = more p
  on_pair unit (wrong n) more = unpaired unit n

  -- so many pair lines, in order, from subsequence i on, and `done` of what they say and of the lines behind them; a line that is wanted and missing is refused by 14
  unfoldable pub pairs : ℕ → ℕ → List ℕ → List (List ℕ) → (List Pair → List (List ℕ) → Setup) → Front
  pairs zero i unit ls done = ready (done [] ls)
  pairs (suc k) i unit [] done = unpaired unit missing
  pairs (suc k) i unit (l ∷ ls) done = on_pair unit (read_pair i l) (λ p. pairs k (suc i) unit ls (λ ps rest. done (p ∷ ps) rest))

  -- the unit line, then the pair lines
  abbrev pub on_unit : Ref → List ℕ → List (List ℕ) → Read Head → Front
  on_unit R unit ls (good h) = pairs subsequences 0 unit ls (setup R h unit)
  on_unit R unit ls (wrong n) = alone n

  -- a unit file without a line
  abbrev pub on_lines : Ref → List (List ℕ) → Front
  on_lines R [] = alone missing
  on_lines R (unit ∷ ls) = on_unit R unit ls (read_unit unit)

  -- the reference, then the unit file
  abbrev pub on_ref : List ℕ → Read Ref → Front
  on_ref unitFile (good R) = on_lines R (lines_of unitFile)
  on_ref unitFile (wrong n) = alone n

  -- "The reference is read first"
  abbrev pub front : List ℕ → List ℕ → Front
  front refFile unitFile = on_ref unitFile (readRef (lines_of refFile))
