-- The calls that read the lines in front of the records (document 01, Lines).
-- Assumes nothing.
use Rattle.std.specs.Prelude.{ℕ, cond, List, [], ◌∷◌, eqb, length, set, Ok, Err}
use Rattle.refusal.specs.Answers.{OrRefused}
use Rattle.refusal.specs.declared.Refusal.TheVariants.{UnitOut, CountOut}
use Rattle.unit.specs.Pairs.{subsequences}
use Rattle.unit.specs.declared.Unit.{Unit}
use Rattle.front.specs.UnitLine.{unit_line}
use Rattle.front.specs.PairLine.{pair_line, table_after}
use Rattle.front.specs.ReferenceLine.{reference_line, reference_after}
use Rattle.lampbuckle.specs.Answer.{Outcome, answers, refuses}
use Rattle.lampbuckle.specs.Numbers.{unit_length, unit_numbers}

-- ---- the unit line

-- the line's bytes, and the unit's numbers
abbrev pub unit_answered : OrRefused Unit → List ℕ → List ℕ → Outcome
unit_answered (Ok u) line lent = answers (length line) (unit_numbers u ∷ [])
unit_answered (Err refusal) line lent = refuses refusal (lent ∷ [])

-- a place for another number of values is refused by 3, before the line is looked at
unfoldable pub unit_call : List ℕ → List ℕ → Outcome
unit_call line lent =
    cond (eqb (length lent) unit_length) (unit_answered (unit_line line) line lent) (refuses UnitOut (lent ∷ []))

-- ---- a pair line

-- the symbol count; the symbols in their row of the table, and the count in its place among the counts
abbrev pub pair_answered : OrRefused ℕ → List ℕ → ℕ → List ℕ → List ℕ → Outcome
pair_answered (Ok n) line number table counts = answers n (table_after line number table ∷ set counts number n ∷ [])
pair_answered (Err refusal) line number table counts = refuses refusal (table ∷ counts ∷ [])

-- counts of another shape are refused by 4, before the line is looked at
unfoldable pub pair_call : List ℕ → ℕ → List ℕ → List ℕ → Outcome
pair_call line number table counts =
    cond (eqb (length counts) subsequences)
    (pair_answered (pair_line line number (length table)) line number table counts)
    (refuses CountOut (table ∷ counts ∷ []))

-- ---- a reference line

-- how many bases are there now; the line's behind those that were used
abbrev pub reference_answered : OrRefused ℕ → List ℕ → List ℕ → ℕ → Outcome
reference_answered (Ok n) line lent used = answers n (reference_after line used lent ∷ [])
reference_answered (Err refusal) line lent used = refuses refusal (lent ∷ [])

-- the lent reference has room for as many bases as are lent; of its first `used` ones nothing differs
unfoldable pub reference_call : List ℕ → List ℕ → ℕ → Outcome
reference_call line lent used = reference_answered (reference_line line used (length lent)) line lent used
