-- The two files, read (document 01, Lines): reference.hex, and of unit.hex the unit line and the pair lines.
-- Assumes nothing.
use Rattle.std.specs.Prelude.{ℕ, suc, ◌+◌, List, [], ◌∷◌, ◌++◌, length, replicate, Ok, Err}
use Rattle.refusal.specs.Numbers.{number_of}
use Rattle.refusal.specs.Answers.{OrRefused}
use Rattle.frame.specs.Hex.{unhex}
use Rattle.unit.specs.Unit.{most_reference}
use Rattle.unit.specs.Pairs.{symbol_place, table_length}
use Rattle.frame.specs.Steps.{stored_at}
use Rattle.front.specs.UnitLine.{unit_line}
use Rattle.front.specs.PairLine.{pair_head, pair_line, symbol_list, table_after}
use Rattle.front.specs.ReferenceLine.{bases_of, reference_line, reference_after}
use Rattle.unit.specs.declared.Unit.{Unit}
use Rattle.listing.specs.Files.{Read, good, wrong}

-- ---- 07 reference

-- the lines behind an accepted one, or the number of its refusal
abbrev pub after_bases : OrRefused ℕ → Read (List ℕ) → Read (List ℕ)
after_bases (Ok n) more = more
after_bases (Err refusal) more = wrong (number_of refusal)

-- "Lines are joined": the symbol indexes of these lines behind those that are there; at most 32,768 in all
unfoldable pub joined_bases : List ℕ → List (List ℕ) → Read (List ℕ)
joined_bases bases [] = good bases
joined_bases bases (line ∷ ls) = after_bases (reference_line line (length bases) most_reference) (joined_bases (bases ++ bases_of (unhex line)) ls)

-- the lines of reference.hex, "none giving an empty reference"
abbrev pub read_reference : List (List ℕ) → Read (List ℕ)
read_reference ls = joined_bases [] ls

-- ---- 01 unit

-- the unit that was read, or the number of its line's refusal
abbrev pub unit_by : OrRefused Unit → Read Unit
unit_by (Ok u) = good u
unit_by (Err refusal) = wrong (number_of refusal)

-- the unit's values
unfoldable pub read_unit : List ℕ → Read Unit
read_unit line = unit_by (unit_line line)

-- ---- 02 pair

-- the symbols behind the count of a line that is accepted, or the number of its refusal
abbrev pub symbols_by : List ℕ → OrRefused ℕ → Read (List ℕ)
symbols_by line (Ok n) = good (symbol_list n (unhex line) pair_head)
symbols_by line (Err refusal) = wrong (number_of refusal)

-- the symbols of subsequence i
unfoldable pub read_pair : ℕ → List ℕ → Read (List ℕ)
read_pair i line = symbols_by line (pair_line line i table_length)

-- the symbol count of each subsequence
unfoldable pub counts_in : List (List ℕ) → List ℕ
counts_in [] = []
counts_in (row ∷ rows) = length row ∷ counts_in rows

-- a table with the symbols of the subsequences from number i on, each row at its first place
unfoldable pub rows_into : List ℕ → ℕ → List (List ℕ) → List ℕ
rows_into table i [] = table
rows_into table i (row ∷ rows) = rows_into (stored_at table (symbol_place i 0) row) (suc i) rows

-- a table without a symbol
abbrev pub empty_table : List ℕ
empty_table = replicate table_length 0

-- the flat table: a row of 1,024 places a subsequence, its symbols and zeros behind them
unfoldable pub table_of : List (List ℕ) → List ℕ
table_of rows = rows_into empty_table 0 rows

-- ---- the same by the reads of the code, one a line, into what is lent

-- a reference of so many bases, after these lines
unfoldable pub bases_into : List ℕ → ℕ → List (List ℕ) → List ℕ
bases_into t used [] = t
bases_into t used (line ∷ ls) = bases_into (reference_after line used t) (used + length (bases_of (unhex line))) ls

-- a table, after these pair lines, the first of them of subsequence i
unfoldable pub reads_into : List ℕ → ℕ → List (List ℕ) → List ℕ
reads_into t i [] = t
reads_into t i (line ∷ ls) = reads_into (table_after line i t) (suc i) ls
