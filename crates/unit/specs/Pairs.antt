-- The symbols of a unit's pair descriptor (document 01, Lines: 02 pair), lent as a flat table.
-- Assumes nothing.
use Rattle.std.specs.Prelude.{ℕ, ◌+◌, ◌*◌}

-- subsequences of pair symbols, numbered from 0
abbrev pub subsequences : ℕ
subsequences = 8

-- the most symbols of a subsequence
abbrev pub most_symbols : ℕ
most_symbols = 1024

-- where symbol k of subsequence s stands in the flat table
abbrev pub symbol_place : ℕ → ℕ → ℕ
symbol_place s k = s * most_symbols + k

-- the places of the flat table
abbrev pub table_length : ℕ
table_length = subsequences * most_symbols
