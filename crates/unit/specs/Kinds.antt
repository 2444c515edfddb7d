-- The kinds of a line, its first byte (document 01, Lines and The listing).
-- Assumes nothing.
use Rattle.std.specs.Prelude.{ℕ}

-- the unit line, the first of unit.hex
abbrev pub kind_unit : ℕ
kind_unit = 1

-- the pair symbols of one subsequence
abbrev pub kind_pair : ℕ
kind_pair = 2

-- a record, before it is decoded
abbrev pub kind_record : ℕ
kind_record = 3

-- a record of the listing
abbrev pub kind_listed : ℕ
kind_listed = 4

-- the listing's last line, at a refusal
abbrev pub kind_refused : ℕ
kind_refused = 5

-- the listing's last line, where nothing is refused
abbrev pub kind_done : ℕ
kind_done = 6

-- reference bases
abbrev pub kind_reference : ℕ
kind_reference = 7
