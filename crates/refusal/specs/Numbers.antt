-- Document 01's table of refusal numbers, row by row.
-- Assumes nothing.
use Rattle.std.specs.Prelude.{◌≡◌, ℕ, ◌<◌, ◌≤◌}
use Rattle.refusal.specs.declared.Refusal.{Refusal}
use Rattle.refusal.specs.declared.Refusal.TheVariants.{Malformed, Misframed, UnitOut, CountOut, UsedUp, CodeOut, ValueOut, LengthOut, ClipsOut, SymbolOut, FieldOut, OffsetOut, PositionOut, Missing, OtherFirst, OtherLast, NoRoom}

-- nothing is refused
abbrev pub fine : ℕ
fine = 0

-- other digits, odd count, too long a line, or a last line without 0A
abbrev pub malformed : ℕ
malformed = 1

-- wrong kind or subsequence number, a frame that ends before a field is complete, bytes left over, reference counts exceeded
abbrev pub misframed : ℕ
misframed = 2

-- a unit field outside its values
abbrev pub unit_out : ℕ
unit_out = 3

-- symbol count above 1,024
abbrev pub count_out : ℕ
count_out = 4

-- a pair symbol is wanted and its subsequence is used up
abbrev pub used_up : ℕ
used_up = 5

-- pair code 7 or more
abbrev pub code_out : ℕ
code_out = 6

-- a value taken from subsequence 1, 4 or 5 above 65,535
abbrev pub value_out : ℕ
value_out = 7

-- read length 0 or above 1,000
abbrev pub length_out : ℕ
length_out = 8

-- soft clips reach the read length
abbrev pub clips_out : ℕ
clips_out = 9

-- a symbol outside the alphabet, or such a reference byte under a match
abbrev pub symbol_out : ℕ
symbol_out = 10

-- rcomp, edit type, edit count or deletion symbol outside its values
abbrev pub field_out : ℕ
field_out = 11

-- offset out of order or outside the read; a deletion with no match or substitution before it, or none behind it (document 02, Wish 2)
abbrev pub offset_out : ℕ
offset_out = 12

-- a position outside the unit, or pos not 0 in U
abbrev pub position_out : ℕ
position_out = 13

-- lines missing, any byte after the last record line, pair symbols left over after the last record, or a state as said under Order
abbrev pub missing : ℕ
missing = 14

-- first kept line is not the listing's first line
abbrev pub other_first : ℕ
other_first = 15

-- last kept line cannot be continued
abbrev pub other_last : ℕ
other_last = 16

-- lent output shorter than the line with its 0A
abbrev pub no_room : ℕ
no_room = 17

-- the table's last number; a new one is named above, and raises this one
abbrev pub last_refusal : ℕ
last_refusal = no_room

-- the table: each refusal by its number
abbrev pub number_of : Refusal → ℕ
number_of Malformed = malformed
number_of Misframed = misframed
number_of UnitOut = unit_out
number_of CountOut = count_out
number_of UsedUp = used_up
number_of CodeOut = code_out
number_of ValueOut = value_out
number_of LengthOut = length_out
number_of ClipsOut = clips_out
number_of SymbolOut = symbol_out
number_of FieldOut = field_out
number_of OffsetOut = offset_out
number_of PositionOut = position_out
number_of Missing = missing
number_of OtherFirst = other_first
number_of OtherLast = other_last
number_of NoRoom = no_room

-- ---- what is said of an answer's number

-- a number of the table
abbrev pub InTable : ℕ → Type 0
InTable n = (fine < n) × (n ≤ last_refusal)

-- any but 17
abbrev pub Early : ℕ → Type 0
Early n = InTable n × (n ≡ no_room → ⊥)

-- nothing is refused, or it is by such a number
abbrev pub FineOrEarly : ℕ → Type 0
FineOrEarly n = (n ≤ last_refusal) × (n ≡ no_room → ⊥)
