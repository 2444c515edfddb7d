-- For the code, not for the reader.
-- The digits of an alphabet's letters, for a writer of many: a line's text of Table 35's letters.
-- Assumes nothing.
use Rattle.std.specs.Prelude.{ℕ, zero, suc, ◌+◌, ◌*◌, ◌/◌, ◌%◌, cond, List, [], ◌∷◌, ltb}
use Rattle.frame.specs.Hex.{glyph, hex_of}
use Rattle.alphabet.specs.Table35.{letter_of}

-- S[index], S[index + 1] and so on, n of them
unfoldable pub letters_from : (alphabet index n : ℕ) → List ℕ
letters_from alphabet index zero = []
letters_from alphabet index (suc n) = letter_of alphabet index ∷ letters_from alphabet (index + 1) n

-- a table has the indexes 0 to 16; 16 is outside both alphabets
abbrev pub table_indexes : ℕ
table_indexes = 17

-- two digits a letter
abbrev pub table_digits : ℕ
table_digits = 2 * table_indexes

-- the digits of their letters
unfoldable pub digits_of : (alphabet : ℕ) → List ℕ
digits_of alphabet = hex_of (letters_from alphabet 0 table_indexes)

-- where a letter's digits stand in the table: every index outside both alphabets shares the last place
unfoldable pub place_of : (index : ℕ) → ℕ
place_of index = cond (ltb index 16) index 16

-- both digits of a byte as one number, the first in its low byte
unfoldable pub both_digits : (byte : ℕ) → ℕ
both_digits byte = glyph (byte % 16) * 256 + glyph (byte / 16)
