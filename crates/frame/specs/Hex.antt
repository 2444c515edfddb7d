-- Hexadecimal text, lower case, two digits a byte; numbers high byte first (document 01, Lines).
-- Assumes nothing.
use Rattle.std.specs.Prelude.{Bool, true, false, cond, List, [], ◌∷◌, ℕ, zero, suc, ◌+◌, ◌-◌, ◌*◌, ◌/◌, ◌%◌, ◌^◌, ◌<◌, ltb, leb}
use Prim.Native.Char.{code}

-- 0 to 9 and a to f
unfoldable pub is_digit : ℕ → Bool
is_digit d = cond (ltb d (code "0")) false (cond (leb d (code "9")) true (cond (ltb d (code "a")) false (leb d (code "f"))))

-- the digit that stands for a number below 16
unfoldable pub glyph : ℕ → ℕ
glyph n = cond (ltb n 10) (code "0" + n) (code "a" + (n - 10))

-- a digit's value: `nib_glyph` and `glyph_nib` say that it undoes `glyph`. Of a byte that is no digit it is some number below 16
unfoldable pub nib : ℕ → ℕ
nib d = (d % 16 + d / 64 * 9) % 16

-- two digits a byte
unfoldable pub hex_of : List ℕ → List ℕ
hex_of [] = []
hex_of (b ∷ bs) = glyph (b / 16) ∷ glyph (b % 16) ∷ hex_of bs

-- the bytes that pairs of digits stand for; a digit left over, as a line's 0A, stands for none
unfoldable pub unhex : List ℕ → List ℕ
unhex [] = []
unhex (a ∷ []) = []
unhex (a ∷ b ∷ ds) = (nib a * 16 + nib b) ∷ unhex ds

-- digits and nothing else
unfoldable pub all_digits : List ℕ → Bool
all_digits [] = true
all_digits (d ∷ ds) = cond (is_digit d) (all_digits ds) false

-- a list of bytes
unfoldable pub Bytes : List ℕ → Type 0
Bytes [] = Unit
Bytes (b ∷ bs) = (b < 256) × Bytes bs

-- the low k bytes of a number, high byte first
unfoldable pub be : ℕ → ℕ → List ℕ
be zero n = []
be (suc k) n = (n / 256 ^ k % 256) ∷ be k n
