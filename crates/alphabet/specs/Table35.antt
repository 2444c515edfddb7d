-- Table 35: conversions from numerical indexes to ASCII characters corresponding to alphabet symbols.
-- Assumes nothing.
use Rattle.std.specs.Prelude.{ℕ, cond, List, [], ◌∷◌, eqb, length, get_or}
use Prim.Native.Char.{code}

-- S₀[0] to S₀[4]
abbrev pub S₀ : List ℕ
S₀ = code "A" ∷ code "C" ∷ code "G" ∷ code "T" ∷ code "N" ∷ []

-- S₁[0] to S₁[15]
abbrev pub S₁ : List ℕ
S₁ =
    code "A" ∷ code "C" ∷ code "G" ∷ code "T" ∷ code "R" ∷ code "Y" ∷ code "S" ∷ code "W"
    ∷ code "K" ∷ code "M" ∷ code "B" ∷ code "D" ∷ code "H" ∷ code "V" ∷ code "N" ∷ code "-" ∷ []

-- the letter N
abbrev pub letter_n : ℕ
letter_n = code "N"

-- S of alphabet_ID; 2 to 255 are reserved (Table 34) and refused by 3
abbrev pub letters_of : ℕ → List ℕ
letters_of alphabet = cond (eqb alphabet 0) S₀ S₁

-- Size(S), Table 34: a symbol is inside the alphabet where its index is below this
unfoldable pub size_of : ℕ → ℕ
size_of alphabet = length (letters_of alphabet)

-- S[index]; 0, which is no letter, outside the alphabet
unfoldable pub letter_of : (alphabet index : ℕ) → ℕ
letter_of alphabet index = get_or (letters_of alphabet) index 0

-- where N stands
unfoldable pub code_of_n : ℕ → ℕ
code_of_n alphabet = cond (eqb alphabet 0) 4 14
