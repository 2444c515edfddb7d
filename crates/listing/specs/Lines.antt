-- A file as a list of bytes: its lines, and what of a damaged file is kept (document 01, Lines and Resuming).
-- Assumes nothing.
use Rattle.std.specs.Prelude.{ℕ, ◌-◌, ◌≡◌, Bool, false, cond, List, [], ◌∷◌, ◌++◌, eqb, leb, length}
use Rattle.frame.specs.Line.{line_end}

-- a byte in front of the first of some lines
unfoldable pub push_byte : ℕ → List (List ℕ) → List (List ℕ)
push_byte x [] = (x ∷ []) ∷ []
push_byte x (l ∷ ls) = (x ∷ l) ∷ ls

-- Lines: the lines of a file, each with its 0A; the last one may lack it
unfoldable pub lines_of : List ℕ → List (List ℕ)
lines_of [] = []
lines_of (x ∷ xs) = cond (eqb x line_end) ((x ∷ []) ∷ lines_of xs) (push_byte x (lines_of xs))

-- lines, one after the other
unfoldable pub joined : List (List ℕ) → List ℕ
joined [] = []
joined (l ∷ ls) = l ++ joined ls

-- Lines: "ended by byte 0A"
unfoldable pub ends : List ℕ → Bool
ends [] = false
ends (x ∷ []) = eqb x line_end
ends (x ∷ y ∷ l) = ends (y ∷ l)

-- a byte in front of what is kept of the rest: it is kept where something behind it is, or where it is 0A itself
unfoldable pub kept_with : ℕ → List ℕ → List ℕ
kept_with x [] = cond (eqb x line_end) (x ∷ []) []
kept_with x (y ∷ ys) = x ∷ y ∷ ys

-- Resuming: "everything up to the last 0A that stands before the first zero byte (before the end, where there is none), or nothing"
unfoldable pub kept : List ℕ → List ℕ
kept [] = []
kept (x ∷ xs) = cond (eqb x 0) [] (kept_with x (kept xs))

-- of some lines, from the first on, those that end within n bytes
unfoldable pub lines_within : ℕ → List (List ℕ) → List (List ℕ)
lines_within n [] = []
lines_within n (l ∷ ls) = cond (leb (length l) n) (l ∷ lines_within (n - length l) ls) []

-- a whole line: its only 0A at its end, and no zero byte
pub data WholeLine : List ℕ → Type 0 where
  end : WholeLine (line_end ∷ [])
  more : {x : ℕ} {l : List ℕ} → eqb x 0 ≡ false → eqb x line_end ≡ false → WholeLine l → WholeLine (x ∷ l)
