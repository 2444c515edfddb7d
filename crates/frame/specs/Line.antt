-- A line: lower-case hexadecimal digits, two a byte, and one 0A (document 01, Lines and refusal 1).
-- Assumes nothing.
use Rattle.std.specs.Prelude.{cond, List, [], ◌∷◌, ◌++◌, ℕ, ◌-◌, ◌*◌, ◌/◌, ◌%◌, ltb, eqb, length, take, get_or, Ok, Err}
use Prim.Native.Char.{code}
use Rattle.refusal.specs.Answers.{OrRefused}
use Rattle.refusal.specs.declared.Refusal.TheVariants.{Malformed}
use Rattle.limits.specs.Limits.{most_frame}
use Rattle.frame.specs.Hex.{hex_of, all_digits}
use Rattle.frame.specs.Steps.{unless}

-- the most digits of an input line, those of the longest record: 20,190
abbrev pub line_digits : ℕ
line_digits = 2 * most_frame

-- the byte that ends a line
abbrev pub line_end : ℕ
line_end = code "\n"

-- the line that carries these bytes: their digits and its 0A
abbrev pub line_of_bytes : List ℕ → List ℕ
line_of_bytes bs = hex_of bs ++ line_end ∷ []

-- an even number of digits, at most `most` of them, and one 0A, which `length s` counts too: how many bytes they are. Other digits, an odd count or too long a line is refused by 1
unfoldable pub line_within : ℕ → List ℕ → OrRefused ℕ
line_within most s =
    cond (eqb (length s % 2) 0) (Err Malformed)
    (cond (ltb most (length s - 1)) (Err Malformed)
    (unless (eqb (get_or s (length s - 1) 0) line_end) (Err Malformed)
    (unless (all_digits (take (length s - 1) s)) (Err Malformed)
    (Ok ((length s - 1) / 2)))))

-- an input line
abbrev pub line_of : List ℕ → OrRefused ℕ
line_of s = line_within line_digits s
