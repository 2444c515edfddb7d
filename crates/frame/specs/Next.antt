-- The first line of what is left to read (document 01, refusals 1 and 14).
-- Assumes nothing.
use Rattle.std.specs.Prelude.{cond, List, [], ◌∷◌, ℕ, ◌+◌, eqb, leb, length, take}
use Rattle.refusal.specs.Numbers.{fine, malformed, missing}
use Rattle.frame.specs.Line.{line_digits, line_end}
use Rattle.frame.specs.declared.line.Next.{Next}
use Rattle.frame.specs.declared.line.Next.TheVariants.{Whole, TooLong, NoEnd, Nothing}

-- document 01's number of an answer: too long a line, or a last line without 0A, is 1; a line that is missing is 14
abbrev pub next_number : Next → ℕ
next_number (Whole n) = fine
next_number TooLong = malformed
next_number NoEnd = malformed
next_number Nothing = missing

-- the line that the first 0A ends, where k bytes stand before this list; `without` where there is no 0A
unfoldable pub ended_by : ℕ → List ℕ → Next → Next
ended_by k [] without = without
ended_by k (x ∷ xs) without = cond (eqb x line_end) (Whole (k + 1)) (ended_by (k + 1) xs without)

-- nothing behind the place of the longest line's 0A counts
unfoldable pub next_line : List ℕ → Next
next_line s =
    cond (eqb (length s) 0) Nothing
    (ended_by 0 (take (line_digits + 1) s) (cond (leb (length s) line_digits) NoEnd TooLong))
