-- Passing over lines by their 0A (document 01, Resuming), in pieces of any size.
-- Assumes nothing.
use Rattle.std.specs.Prelude.{ℕ, zero, suc, ◌+◌, ◌-◌, cond, List, [], ◌∷◌, eqb}
use Rattle.std.proofs.Math.Option.{Option, none, some}
use Rattle.frame.specs.Line.{line_end}
use Rattle.listing.specs.Lines.{lines_of}
use Rattle.resuming.specs.declared.pass.Passed.{Passed}

-- what stands behind the j-th 0A, or none where there are fewer
unfoldable pub passed : ℕ → List ℕ → Option (List ℕ)
passed zero f = some f
passed (suc j) [] = none
passed (suc j) (x ∷ xs) = cond (eqb x line_end) (passed j xs) (passed (suc j) xs)

-- its lines, where there are so many
abbrev pub lines_in : Option (List ℕ) → Option (List (List ℕ))
lines_in none = none
lines_in (some f) = some (lines_of f)

-- i bytes more are passed over
abbrev pub shifted : ℕ → Passed → Passed
shifted i p = record { at = i + p.at; left = p.left }

-- of a piece, where `want` times 0A is still wanted: how many of its bytes are passed over, and how many 0A are wanted then
unfoldable pub pass_over : ℕ → List ℕ → Passed
pass_over want [] = record { at = 0; left = want }
pass_over want (x ∷ xs) =
    cond (eqb want 0) (record { at = 0; left = want }) (shifted 1 (pass_over (cond (eqb x line_end) (want - 1) want) xs))
