-- A whole line at the front of what is lent: its digits and 0A where there is room, and else nothing differs.
-- Assumes nothing.
use Rattle.std.specs.Prelude.{cond, List, ◌∷◌, ◌++◌, ℕ, suc, ◌+◌, ◌*◌, ltb, length, drop, Ok, Err}
use Rattle.refusal.specs.Answers.{OrRefused}
use Rattle.refusal.specs.declared.Refusal.TheVariants.{NoRoom}
use Rattle.frame.specs.Hex.{hex_of}
use Rattle.frame.specs.Line.{line_end}

-- the line of the bytes bs has so many bytes with its 0A, or there is no room for it in s, which is refusal 17
unfoldable pub wrote_of : List ℕ → List ℕ → OrRefused ℕ
wrote_of s bs = cond (ltb (2 * length bs) (length s)) (Ok (2 * length bs + 1)) (Err NoRoom)

-- s with that line at its front, where there is room; else s
unfoldable pub line_into : List ℕ → List ℕ → List ℕ
line_into s bs = cond (ltb (2 * length bs) (length s)) (hex_of bs ++ line_end ∷ drop (suc (2 * length bs)) s) s
