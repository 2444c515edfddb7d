-- Bytes laid as digits into a lent line.
-- Assumes nothing.
use Rattle.std.specs.Prelude.{◌≡◌, List, [], ◌∷◌, ℕ, ◌+◌, ◌*◌, ◌/◌, ◌%◌, length, set}
use Rattle.frame.specs.Hex.{glyph}

-- s, with the digits of the bytes bs stored from place `at` on; what would stand past the end is left out
unfoldable pub lay : List ℕ → ℕ → List ℕ → List ℕ
lay s at [] = s
lay s at (b ∷ bs) = lay (set (set s at (glyph (b / 16))) (at + 1) (glyph (b % 16))) (at + 2) bs

-- what a writer promises: the digits of bs stand from `at` on, nothing else differs, and it answers the place behind them
pub record Laid (before after : List ℕ) (at answer : ℕ) (bs : List ℕ) : Type 0 where
  pub to : answer ≡ at + 2 * length bs
  pub holds : after ≡ lay before at bs
