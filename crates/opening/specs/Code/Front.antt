-- For the code, not for the reader.
-- The reference, line by line.
-- Assumes nothing.
use Rattle.std.specs.Prelude.{ℕ, ◌<◌, ◌≤◌}
use Rattle.unit.specs.Unit.{most_reference}

-- a line that is read adds to the bases, up to the limit and up to the places that are lent
pub record Grown (places before after : ℕ) : Type 0 where
  pub more : before < after
  pub most : after ≤ most_reference
  pub room : after ≤ places
