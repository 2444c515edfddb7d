-- For the code, not for the reader.
-- That looking up where the pieces map does not wrap.
-- Assumes nothing.
use Rattle.std.specs.Prelude.{ℕ, ◌+◌, ◌*◌, ◌^◌, ◌≤◌}
use Rattle.splices.specs.declared.mapping.Mapping.{Mapping}

-- so many steps more do not wrap
pub record RoomFor (left : ℕ) (m : Mapping) : Type 0 where
  pub above : m.above + left * 2 ^ 33 ≤ 2 ^ 60
  pub below : m.below + left * 2 ^ 33 ≤ 2 ^ 60
  pub codes : m.codes + left ≤ 2 ^ 40
  pub deltas : m.deltas + left ≤ 2 ^ 40
  pub places : m.places + left ≤ 2 ^ 40
