-- For the code, not for the reader.
-- How a buffer is filled again: the steps of `source::ready`, whose own promise is `WaitsFor`.
-- Assumes nothing.
use Rattle.std.specs.Prelude.{ℕ, ◌<◌, ◌≤◌, ◌≡◌, false, List, length, take}
use Rattle.stream.specs.Source.{Held, Leads}
use Rattle.stream.specs.declared.source.Source.{Source}

-- what one read brought into n places, where it is not the file's end: at least a byte
pub record Some (n k : ℕ) : Type 0 where
  pub more : 0 < k
  pub inside : k ≤ n

-- bytes are read behind those that wait, up to the file's end or the buffer's
pub record Filled {R : Type 0} (before : List ℕ) (s : Source R) (after : List ℕ) (r : Source R) : Type 0 where
  pub held : Held (length after) r
  pub start : r.at ≡ s.at
  pub more : s.end ≤ r.end
  pub same : take s.end after ≡ take s.end before
  pub full : r.ended ≡ false → r.end ≡ length after

-- the same, with the bytes that wait at the front of the buffer
pub record Refilled {R : Type 0} (before : List ℕ) (s : Source R) (after : List ℕ) (r : Source R) : Type 0 where
  pub held : Held (length after) r
  pub start : r.at ≡ 0
  pub leads : Leads before s after r.at r.end
  pub full : r.ended ≡ false → r.end ≡ length after
