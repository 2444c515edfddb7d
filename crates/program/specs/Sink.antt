-- Lines gathered in a buffer of m bytes, of which k are to be written.
-- Assumes nothing.
use Rattle.std.specs.Prelude.{ℕ, ◌+◌, ◌-◌, ◌<◌, ◌≤◌, cond, ltb, Option, Some, None, Result, Ok, Err}
use Rattle.refusal.specs.Answers.{OrRefused}
use Rattle.state.specs.Listed.{most_listed}
use Rattle.program.specs.declared.sink.Sink.{Sink}
use Rattle.program.specs.declared.system.Failed.{Failed}

-- nothing is gathered
abbrev pub empty : Sink
empty = record { used = Some 0 }

-- nothing more is written
abbrev pub stopped_sink : Sink
stopped_sink = record { used = None }

-- n bytes more; nothing more is written where there is no room for them
unfoldable pub longer_by : ℕ → ℕ → ℕ → Option ℕ
longer_by n m k =
    cond (ltb m k) None
    (cond (ltb (m - k) n) None (Some (k + n)))

-- a line more, by what its writer answered
abbrev pub with_line : OrRefused ℕ → ℕ → ℕ → Option ℕ
with_line (Ok n) m k = longer_by n m k
with_line (Err refusal) m k = None

-- what is gathered then, by what f says of so many bytes: a sink that is stopped stays so
abbrev pub used_by : (ℕ → Option ℕ) → Option ℕ → Option ℕ
used_by f None = None
used_by f (Some k) = f k

abbrev pub sink_by : (ℕ → Option ℕ) → Sink → Sink
sink_by f s = record { used = used_by f s.used }

-- how much is gathered, or that the sink is stopped
abbrev pub place_in : Option ℕ → Result ℕ Failed
place_in None = Err (record {})
place_in (Some k) = Ok k

-- a longest line fits behind what is gathered, where it fits into the buffer at all
pub record Roomy (m k : ℕ) : Type 0 where
  pub inside : k ≤ m
  pub room : most_listed < m → most_listed < m - k
