-- For the code, not for the reader.
-- The frame of a well-formed line, decoded into bytes; what it says as a step: `call_framed` (proofs/CallLaws) says that this is the record call where what is lent is accepted.
-- Assumes nothing.
use Rattle.std.specs.Prelude.{ℕ, ◌/◌, ◌≡◌, List, Ok}
use Rattle.frame.specs.Hex.{unhex}
use Rattle.frame.specs.Line.{line_digits, line_of}
use Rattle.state.specs.Listed.{Step}
use Rattle.unit.specs.declared.Unit.{Unit}
use Rattle.state.specs.declared.State.{State}
use Rattle.plan.specs.Plan.{from_kind}
use Rattle.record.specs.Record.{step_by}

-- the bytes of a well-formed line
pub record FrameOf (line frame : List ℕ) : Type 0 where
  pub size : ℕ
  pub well_formed : line_of line ≡ Ok size
  pub bytes : frame ≡ unhex line

-- the step of a frame
unfoldable pub read_step : Unit → (reference symbols counts : List ℕ) → State → (frame : List ℕ) → Step
read_step u reference symbols counts state frame =
    step_by u reference symbols frame state (from_kind u reference symbols counts state frame)

-- the bytes of the three arrays: the longest line's frame fits into the last
abbrev pub short_frame : ℕ
short_frame = 64

abbrev pub middle_frame : ℕ
middle_frame = 512

abbrev pub long_frame : ℕ
long_frame = line_digits / 2
