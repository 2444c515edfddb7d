-- What the probes of the text layer answer.
-- Assumes nothing.
use Rattle.std.specs.Prelude.{ℕ, zero, suc, ◌+◌, ◌*◌, ◌/◌, ◌%◌, ◌^◌, cond, List, [], ◌++◌, length, nat_lt, Ok, Err}
use Rattle.frame.specs.Hex.{be}
use Rattle.refusal.specs.Answers.{OrRefused}
use Rattle.frame.specs.Field.{Field, field_at}
use Rattle.writing.specs.Lay.{lay}

-- a frame's bytes, or 0 for a malformed line
abbrev pub frame_bytes : OrRefused ℕ → ℕ
frame_bytes (Ok n) = n
frame_bytes (Err refusal) = 0

-- a field's value, or 0 for one that is not complete
abbrev pub value_of : Field → ℕ
value_of (Ok (v, c)) = v
value_of (Err refusal) = 0

-- the sum of the first k u16 fields, modulo 2^32
unfoldable pub sum_to : ℕ → List ℕ → ℕ
sum_to zero frame = 0
sum_to (suc k) frame = (sum_to k frame + value_of (field_at 2 frame (k * 2))) % 2 ^ 32

-- the numbers from k down to 1 as u32 fields
unfoldable pub countdown : ℕ → List ℕ
countdown zero = []
countdown (suc k) = be 4 (suc k) ++ countdown k

-- laid from the front, or nothing where there is no room for them all
unfoldable pub count_into : List ℕ → ℕ → List ℕ
count_into s k = cond (nat_lt (length s / 8) k) s (lay s 0 (countdown k))
