-- For the code, not for the reader.
-- A reading place: the frame and how many of its bytes are read.
-- Assumes nothing.
use Rattle.std.specs.Prelude.{List, ℕ, Ok, Err}
use Rattle.std.specs.Borrow.{Bor}
use Rattle.frame.specs.Field.{Field}
use Rattle.reader.specs.declared.Reader.{Reader}
use Rattle.reader.specs.declared.Width.{Width}
use Rattle.reader.specs.declared.Width.TheVariants.{U8, U16, U32}

-- how many bytes a field takes
abbrev pub width_bytes : Width → ℕ
width_bytes U8 = 1
width_bytes U16 = 2
width_bytes U32 = 4

-- the place behind a field, or the place as it was
abbrev pub behind : Field → ℕ → ℕ
behind (Ok (v, c)) at = c.at
behind (Err refusal) at = at

-- a frame, of which nothing is read
abbrev pub at_front : Bor (List ℕ) → Reader
at_front frame = record { 0 = frame; 1 = 0 }

-- the same frame, and the place behind the field
abbrev pub further : Reader → Field → Reader
further r f = record { 0 = r.0; 1 = behind f r.1 }
