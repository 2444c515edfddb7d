-- For the code, not for the reader.
-- A field of k bytes holds a number of k bytes: what is known of it where it is put into a narrower type.
-- Assumes nothing.
use Rattle.std.specs.Prelude.{ℕ, ◌^◌, ◌<◌, Ok, Err}
use Rattle.frame.specs.Field.{Field}

abbrev pub Narrow : ℕ → Field → Type 0
Narrow k (Ok (v, next)) = v < 256 ^ k
Narrow k (Err refusal) = Unit
