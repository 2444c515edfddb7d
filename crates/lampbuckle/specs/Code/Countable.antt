-- For the code, not for the reader.
-- What is counted fits a signed integer.
-- Assumes nothing.
use Rattle.std.specs.Prelude.{ℕ, ◌^◌, ◌<◌, ⊤, Ok, Err}
use Rattle.refusal.specs.Answers.{OrRefused}

-- so many as a signed integer can say
abbrev pub Countable : OrRefused ℕ → Type 0
Countable (Ok n) = n < 2 ^ 63
Countable (Err refusal) = ⊤
