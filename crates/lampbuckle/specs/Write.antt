-- The calls that write a line of the listing (document 01, The listing).
-- Assumes nothing.
use Rattle.std.specs.Prelude.{ℕ, List, [], ◌∷◌, ℤ, ⊤, Ok, Err}
use Rattle.refusal.specs.Answers.{OrRefused}
use Rattle.writing.specs.Whole.{wrote_of, line_into}
use Rattle.front.specs.UnitLine.{unit_bytes}
use Rattle.lampbuckle.specs.Answer.{Outcome, outcome, answer_of, refuses}
use Rattle.lampbuckle.specs.Numbers.{unit_of, unit_numbers_refusal}

-- the line's bytes, its 0A among them; 17 where less is lent
abbrev pub wrote : OrRefused ℕ → ℤ
wrote answer = answer_of answer

-- a frame's line at the front of what is lent, and nothing behind it
unfoldable pub written_call : List ℕ → List ℕ → Outcome
written_call frame out = outcome (wrote (wrote_of out frame)) (line_into out frame ∷ [])

-- what follows where the numbers are a unit's, or their refusal
abbrev pub after_numbers : OrRefused ⊤ → List ℕ → Outcome → Outcome
after_numbers (Ok t) out go_on = go_on
after_numbers (Err refusal) out go_on = refuses refusal (out ∷ [])

-- the unit line, where the numbers are a unit's (else 3)
unfoldable pub unit_written : List ℕ → List ℕ → Outcome
unit_written numbers out = after_numbers (unit_numbers_refusal numbers) out (written_call (unit_bytes (unit_of numbers)) out)
