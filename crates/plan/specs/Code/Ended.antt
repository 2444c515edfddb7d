-- For the code, not for the reader.
-- A record behind which its frame ends: `nothing_left_over` as an answer.
-- Assumes nothing.
use Rattle.std.specs.Prelude.{ℕ, cond, List, ltb, length, Ok, Err}
use Rattle.refusal.specs.Answers.{OrRefused}
use Rattle.refusal.specs.declared.Refusal.TheVariants.{Misframed}
use Rattle.plan.specs.declared.read.Plan.{Plan}

abbrev pub ended_at : (frame : List ℕ) → Plan → (at : ℕ) → OrRefused Plan
ended_at frame p at = cond (ltb at (length frame)) (Err Misframed) (Ok p)
