-- The record call as C makes it (document 01, Order).
-- Assumes nothing.
use Rattle.std.specs.Prelude.{ℕ, ◌+◌, ◌*◌, cond, List, [], ◌∷◌, eqb, length}
use Rattle.refusal.specs.declared.Refusal.TheVariants.{UnitOut}
use Rattle.state.specs.Listed.{Step, refused, accepted}
use Rattle.record.specs.Record.{record_of, output}
use Rattle.lampbuckle.specs.Answer.{Outcome, answers, refuses}
use Rattle.lampbuckle.specs.Numbers.{unit_length, unit_of}
use Rattle.state.specs.Numbers.{state_of, state_numbers}

-- the line's bytes, its 0A among them, with the next state and the line; or a refusal
abbrev pub record_answered : Step → List ℕ → List ℕ → Outcome
record_answered (refused refusal) state out = refuses refusal (state ∷ out ∷ [])
record_answered (accepted frame next) state out = answers (2 * length frame + 1) (state_numbers next ∷ output out (accepted frame next) ∷ [])

-- a unit that is not eight numbers is refused by 3, before all else; a state of another shape by 14, where the call refuses a state
unfoldable pub record_call : List ℕ → List ℕ → List ℕ → List ℕ → List ℕ → List ℕ → List ℕ → Outcome
record_call unit reference symbols counts state line out =
    cond (eqb (length unit) unit_length)
    (record_answered (record_of (unit_of unit) reference symbols counts (state_of state) line (length out)) state out)
    (refuses UnitOut (state ∷ out ∷ []))
