-- For the code, not for the reader.
-- What taking a block's symbols comes to: how many turns Table 62 takes is known before where a piece maps, and neither its refusals nor the state depend on that.
-- Assumes nothing.
use Rattle.std.specs.Prelude.{ℕ, zero, suc, Ok, Err}
use Rattle.refusal.specs.Answers.{OrRefused}
use Rattle.state.specs.declared.State.{State}
use Rattle.taking.specs.Steps.{Steps, sets, and_then, Came, came, stopped}
use Rattle.edits.specs.Pieces.{straight}
use Rattle.splices.specs.Table62.{next_mapping_pos}

-- the state behind the symbols, or the refusal
abbrev pub symbols_moved : {A : Type 0} → Came A → OrRefused State
symbols_moved (came a next) = Ok next
symbols_moved (stopped refusal) = Err refusal

-- so many turns, wherever the pieces map
unfoldable pub splice_turns : ℕ → Steps ℕ
splice_turns zero = sets 0
splice_turns (suc k) = and_then (next_mapping_pos (straight 0)) (λ next. splice_turns k)
