-- The calls for going on with a listing that was stopped (document 01, Resuming).
-- Assumes nothing.
use Rattle.std.specs.Prelude.{ℕ, cond, List, [], ◌∷◌, eqb, length, get_or}
use Rattle.refusal.specs.declared.Refusal.TheVariants.{CountOut, Missing}
use Rattle.unit.specs.Pairs.{subsequences}
use Rattle.state.specs.declared.State.{State}
use Rattle.state.specs.State.{fresh_state}
use Rattle.kept.specs.Keep.{keep_all}
use Rattle.resuming.specs.Pass.{pass_over}
use Rattle.listing.specs.Resuming.{edges_from, place_by}
use Rattle.resuming.specs.Last.{placed_of}
use Rattle.kept.specs.declared.keep.Keep.{Keep}
use Rattle.resuming.specs.declared.pass.Passed.{Passed}
use Rattle.resuming.specs.declared.place.Go.{Go}
use Rattle.resuming.specs.declared.place.Go.TheVariants.{Afresh, Second, On, Over, Refused}
use Rattle.lampbuckle.specs.Answer.{Outcome, answers, refuses}
use Rattle.lampbuckle.specs.Numbers.{keep_length, flag, keep_numbers, keep_of}
use Rattle.state.specs.Numbers.{state_length, state_numbers}

-- ---- what is kept, read in pieces

-- 1 where nothing that follows is kept, else 0; and what is known now
abbrev pub keep_answered : Keep → Outcome
keep_answered k = answers (flag k.done) (keep_numbers k ∷ [])

-- numbers of another shape are refused by 14
unfoldable pub keep_call : List ℕ → List ℕ → Outcome
keep_call piece lent =
    cond (eqb (length lent) keep_length) (keep_answered (keep_all (keep_of lent) piece)) (refuses Missing (lent ∷ []))

-- ---- where to go on

-- the number of each place: the whole listing is added
abbrev pub place_afresh : ℕ
place_afresh = 0

-- or all behind its first line
abbrev pub place_second : ℕ
place_second = 1

-- or all behind a record
abbrev pub place_on : ℕ
place_on = 2

-- or nothing
abbrev pub place_over : ℕ
place_over = 3

-- the number of a place, and the state to go on from
abbrev pub goes_on : ℕ → State → Outcome
goes_on number next = answers number (state_numbers next ∷ [])

-- the answer of `place`, as numbers: a fresh state but behind a record; or the refusal
abbrev pub place_answered : Go → List ℕ → Outcome
place_answered Afresh lent = goes_on place_afresh fresh_state
place_answered Second lent = goes_on place_second fresh_state
place_answered (On next) lent = goes_on place_on next
place_answered Over lent = goes_on place_over fresh_state
place_answered (Refused refusal) lent = refuses refusal (lent ∷ [])

-- counts of another shape are refused by 4, a state by 14; then 15 and 16
unfoldable pub place_call : List ℕ → ℕ → List ℕ → List ℕ → List ℕ → List ℕ → Outcome
place_call listed count counts first last lent =
    cond (eqb (length counts) subsequences)
    (cond (eqb (length lent) state_length)
    (place_answered (placed_of (place_by listed count counts (edges_from first last))) lent)
    (refuses Missing (lent ∷ [])))
    (refuses CountOut (lent ∷ []))

-- ---- lines passed over by their 0A, in pieces

-- the one number that says how often 0A is wanted
abbrev pub wanted_length : ℕ
wanted_length = 1

-- how many bytes are passed over, and how often 0A is wanted then
abbrev pub pass_answered : Passed → Outcome
pass_answered p = answers p.at ((p.left ∷ []) ∷ [])

-- numbers of another shape are refused by 14
unfoldable pub pass_call : List ℕ → List ℕ → Outcome
pass_call piece lent =
    cond (eqb (length lent) wanted_length) (pass_answered (pass_over (get_or lent 0 0) piece)) (refuses Missing (lent ∷ []))
