-- A state as the numbers that C lends (document 01, Order).
-- Assumes nothing.
use Rattle.std.specs.Prelude.{ℕ, suc, cond, List, ◌∷◌, eqb, length, get_or, drop, replicate}
use Rattle.unit.specs.Unit.{most_records}
use Rattle.state.specs.State.{index_count}
use Rattle.state.specs.declared.State.{State}

-- how many numbers a state is
abbrev pub state_length : ℕ
state_length = suc index_count

-- the numbers of a state: the record number and the indexes
abbrev pub state_numbers : State → List ℕ
state_numbers st = st.number ∷ st.index

-- a state that no unit has: its number is not below any record count
abbrev pub no_state : State
no_state = record { number = most_records; index = replicate index_count 0 }

-- the state that lent numbers are; those of another shape are none that a unit has, so that they are refused by 14 in its place
unfoldable pub state_of : List ℕ → State
state_of numbers = cond (eqb (length numbers) state_length) (record { number = get_or numbers 0 0; index = drop 1 numbers }) no_state

-- lent numbers, with a state laid in their place; those of another shape stay as they are
unfoldable pub state_into : List ℕ → State → List ℕ
state_into numbers st = cond (eqb (length numbers) state_length) (state_numbers st) numbers
