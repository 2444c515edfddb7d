-- What is carried from record to record (document 01, Order): "the next record number and the eight indexes".
-- A field more of the state is one more in each definition below, in Listed (the head of an 04 line) and in Numbers (C).
-- Assumes nothing.
use Rattle.std.specs.Prelude.{ℕ, ◌+◌, ◌≡◌, Bool, true, false, cond, List, [], ◌∷◌, ltb, length, get_or, replicate, set}
use Rattle.frame.specs.Same.{same_list}
use Rattle.unit.specs.Pairs.{subsequences}
use Rattle.state.specs.declared.State.{State}

-- how many indexes are carried: one a subsequence of pair symbols
abbrev pub index_count : ℕ
index_count = subsequences

-- a state has as many indexes
abbrev pub Shaped : State → Type 0
Shaped st = length st.index ≡ index_count

-- no record read and no symbol taken
abbrev pub fresh_state : State
fresh_state = record { number = 0; index = replicate index_count 0 }

-- how many symbols of subsequence s are taken: the standard's index j8,s (10.4.10)
abbrev pub taken : State → ℕ → ℕ
taken st s = get_or st.index s 0

-- the standard's j8,s++
abbrev pub raised : State → ℕ → State
raised st s = record { number = st.number; index = set st.index s (taken st s + 1) }

-- after a record: the next number, and the indexes as its symbols moved them
abbrev pub after : (state moved : State) → State
after state moved = record { number = state.number + 1; index = moved.index }

-- ---- beside the symbol counts of a unit

-- side by side, none is above the other
unfoldable pub none_above : (index counts : List ℕ) → Bool
none_above [] counts = true
none_above (k ∷ ks) [] = false
none_above (k ∷ ks) (n ∷ ns) = cond (ltb n k) false (none_above ks ns)

-- no index is above its symbol count (document 01, Order and Resuming)
abbrev pub within : State → (counts : List ℕ) → Bool
within st counts = none_above st.index counts

-- no symbol is left over
abbrev pub all_taken : State → (counts : List ℕ) → Bool
all_taken st counts = same_list st.index counts
