-- Taking the next symbol of a subsequence (document 01: "The state after a record is the next record number and the eight indexes").
-- Assumes nothing.
use Rattle.std.specs.Prelude.{ℕ, List, cond, leb, ltb, length, get_or, Ok, Err}
use Rattle.state.specs.declared.State.{State}
use Rattle.unit.specs.Unit.{largest16}
use Rattle.unit.specs.Pairs.{symbol_place}
use Rattle.refusal.specs.Answers.{OrRefused, after_ok}
use Rattle.refusal.specs.declared.Refusal.TheVariants.{UsedUp, ValueOut}
use Rattle.state.specs.State.{index_count, taken, raised}

-- the symbol that stands at the index: the standard's subsequence s at j8,s
abbrev pub symbol_of : List ℕ → State → ℕ → ℕ
symbol_of symbols st s = get_or symbols (symbol_place s (taken st s)) 0

-- the next symbol of subsequence s and the state with its index one higher, where there is such a subsequence, its count is above its index and the lent table reaches so far; else refusal 5
unfoldable pub take_of : List ℕ → List ℕ → State → ℕ → OrRefused (ℕ × State)
take_of symbols counts st s =
    cond (leb index_count s) (Err UsedUp)
    (cond (leb (length counts) s) (Err UsedUp)
    (cond (leb (get_or counts s 0) (taken st s)) (Err UsedUp)
    (cond (leb (length symbols) (symbol_place s (taken st s))) (Err UsedUp)
    (Ok (symbol_of symbols st s, raised st s)))))

-- the same of a value that must have at most 16 bits (Table 30), else refusal 7
unfoldable pub narrow_of : List ℕ → List ℕ → State → ℕ → OrRefused (ℕ × State)
narrow_of symbols counts st s = after_ok (take_of symbols counts st s) (λ taken. cond (ltb largest16 taken.0) (Err ValueOut) (Ok taken))
