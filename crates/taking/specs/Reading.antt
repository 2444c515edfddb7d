-- Which symbols steps read. The laws (proofs/Reading) show that `decode` reads these and no others: each at its subsequence's index, once and in order.
-- Assumes nothing.
use Rattle.std.specs.Prelude.{ℕ, List, [], ◌∷◌, cond, eqb}
use Rattle.state.specs.State.{raised}
use Rattle.state.specs.declared.State.{State}
use Rattle.taking.specs.Take.{symbol_of}
use Rattle.taking.specs.Steps.{Steps, sets, takes, refuses, marks}

-- a symbol that is taken: its subsequence, and its value
pub record Took : Type 0 where
  pub row : ℕ
  pub value : ℕ

-- the symbols that the steps take, in order: each is the standard's subsequenceN at j8,N when its turn comes, so that a subsequence may be taken from more than once
unfoldable pub taken_in : {A : Type 0} → (symbols : List ℕ) → State → Steps A → List Took
taken_in symbols st (sets a) = []
taken_in symbols st (takes s go_on) =
    record { row = s; value = symbol_of symbols st s } ∷ taken_in symbols (raised st s) (go_on (symbol_of symbols st s))
taken_in symbols st (refuses n) = []
taken_in symbols st (marks go_on) = taken_in symbols st (go_on st)

-- the state with an index one higher for each of them
unfoldable pub raised_by : State → List Took → State
raised_by st [] = st
raised_by st (t ∷ rest) = raised_by (raised st t.row) rest

-- those of subsequence s
unfoldable pub symbols_of : ℕ → List Took → List ℕ
symbols_of s [] = []
symbols_of s (t ∷ rest) = cond (eqb t.row s) (t.value ∷ symbols_of s rest) (symbols_of s rest)
