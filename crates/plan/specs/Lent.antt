-- What a caller lends, before the line is looked at (document 01, Order): 3, 2, 4, then 14.
-- Assumes nothing.
use Rattle.std.specs.Prelude.{ℕ, Bool, true, false, cond, List, [], ◌∷◌, ltb, leb, eqb, length, ⊤, Err}
use Rattle.refusal.specs.Answers.{OrRefused, no_refusal, checked}
use Rattle.refusal.specs.declared.Refusal.TheVariants.{Misframed, CountOut, Missing}
use Rattle.frame.specs.Steps.{unless}
use Rattle.unit.specs.Unit.{unit_refusal, most_reference}
use Rattle.unit.specs.Pairs.{subsequences, most_symbols, table_length}
use Rattle.state.specs.State.{within}
use Rattle.unit.specs.declared.Unit.{Unit}
use Rattle.state.specs.declared.State.{State}

-- a symbol count above 1,024
unfoldable pub counts_out : (counts : List ℕ) → Bool
counts_out [] = false
counts_out (n ∷ ns) = cond (ltb most_symbols n) true (counts_out ns)

-- a state whose number is not below the record count or whose index is above its symbol count
unfoldable pub state_refusal : Unit → (counts : List ℕ) → State → OrRefused ⊤
state_refusal u counts state =
    cond (leb u.records state.number) (Err Missing)
    (unless (within state counts) (Err Missing) no_refusal)

-- a unit value outside its range (3), a lent reference above 32,768 (2), a symbol count above 1,024 or a table of another shape (4), the state (14)
unfoldable pub lent_refusal : Unit → (bases places : ℕ) (counts : List ℕ) → State → OrRefused ⊤
lent_refusal u bases places counts state =
    checked (unit_refusal u)
    (cond (ltb most_reference bases) (Err Misframed)
    (unless (eqb places table_length) (Err CountOut)
    (unless (eqb (length counts) subsequences) (Err CountOut)
    (cond (counts_out counts) (Err CountOut)
    (state_refusal u counts state)))))
