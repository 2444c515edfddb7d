-- The laws of what is lent: what refuses a state, and the scan of the counts.
-- Assumes nothing.
use mathlib.Core.Path.{◌≡◌, refl}
use mathlib.Core.Bool.{true, false}
use mathlib.Core.List.{List, [], ◌∷◌}
use Prim.Native.Nat.{ℕ, ◌<◌, ◌≤◌}
use lib.Dec.{ltb}
use borrow.Author.Tests.{le-leb, lt-leb}
use Rattle.std.specs.List.{list_any}
use Rattle.frame.proofs.HexLaws.{by_test}
use Rattle.std.specs.Prelude.{Err}
use Rattle.refusal.specs.Answers.{no_refusal}
use Rattle.refusal.specs.declared.Refusal.TheVariants.{Missing}
use Rattle.unit.specs.Pairs.{most_symbols}
use Rattle.state.specs.State.{within}
use Rattle.unit.specs.declared.Unit.{Unit}
use Rattle.state.specs.declared.State.{State}
use Rattle.plan.specs.Lent.{counts_out, state_refusal}

-- ---- the state

module _ (u : Unit) (counts : List ℕ) (state : State) where
  pub number_out : u.records ≤ state.number → state_refusal u counts state ≡ Err Missing
  unfolding state_refusal
  number_out h = rw (le-leb _ _ h)

  pub index_out : state.number < u.records → within state counts ≡ false → state_refusal u counts state ≡ Err Missing
  unfolding state_refusal
  index_out h e = rw (lt-leb _ _ h, e)

  pub state_fine : state.number < u.records → within state counts ≡ true → state_refusal u counts state ≡ no_refusal
  unfolding state_refusal
  state_fine h e = rw (lt-leb _ _ h, e)

-- ---- the counts

pub counts_any : (ns : List ℕ) → list_any (λ n. ltb most_symbols n) ns ≡ counts_out ns
unfolding counts_out
counts_any [] = refl
counts_any (n ∷ ns) = by_test (ltb most_symbols n) (λ t. rw t refl) (λ t. rw t (counts_any ns))
