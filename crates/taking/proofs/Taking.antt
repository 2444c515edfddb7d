-- Laws of `take_of`: what taking one symbol does to the state. Assumes nothing.
use mathlib.Core.Path.{◌≡◌}
use mathlib.Core.List.{List}
use Prim.Native.Nat.{ℕ, ◌+◌, ◌<◌}
use lib.Dec.{leb}
use lib.ListN.{length, get_or, length-set}
use lib.Seq.{get_or-set_same, get_or-set_other}
use borrow.Author.Tests.{leb-false}
pub use Rattle.frame.proofs.Tests.{cond_of as by_test, one_of}
use Rattle.state.specs.declared.State.{State}
use Rattle.unit.specs.Pairs.{symbol_place}
use Rattle.std.specs.Prelude.{Ok, Err}
use Rattle.refusal.specs.Answers.{OrRefused}
use Rattle.refusal.specs.declared.Refusal.TheVariants.{UsedUp}
use Rattle.taking.specs.Take.{symbol_of, take_of}
use Rattle.state.specs.State.{index_count, taken, raised}

-- take

-- subsequence s has a symbol that is not taken
pub record There (symbols counts : List ℕ) (st : State) (s : ℕ) : Type 0 where
  pub known : s < index_count
  pub counted : s < length counts
  pub left : taken st s < get_or counts s 0
  pub lent : symbol_place s (taken st s) < length symbols

module _ (symbols counts : List ℕ) (st : State) (s : ℕ) where
  -- either nothing is left and nothing changes, or the symbol at the index is taken
  pub take_cases : (P : OrRefused (ℕ × State) → Type 0) → P (Err UsedUp) → (There symbols counts st s → P (Ok (symbol_of symbols st s, raised st s))) → P (take_of symbols counts st s)
  unfolding take_of
  take_cases P none some =
      by_test P (leb index_count s) _ _ (λ _. none)
      (λ a. by_test P (leb (length counts) s) _ _ (λ _. none)
      (λ b. by_test P (leb (get_or counts s 0) (taken st s)) _ _ (λ _. none)
      (λ c. by_test P (leb (length symbols) (symbol_place s (taken st s))) _ _ (λ _. none)
      (λ d. some record { known = leb-false _ _ a; counted = leb-false _ _ b; left = leb-false _ _ c; lent = leb-false _ _ d }))))

-- raised

module _ (st : State) (s : ℕ) where
  -- another subsequence's index is not touched
  pub raised_other : (j : ℕ) → (j ≡ s → ⊥) → taken (raised st s) j ≡ taken st j
  raised_other j ne = get_or-set_other st.index s j _ 0 ne

  -- its own is one higher
  pub raised_same : s < length st.index → taken (raised st s) s ≡ taken st s + 1
  raised_same l = get_or-set_same st.index s _ 0 l

  pub raised_long : length (raised st s).index ≡ length st.index
  raised_long = length-set st.index s _
