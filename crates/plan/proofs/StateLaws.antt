-- The laws of what is lent and was not refused: the unit's values, the table's shape, and a state inside the unit.
-- Assumes nothing.
use mathlib.Core.Path.{◌≡◌, sym}
use mathlib.Core.Bool.{Bool, true, false, cond}
use mathlib.Core.List.{List, [], ◌∷◌}
use Prim.Native.Nat.{ℕ, zero, suc, ◌<◌, ◌≤◌}
use borrow.Author.Tests.{ltb-false, leb-false}
use lib.Dec.{ltb, leb, lit≤}
use lib.ListN.{length, get_or}
use Rattle.std.specs.Prelude.{⊤, Err}
use Rattle.refusal.specs.Answers.{OrRefused, no_refusal}
use Rattle.refusal.specs.declared.Refusal.TheVariants.{Misframed, CountOut, Missing}
use Rattle.refusal.proofs.AnswerLaws.{past_checked, never_refused}
use Rattle.frame.proofs.HexLaws.{by_test, false_true}
use Rattle.unit.specs.Unit.{most_reference, unit_refusal}
use Rattle.unit.specs.Pairs.{subsequences, most_symbols, table_length}
use Rattle.state.specs.State.{within}
use Rattle.unit.specs.declared.Unit.{Unit}
use Rattle.state.specs.declared.State.{State}
use Rattle.frame.proofs.StepLaws.{past_refusal, past_match_lem}
use Rattle.unit.proofs.ValidLaws.{UnitValid, valid_is}
use Rattle.state.proofs.StateLaws.{within_each}
use Rattle.plan.specs.Lent.{counts_out, state_refusal, lent_refusal}

-- no count is above the limit
counts_within : (counts : List ℕ) → counts_out counts ≡ false → (i : ℕ) → get_or counts i 0 ≤ most_symbols
unfolding counts_out
counts_within [] e i = lit≤ tt
counts_within (n ∷ ns) e zero = by_test (ltb most_symbols n) (λ t. false_true (sym (simp t at e))) (λ t. ltb-false most_symbols n t)
counts_within (n ∷ ns) e (suc i) = by_test (ltb most_symbols n) (λ t. false_true (sym (simp t at e))) (λ t. counts_within ns (simp t at e) i)

-- a flag that refuses and is not set
past_flag : (b : Bool) (bad x y : OrRefused ⊤) → (bad ≡ y → ⊥) → cond b bad x ≡ y → (b ≡ false) × (x ≡ y)
past_flag b bad x y other e = by_test b (λ t. absurd (other (simp t at e))) (λ t. (t, simp t at e))

pub record LentTaken (u : Unit) (bases places : ℕ) (counts : List ℕ) (state : State) : Type 0 where
  pub unit : UnitValid u
  pub reference : bases ≤ most_reference
  pub table : places ≡ table_length
  pub counts_all : length counts ≡ subsequences
  pub counts_fit : (i : ℕ) → get_or counts i 0 ≤ most_symbols
  pub in_count : state.number < u.records
  pub within : (i : ℕ) → get_or state.index i 0 ≤ get_or counts i 0

pub lent_taken : (u : Unit) (bases places : ℕ) (counts : List ℕ) (state : State) → lent_refusal u bases places counts state ≡ no_refusal → LentTaken u bases places counts state
unfolding lent_refusal state_refusal
lent_taken u bases places counts state q =
    let t = past_checked (unit_refusal u) _ tt q in
    let a = past_refusal (Err Misframed) (λ z. never_refused z) most_reference bases _ t.1 in
    let b = past_match_lem (Err CountOut) (λ z. never_refused z) places table_length _ a.1 in
    let c = past_match_lem (Err CountOut) (λ z. never_refused z) (length counts) subsequences _ b.1 in
    let d = past_flag (counts_out counts) (Err CountOut) _ no_refusal (λ z. never_refused z) c.1 in
    let f = past_flag (leb u.records state.number) (Err Missing) _ no_refusal (λ z. never_refused z) d.1 in
    let g : within state counts ≡ true = by_test (within state counts) (λ w. w) (λ w. never_refused (simp w at f.1)) in
    record {
      unit = valid_is u t.0;
      reference = a.0;
      table = b.0;
      counts_all = c.0;
      counts_fit = counts_within counts d.0;
      in_count = leb-false _ _ f.0;
      within = within_each state.index counts g;
    }
