-- A state of another shape stands where document 01's Order has a state: it is refused as any state is there, and by 14 where that one is accepted.
-- Assumes nothing.
use mathlib.Core.Path.{◌≡◌, refl}
use mathlib.Core.List.{List, [], ◌∷◌}
use Prim.Native.Nat.{ℕ, ◌≤◌}
use lib.Dec.{eqb, ltb, leb}
use lib.ListN.{length}
use borrow.Author.Tests.{eq-eqb, ne_eqb, le-leb}
use Rattle.std.specs.Prelude.{⊤, Ok, Err}
use Rattle.refusal.specs.declared.Refusal.{Refusal}
use Rattle.refusal.specs.declared.Refusal.TheVariants.{Missing}
use Rattle.refusal.specs.Answers.{OrRefused}
use Rattle.frame.proofs.HexLaws.{by_test}
use Rattle.unit.specs.Unit.{most_reference, most_records, unit_refusal}
use Rattle.unit.specs.Pairs.{subsequences, table_length}
use Rattle.state.specs.State.{within}
use Rattle.unit.specs.declared.Unit.{Unit}
use Rattle.state.specs.declared.State.{State}
use Rattle.unit.proofs.ValidLaws.{valid_is}
use Rattle.plan.specs.Lent.{counts_out, state_refusal, lent_refusal}
use Rattle.record.proofs.CallLaws.{lent_refused}
use Rattle.lampbuckle.specs.Answer.{refuses}
use Rattle.lampbuckle.specs.Numbers.{unit_length, unit_of}
use Rattle.state.specs.Numbers.{state_length, no_state, state_of}
use Rattle.lampbuckle.specs.Call.{record_call}

-- the refusal of a state that is refused: the other's own, or 14
abbrev pub or_missing : OrRefused ⊤ → Refusal
or_missing (Ok t) = Missing
or_missing (Err n) = n

module _ (u : Unit) (bases places : ℕ) (counts : List ℕ) (s : State) where
  -- among states alone
  state_behind_lem : u.records ≤ most_records → state_refusal u counts no_state ≡ Err (or_missing (state_refusal u counts s))
  unfolding state_refusal
  state_behind_lem h =
      rw (le-leb u.records most_records h)
      (by_test (leb u.records s.number)
      (λ t. rw t)
      (λ t. rw t (by_test (within s counts) (λ i. rw i) (λ i. rw i))))

  -- behind the unit, the reference, the table and the counts
  pub state_in_its_place : lent_refusal u bases places counts no_state ≡ Err (or_missing (lent_refusal u bases places counts s))
  unfolding lent_refusal
  state_in_its_place = by (unit_refusal u) refl
    where
      by : (r : OrRefused ⊤) → unit_refusal u ≡ r → lent_refusal u bases places counts no_state ≡ Err (or_missing (lent_refusal u bases places counts s))
      by (Err n) t = rw t
      by (Ok o) t =
          rw t
          (by_test (ltb most_reference bases) (λ a. rw a)
          (λ a. rw a
          (by_test (eqb places table_length)
          (λ b. rw b
          (by_test (eqb (length counts) subsequences)
          (λ c. rw c (by_test (counts_out counts) (λ d. rw d) (λ d. rw d (state_behind_lem (valid_is u t).records))))
          (λ c. rw c)))
          (λ b. rw b))))

-- the call with such a state: refused, and nothing differs
pub state_misshapen : (numbers reference symbols counts state line out : List ℕ) (s : State) → length numbers ≡ unit_length → (length state ≡ state_length → ⊥)
    → record_call numbers reference symbols counts state line out ≡ refuses (or_missing (lent_refusal (unit_of numbers) (length reference) (length symbols) counts s)) (state ∷ out ∷ [])
unfolding record_call state_of
state_misshapen numbers reference symbols counts state line out s h k =
    let place = state_in_its_place (unit_of numbers) (length reference) (length symbols) counts s in
    let refusal = lent_refused (unit_of numbers) reference symbols counts no_state refl line (length out) _ place in
    rw (eq-eqb _ _ h, ne_eqb _ _ k, refusal)
