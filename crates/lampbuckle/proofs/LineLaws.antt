-- The laws of the calls that read a line: each way that a call ends, from what the reader answered.
-- Assumes nothing.
use mathlib.Core.Path.{◌≡◌, refl, sym, ◌∙◌}
use mathlib.Core.List.{List, [], ◌∷◌}
use Prim.Native.Nat.{ℕ, ◌<◌}
use native.Mathlib.Omega.{arith}
use lib.IntN.{ℤ, pos}
use lib.ListN.{length, set}
use borrow.Author.Tests.{eq-eqb}
use Rattle.std.specs.Prelude.{Ok, Err}
use Rattle.refusal.specs.declared.Refusal.{Refusal}
use Rattle.refusal.specs.Numbers.{number_of}
use Rattle.refusal.specs.Answers.{OrRefused}
use Rattle.unit.specs.Pairs.{subsequences}
use Rattle.front.specs.UnitLine.{unit_line}
use Rattle.front.specs.PairLine.{pair_line, table_after}
use Rattle.front.specs.ReferenceLine.{reference_line, reference_after}
use Rattle.unit.specs.declared.Unit.{Unit}
use Rattle.front.proofs.PairLaws.{table_kept, pair_accepted}
use Rattle.front.proofs.ReferenceLaws.{bases_kept, reference_accepted}
use Rattle.lampbuckle.specs.Answer.{minus, answer_of, outcome}
use Rattle.lampbuckle.specs.Numbers.{unit_length, unit_numbers}
use Rattle.lampbuckle.specs.Lines.{unit_call, pair_call, reference_answered, reference_call}
use Rattle.lampbuckle.specs.Code.Countable.{Countable}

-- ---- the unit line

module _ {a : ℤ} (line lent : List ℕ) where
  module _ (shape : length lent ≡ unit_length) {r : OrRefused Unit} (is : r ≡ unit_line line) where
    pub unit_call_refused : {n : Refusal} → r ≡ Err n → a ≡ minus (number_of n) → outcome a (lent ∷ []) ≡ unit_call line lent
    unfolding unit_call
    unit_call_refused h e = rw (eq-eqb _ _ shape, ← is, h, e)

    pub unit_call_read : {u : Unit} {after : List ℕ} → r ≡ Ok u → after ≡ unit_numbers u → a ≡ pos (length line) → outcome a (after ∷ []) ≡ unit_call line lent
    unfolding unit_call
    unit_call_read h s e = rw (eq-eqb _ _ shape, ← is, h, e, s)

-- ---- a pair line

module _ (line : List ℕ) (number : ℕ) (table counts : List ℕ) where
  module _ (shape : length counts ≡ subsequences) {r : OrRefused ℕ} {after : List ℕ} (is : (r ≡ pair_line line number (length table)) × (after ≡ table_after line number table)) where
    pub pair_call_refused : {a : ℤ} {n : Refusal} → r ≡ Err n → a ≡ minus (number_of n) → outcome a (after ∷ counts ∷ []) ≡ pair_call line number table counts
    unfolding pair_call
    pair_call_refused {a} {n} h e =
        let same : after ≡ table = is.1 ∙ sym (table_kept line number n table h is.0).1 in
        rw (eq-eqb _ _ shape, ← is.0, h, e, same)

    pub pair_read : {a : ℤ} {n : ℕ} → r ≡ Ok n → a ≡ pos n → outcome a (after ∷ set counts number n ∷ []) ≡ pair_call line number table counts
    unfolding pair_call
    pair_read h e = rw (eq-eqb _ _ shape, ← is.0, h, e, is.1)

    -- an accepted line's number has its place among the counts
    pub pair_place : {n : ℕ} → r ≡ Ok n → number < length counts
    pair_place {n} h = let w = pair_accepted line number (length table) n (sym h ∙ is.0) in omega (arith, w.row)

-- ---- a reference line

module _ (line lent : List ℕ) (used : ℕ) {r : OrRefused ℕ} {after : List ℕ}
    (is : (r ≡ reference_line line used (length lent)) × (after ≡ reference_after line used lent)) where
  pub reference_read : {a : ℤ} → a ≡ answer_of r → outcome a (after ∷ []) ≡ reference_call line lent used
  unfolding reference_call
  reference_read {a} = by r refl
    where
      by : (t : OrRefused ℕ) → r ≡ t → a ≡ answer_of r → outcome a (after ∷ []) ≡ reference_answered (reference_line line used (length lent)) line lent used
      by (Ok n) h e = rw (← is.0, e, h, is.1)
      by (Err n) h e =
          let same : after ≡ lent = is.1 ∙ sym (bases_kept line used n lent h is.0).1 in
          rw (← is.0, e, h, same)

  -- so many bases as may be lent
  pub reference_counted : Countable r
  reference_counted = by r refl
    where
      by : (t : OrRefused ℕ) → r ≡ t → Countable t
      by (Ok n) h = let w = (reference_accepted line used (length lent) n (sym h ∙ is.0)).added in omega (arith, w.most)
      by (Err n) h = tt
