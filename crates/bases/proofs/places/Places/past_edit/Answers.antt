-- `bases::places::Places::past_edit` meets its contract: the tests on the way pick Table 90's row. Assumes nothing.
use mathlib.Core.Path.{ap, ◌∙◌}
use Rattle.bases.specs.declared.places.Places.{Places}
use Rattle.bases.specs.Bases.{R, r, past_insertion, past_deletion, past_substitution, past_edit}
use native.Mathlib.Omega.{arith}
use borrow.Author.Tests.{eq-eqb, ne_eqb}
use Rattle.bases.proofs.places.Places.past_edit.Goals as goal

pub past_insertion-requires : goal.past_insertion-requires
past_insertion-requires c = omega (arith, ap (λ (x : Places). r x) c.past_match-met.ensures)

pub returns-then-e-eq-INSERTION : goal.returns-then-e-eq-INSERTION
unfolding past_edit
returns-then-e-eq-INSERTION c = simp (eq-eqb _ _ c.if-e-eq-INSERTION.true) (c.past_insertion.ensures ∙ ap (λ (x : Places). past_insertion x) c.past_match-met.ensures)

pub past_deletion-requires : goal.past_deletion-requires
past_deletion-requires c = omega (arith, ap (λ (x : Places). R x) c.past_match-met.ensures)

pub returns-then-e-eq-DELETION : goal.returns-then-e-eq-DELETION
unfolding past_edit
returns-then-e-eq-DELETION c = simp (ne_eqb _ _ c.if-e-eq-INSERTION.false, eq-eqb _ _ c.if-e-eq-DELETION.true) (c.past_deletion.ensures ∙ ap (λ (x : Places). past_deletion x) c.past_match-met.ensures)

pub past_substitution-requires : goal.past_substitution-requires
past_substitution-requires c = (omega (arith, ap (λ (x : Places). R x) c.past_match-met.ensures), omega (arith, ap (λ (x : Places). r x) c.past_match-met.ensures))

pub returns : goal.returns
unfolding past_edit
returns c = simp (ne_eqb _ _ c.if-e-eq-INSERTION.false, ne_eqb _ _ c.if-e-eq-DELETION.false) (c.past_substitution.ensures ∙ ap (λ (x : Places). past_substitution x) c.past_match-met.ensures)
