-- `edits::edit::substitution_at` meets its contract: the class is N, or it is M, `only_m`, and has a third byte, `width_third`. Assumes nothing.
use native.Mathlib.Omega.{arith}
use Rattle.edits.specs.Edits.{edit_at}
use Rattle.edits.proofs.EditLaws.{only_m, width_least, width_third}
use Rattle.alphabet.proofs.AlphabetLaws.{code_n_lt}
use borrow.Author.Tests.{eq-eqb, ne_eqb}
use Rattle.edits.proofs.edit.substitution_at.Goals as goal

pub offset_at-offset-requires : goal.offset_at-offset-requires
offset_at-offset-requires c = omega (arith, width_least c.args.class)

pub overflow_cast-result : goal.overflow_cast-result
overflow_cast-result c = omega (arith, code_n_lt _ c.index_of_n.ensures)

pub returns-then-class-eq-N : goal.returns-then-class-eq-N
unfolding edit_at
returns-then-class-eq-N c = simp (eq-eqb _ _ c.if-class-eq-N.true, c.offset_at-offset.ensures, c.index_of_n.ensures)

pub bounds-frame-at : goal.bounds-frame-at
bounds-frame-at c = omega (arith, width_third _ c.if-class-eq-N.false)

pub returns : goal.returns
unfolding edit_at
returns c = simp (ne_eqb _ _ c.if-class-eq-N.false, eq-eqb _ _ (only_m _ c.requires.0 c.if-class-eq-N.false), c.offset_at-offset.ensures)
