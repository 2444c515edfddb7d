-- `edits::edit::edit_at` meets its contract: a substitution, or an edit with its four bytes, `edit_full`. Assumes nothing.
use mathlib.Core.Path.{sym, ◌∙◌}
use native.Mathlib.Omega.{arith}
use Rattle.edits.proofs.EditLaws.{edit_full, width_full}
use Rattle.edits.proofs.edit.edit_at.Goals as goal

pub substitution_at-requires : goal.substitution_at-requires
substitution_at-requires c = (sym c.substitutes.ensures ∙ c.if-substitutes.true, c.requires)

pub offset_at-requires : goal.offset_at-requires
offset_at-requires c = omega (arith, width_full _ (sym c.substitutes.ensures ∙ c.if-substitutes.false))

pub bounds-frame-at : goal.bounds-frame-at
bounds-frame-at c = omega (arith, width_full _ (sym c.substitutes.ensures ∙ c.if-substitutes.false))

pub bounds-frame-at-2 : goal.bounds-frame-at-2
bounds-frame-at-2 c = omega (arith, width_full _ (sym c.substitutes.ensures ∙ c.if-substitutes.false))

pub returns : goal.returns
returns c = simp (edit_full _ (sym c.substitutes.ensures ∙ c.if-substitutes.false), c.offset_at.ensures)
