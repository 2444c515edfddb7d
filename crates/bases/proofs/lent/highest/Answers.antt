-- `bases::lent::highest` meets its contract. The loop's invariant: the highest of what was met and of what is left is that of the whole. Assumes nothing.
use mathlib.Core.Path.{refl, sym, ◌∙◌}
use native.Mathlib.Nat.{sub-zero}
use Rattle.bases.proofs.ReferenceLaws.{highest_on, highest_end, max_higher}
use Rattle.bases.proofs.lent.highest.Goals as goal

pub loop-symbol-init : goal.loop-symbol-init
loop-symbol-init c = rw sub-zero refl

pub loop-symbol-preserved : goal.loop-symbol-preserved
loop-symbol-preserved c = sym (highest_on _ _ _ _ (c.max-most.ensures ∙ max_higher _ _) c.loop-symbol-test.true) ∙ c.loop-symbol.invariant

pub returns : goal.returns
returns c = sym (highest_end _ _ _ _ c.loop-symbol-test.false) ∙ c.loop-symbol.invariant
