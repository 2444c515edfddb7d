-- `edits::edit::width` meets its contract: the class picks the case. Assumes nothing.
use mathlib.Core.Path.{◌≡◌, refl}
use native.Mathlib.Omega.{arith}
use Rattle.unit.specs.Unit.{class_n, class_m}
use Rattle.edits.specs.Edits.{width_of}
use borrow.Author.Tests.{ne_eqb}
use Rattle.edits.proofs.edit.width.Goals as goal

pub returns-in-2 : goal.returns-in-2
unfolding width_of
returns-in-2 c = rw c.in-2.is refl

pub returns-in-3 : goal.returns-in-3
unfolding width_of
returns-in-3 c = rw c.in-3.is refl

pub returns-in_default : goal.returns-in_default
unfolding width_of
returns-in_default c =
    let n : c.args.class ≡ class_n → ⊥ = λ e. omega arith in
    let m : c.args.class ≡ class_m → ⊥ = λ e. omega arith in
    simp (ne_eqb _ _ n, ne_eqb _ _ m)
