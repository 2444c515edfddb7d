-- `block::checked::read_lengths` meets its contract. The loop's invariant: to read what is left gives what reading all of them gives, and the sum has room for it. Assumes nothing.
use mathlib.Core.Path.{◌≡◌, sym, ◌∙◌}
use Prim.Native.Nat.{◌+◌, ◌-◌, ◌<◌, ◌≤◌}
use native.Mathlib.Omega.{arith}
use borrow.Author.Tests.{eq-eqb, ne_eqb}
use Rattle.std.proofs.lemmas.Result.{err_from_is_err_and}
use Rattle.frame.proofs.FieldLaws.{value_fits}
use Rattle.block.proofs.LengthLaws.{lengths_short, lengths_zero, lengths_on, lengths_end}
use Rattle.block.proofs.checked.read_lengths.Goals as goal

pub returns-in_err-v : goal.returns-in_err-v
returns-in_err-v c =
    let more : 0 < c.args.count - c.loop.counter = omega (arith, c.loop-test.true) in
    let p = err_from_is_err_and c.from_residual.result c.from_residual.ensures.1 in
    rw (p.1, p.2) (sym (lengths_short _ _ c.loop.sum _ _ _ more (sym c.read_u16.ensures.0 ∙ c.in_err-v.was)) ∙ c.loop.invariant.1)

pub returns-then-v-lt1 : goal.returns-then-v-lt1
returns-then-v-lt1 c =
    let more : 0 < c.args.count - c.loop.counter = omega (arith, c.loop-test.true) in
    sym (lengths_zero _ _ c.loop.sum _ _ _ _ more (sym c.read_u16.ensures.0 ∙ c.in_ok-v.was) c.if-v-lt1.true) ∙ c.loop.invariant.1

pub loop-preserved : goal.loop-preserved
loop-preserved c =
    let more : 0 < c.args.count - c.loop.counter = omega (arith, c.loop-test.true) in
    let turn : c.args.count - (c.loop.counter + 1) ≡ c.args.count - c.loop.counter - 1 = omega arith in (
      omega (arith, c.loop.invariant.0, c.loop-test.true, value_fits 2 _ _ c.read_u16.ensures.1 c.in_ok-v.was),
      rw turn (sym (lengths_on _ _ c.loop.sum _ _ _ _ more (sym c.read_u16.ensures.0 ∙ c.in_ok-v.was) c.if-v-lt1.false) ∙ c.loop.invariant.1),
    )

pub returns-then-sum-length : goal.returns-then-sum-length
returns-then-sum-length c =
    let none : c.args.count - c.loop.counter ≤ 0 = omega (arith, c.loop-test.false) in
    simp (ne_eqb c.loop.sum c.args.length c.if-sum-length.true) at (sym (lengths_end _ _ c.loop.sum _ _ none) ∙ c.loop.invariant.1)

pub returns : goal.returns
returns c =
    let none : c.args.count - c.loop.counter ≤ 0 = omega (arith, c.loop-test.false) in
    simp (eq-eqb c.loop.sum c.args.length c.if-sum-length.false) at (sym (lengths_end _ _ c.loop.sum _ _ none) ∙ c.loop.invariant.1)
