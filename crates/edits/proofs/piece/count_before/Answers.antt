-- `edits::piece::count_before` meets its contract. The loop's invariant: those that were passed over and those that are still before the offset are all of them. Assumes nothing.
use mathlib.Core.Path.{refl, ap}
use native.Mathlib.Omega.{arith}
use native.Mathlib.Nat.{sub-add-eq}
use lib.ListN.{length}
use Rattle.edits.proofs.EditLaws.{framed_on, width_least, turns_left, turns_over}
use Rattle.edits.proofs.PieceLaws.{before_none, before_end, before_on}
use Rattle.edits.proofs.piece.count_before.Goals as goal

pub offset_at-requires : goal.offset_at-requires
offset_at-requires c = omega (arith, width_least c.args.class, (framed_on _ _ _ _ _ c.loop-before.invariant.0 refl (turns_left c.loop-before-test.true)).0)

pub returns-then-offset-from : goal.returns-then-offset-from
returns-then-offset-from c =
    let low = rw (c.from.ensures, c.offset_at.ensures) at c.if-offset-from.true in
    (omega arith, λ alphabet. omega (arith, c.loop-before.invariant.1 alphabet, ap length (before_none c.args.class alphabet _ _ _ _ (turns_left c.loop-before-test.true) low)))

pub loop-before-preserved : goal.loop-before-preserved
loop-before-preserved c =
    let more = turns_left c.loop-before-test.true in
    let high = rw (c.from.ensures, c.offset_at.ensures) at c.if-offset-from.false in
    rw (c.width-step.ensures, sub-add-eq)
    ((framed_on _ _ _ _ _ c.loop-before.invariant.0 refl more).1, λ alphabet. omega (arith, c.loop-before.invariant.1 alphabet, ap length (before_on c.args.class alphabet _ _ _ _ more high)))

pub returns : goal.returns
returns c = (omega arith, λ alphabet. omega (arith, c.loop-before.invariant.1 alphabet, ap length (before_end c.args.class alphabet c.args.frame.now _ c.loop-before.here c.args.offset (turns_over c.loop-before-test.false))))
