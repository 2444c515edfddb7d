-- `pieces::write::taken_by` meets its contract. The loop's invariant: what the edits that are left add comes, from here, to what all add. Assumes nothing.
use mathlib.Core.Path.{refl}
use native.Mathlib.Omega.{arith}
use native.Mathlib.Nat.{sub-add-eq, sub-zero}
use Rattle.edits.proofs.EditLaws.{framed_on, turns_left, turns_over}
use Rattle.pieces.proofs.WriteLaws.{reach_is, reach_most, gains_on, gains_end}
use Rattle.pieces.proofs.write.taken_by.Goals as goal

pub overflow_sub-taken : goal.overflow_sub-taken
overflow_sub-taken c = omega (arith, c.requires.sound.base)

pub loop-init : goal.loop-init
loop-init c = rw sub-zero (c.requires.framed, refl)

pub edit_at-e-requires : goal.edit_at-e-requires
edit_at-e-requires c = (framed_on c.args.frame.now c.args.unit.class _ _ _ c.loop.invariant.0 refl (turns_left c.loop-test.true)).0

pub overflow_add-taken : goal.overflow_add-taken
overflow_add-taken c = omega (arith, c.loop.invariant.1, c.gain-taken.ensures.1, reach_most _ _ _ _ c.requires, c.requires.few, c.requires.short)

pub overflow_add-at : goal.overflow_add-at
overflow_add-at c = omega (arith, (framed_on c.args.frame.now c.args.unit.class _ _ _ c.loop.invariant.0 c.width-step.ensures (turns_left c.loop-test.true)).0)

pub loop-preserved : goal.loop-preserved
loop-preserved c = rw sub-add-eq ((framed_on c.args.frame.now c.args.unit.class _ _ _ c.loop.invariant.0 c.width-step.ensures (turns_left c.loop-test.true)).1, omega (arith, c.loop.invariant.1, c.gain-taken.ensures.0, gains_on c.args.unit.class c.args.unit.alphabet c.args.frame.now _ _ _ _ c.width-step.ensures c.edit_at-e.ensures (turns_left c.loop-test.true)))

pub overflow_sub-result : goal.overflow_sub-result
overflow_sub-result c = omega (arith, c.loop.invariant.1, gains_end c.args.unit.class c.args.unit.alphabet c.args.frame.now _ c.loop.at (turns_over c.loop-test.false), reach_is _ _ _ _ c.requires)

pub returns : goal.returns
returns c = (omega (arith, c.loop.invariant.1, gains_end c.args.unit.class c.args.unit.alphabet c.args.frame.now _ c.loop.at (turns_over c.loop-test.false), reach_is _ _ _ _ c.requires), omega (arith, c.loop.invariant.1, gains_end c.args.unit.class c.args.unit.alphabet c.args.frame.now _ c.loop.at (turns_over c.loop-test.false), reach_most _ _ _ _ c.requires, c.requires.few, c.requires.short))
