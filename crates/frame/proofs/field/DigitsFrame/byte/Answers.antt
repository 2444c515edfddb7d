-- Two digits make a byte, `unhex_at`. Assumes nothing.
use Rattle.std.proofs.Common.{◌<◌, ◌/◌, arith, length}
use Rattle.frame.proofs.HexLaws.{nib_below, length_unhex, unhex_at}
use Rattle.frame.proofs.field.DigitsFrame.byte.Goals as goal

pub overflow_mul-a : goal.overflow_mul-a
overflow_mul-a c = omega (arith, c.requires, length_unhex c.args.self.now.0.now)

pub overflow_add-a : goal.overflow_add-a
overflow_add-a c = omega (arith, c.requires, length_unhex c.args.self.now.0.now)

pub bounds-self-a : goal.bounds-self-a
bounds-self-a c = omega (arith, c.requires, length_unhex c.args.self.now.0.now)

pub bounds-self-a-2 : goal.bounds-self-a-2
bounds-self-a-2 c = omega (arith, c.requires, length_unhex c.args.self.now.0.now)

pub overflow_mul-result : goal.overflow_mul-result
overflow_mul-result c = omega (arith, nib_below _ c.nibble.ensures)

pub overflow_add-result : goal.overflow_add-result
overflow_add-result c = omega (arith, nib_below _ c.nibble.ensures, nib_below _ c.nibble-2.ensures)

pub returns : goal.returns
returns c =
    let h : c.args.i < length c.args.self.now.0.now / 2 = omega (arith, c.requires, length_unhex c.args.self.now.0.now) in
    cc (unhex_at c.args.self.now.0.now c.args.i h)
