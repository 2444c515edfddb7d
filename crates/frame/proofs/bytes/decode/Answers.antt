-- `frame::bytes::decode` meets its contract. The loop's invariant: to store the bytes that are left, from here, gives what storing all gives. Assumes nothing.
use Rattle.std.proofs.Common.{refl, arith}
use Rattle.frame.proofs.HexLaws.{nib_below}
use Rattle.frame.proofs.StoreLaws.{left_start, left_store}
use Rattle.frame.proofs.DecodeLaws.{bytes_on, byte_here, decoded_all}
use Rattle.frame.proofs.bytes.decode.Goals as goal

pub loop-i-init : goal.loop-i-init
loop-i-init c = left_start _ _ _

pub overflow_mul-frame : goal.overflow_mul-frame
overflow_mul-frame c = omega (arith, nib_below _ c.nibble.ensures)

pub overflow_add-frame : goal.overflow_add-frame
overflow_add-frame c = omega (arith, nib_below _ c.nibble.ensures, nib_below _ c.nibble-in-loop-i.ensures)

pub loop-i-preserved : goal.loop-i-preserved
loop-i-preserved c =
    left_store c.loop-i.invariant (bytes_on _ _ _ (omega arith) c.loop-i-test.true) (byte_here _ _ _ (omega arith) c.loop-i-test.true c.nibble.ensures c.nibble-in-loop-i.ensures) refl

pub returns : goal.returns
returns c = decoded_all _ _ _ c.min-n.ensures c.loop-i.invariant c.loop-i-test.false c.loop-i.auto.i-end
