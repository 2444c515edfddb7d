-- `opening::files::read_reference` meets its contract, and ends. Assumes nothing.
use Rattle.std.proofs.Common.{arith, sym}
use Rattle.opening.proofs.FrontLaws.{reference_grows}
use Rattle.opening.proofs.files.read_reference.Goals as goal

pub loop-line-smaller : goal.loop-line-smaller
loop-line-smaller c =
    let w = reference_grows _ _ _ _ (sym c.in-Ok.ensures.value) in
    omega (arith, w.more, w.most)

pub loop-line-preserved : goal.loop-line-preserved
loop-line-preserved c =
    let w = reference_grows _ _ _ _ (sym c.in-Ok.ensures.value) in
    record { buf = omega arith; reference = omega arith; fits = omega (arith, w.room) }
