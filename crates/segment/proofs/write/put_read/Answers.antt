-- `segment::write::put_read` meets its contract: of one piece as without splices, `ready_one_bases`. Assumes nothing.
use native.Mathlib.Omega.{arith}
use mathlib.Core.Path.{◌≡◌, ap}
use lib.ListN.{length}
use Rattle.writing.proofs.LayLaws.{laid_as}
use Rattle.segment.proofs.WriteLaws.{ready_one_bases}
use Rattle.segment.proofs.write.put_read.Goals as goal

pub write-requires : goal.write-requires
write-requires c = let one : c.args.p.splices.count ≡ 1 = omega (arith, c.if-pieces-lt2.true, c.pieces.ensures.0, c.requires.ready_aligned.pieced.least) in record { clips_in_bounds = (c.requires.ready_aligned.clipped, c.requires.ready_aligned.pieced.framed); block_in_bounds = omega (arith, c.requires.p_in_bounds, ap length (ready_one_bases c.args.unit c.args.reference.now c.args.symbols.now c.args.frame.now c.args.p one)) }

pub returns-then-pieces-lt2 : goal.returns-then-pieces-lt2
returns-then-pieces-lt2 c = let one : c.args.p.splices.count ≡ 1 = omega (arith, c.if-pieces-lt2.true, c.pieces.ensures.0, c.requires.ready_aligned.pieced.least) in laid_as (ready_one_bases c.args.unit c.args.reference.now c.args.symbols.now c.args.frame.now c.args.p one) c.write.ensures

pub put_bases-requires : goal.put_bases-requires
put_bases-requires c = record { ready_aligned = (c.requires.ready_aligned, (omega (arith, c.pieces.ensures.0, c.if-pieces-lt2.false), c.pieces.ensures.1)); p_in_bounds = c.requires.p_in_bounds }

pub returns : goal.returns
returns c = c.put_bases.ensures
