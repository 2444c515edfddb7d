-- `segment::write::put_text` meets its contract: of one piece as without splices, `ready_one_text`. Assumes nothing.
use native.Mathlib.Omega.{arith}
use mathlib.Core.Path.{◌≡◌, ap}
use lib.ListN.{length}
use Rattle.writing.proofs.LayLaws.{laid_as}
use Rattle.segment.proofs.WriteLaws.{ready_one_text}
use Rattle.segment.proofs.write.put_text.Goals as goal

pub write-requires : goal.write-requires
write-requires c = let one : c.args.p.splices.count ≡ 1 = omega (arith, c.if-pieces-lt2.true, c.pieces.ensures.0, c.requires.ready_aligned.pieced.least) in record { edits_le_most_edits = (c.requires.ready_aligned.pieced.few, c.requires.ready_aligned.pieced.framed); sound = c.requires.ready_aligned.pieced.sound; block_in_bounds = omega (arith, c.requires.p_in_bounds, ap length (ready_one_text c.requires.ready_aligned one)) }

pub returns-then-pieces-lt2 : goal.returns-then-pieces-lt2
returns-then-pieces-lt2 c = let one : c.args.p.splices.count ≡ 1 = omega (arith, c.if-pieces-lt2.true, c.pieces.ensures.0, c.requires.ready_aligned.pieced.least) in laid_as (ready_one_text c.requires.ready_aligned one) c.write.ensures

pub put_ecigar-requires : goal.put_ecigar-requires
put_ecigar-requires c = record { ready_aligned = (c.requires.ready_aligned, (omega (arith, c.pieces.ensures.0, c.if-pieces-lt2.false), c.pieces.ensures.1)); p_in_bounds = c.requires.p_in_bounds }

pub returns : goal.returns
returns c = c.put_ecigar.ensures
