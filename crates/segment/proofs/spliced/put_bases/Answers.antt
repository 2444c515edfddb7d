-- `segment::spliced::put_bases` meets its contract: left soft clip, pieces, right soft clip. Assumes nothing.
use native.Mathlib.Omega.{arith}
use mathlib.Core.Path.{sym, ap}
use lib.ListN.{length, length-append}
use Rattle.writing.proofs.LayLaws.{laid_as, laid_then}
use Rattle.bases.proofs.ReferenceLaws.{length_letters}
use Rattle.segment.proofs.PiecedLaws.{walk_begun}
use Rattle.segment.proofs.WriteLaws.{ready_position, room_for_next, read_parts_as}
use Rattle.segment.proofs.spliced.put_bases.Goals as goal

pub overflow_add-right : goal.overflow_add-right
overflow_add-right c = omega (arith, c.requires.ready_aligned.0.clipped)

pub overflow_add-end : goal.overflow_add-end
overflow_add-end c = omega (arith, c.requires.ready_aligned.0.clipped)

pub put_letters-mapped-requires : goal.put_letters-mapped-requires
put_letters-mapped-requires c = let w = rw (sym (ap length (read_parts_as c.args.unit c.args.reference.now c.args.symbols.now c.args.frame.now c.args.p))) at c.requires.p_in_bounds in record { start_le_end = (omega arith, omega (arith, c.requires.ready_aligned.0.clipped)); start_in_bounds = let v = simp (length-append, length_letters) at w in omega arith }

pub write_bases-behind-requires : goal.write_bases-behind-requires
write_bases-behind-requires c = record { walk_begun = walk_begun _ _ _ _ _ _ c.requires.ready_aligned.0.pieced _ c.requires.ready_aligned.1.0 (ready_position c.requires.ready_aligned.0) c.requires.ready_aligned.1.1; each_piece = c.requires.ready_aligned.0.standing; position_in_bounds = let w = rw (sym (ap length (read_parts_as c.args.unit c.args.reference.now c.args.symbols.now c.args.frame.now c.args.p))) at c.requires.p_in_bounds in let v = simp (length-append, length_letters) at w in room_for_next _ c.put_letters-mapped.ensures w (simp (length-append, length_letters) (omega arith)) }

pub put_letters-requires : goal.put_letters-requires
put_letters-requires c = let w = rw (sym (ap length (read_parts_as c.args.unit c.args.reference.now c.args.symbols.now c.args.frame.now c.args.p))) at c.requires.p_in_bounds in record { start_le_end = (omega arith, omega (arith, c.requires.ready_aligned.0.clipped)); start_in_bounds = room_for_next _ (laid_then c.put_letters-mapped.ensures c.write_bases-behind.ensures) w (simp (length-append, length_letters) (omega arith)) }

pub returns : goal.returns
returns c = laid_as (read_parts_as c.args.unit c.args.reference.now c.args.symbols.now c.args.frame.now c.args.p) (laid_then (laid_then c.put_letters-mapped.ensures c.write_bases-behind.ensures) c.put_letters.ensures)
