-- `segment::spliced::put_ecigar` meets its contract: left clip, pieces with their splices, right clip. Assumes nothing.
use mathlib.Core.Path.{sym, ap}
use native.Mathlib.Omega.{arith}
use lib.ListN.{length, length-append}
use Rattle.writing.proofs.LayLaws.{laid_as, laid_then}
use Rattle.segment.proofs.PiecedLaws.{walk_begun}
use Rattle.segment.proofs.WriteLaws.{ready_position, room_for_next, text_parts_as}
use Rattle.segment.proofs.spliced.put_ecigar.Goals as goal

pub put_clip-left-requires : goal.put_clip-left-requires
put_clip-left-requires c = let w = rw (sym (ap length (text_parts_as _ _ _ _ c.requires.ready_aligned.0))) at c.requires.p_in_bounds in let v = simp (length-append) at w in omega arith

pub write_text-right-requires : goal.write_text-right-requires
write_text-right-requires c = let w = rw (sym (ap length (text_parts_as _ _ _ _ c.requires.ready_aligned.0))) at c.requires.p_in_bounds in record { walk_begun = walk_begun _ _ _ _ _ _ c.requires.ready_aligned.0.pieced _ c.requires.ready_aligned.1.0 (ready_position c.requires.ready_aligned.0) c.requires.ready_aligned.1.1; each_piece = (c.requires.ready_aligned.0.standing, c.requires.ready_aligned.0.ordered); position_in_bounds = room_for_next _ c.put_clip-left.ensures w (simp (length-append) (omega arith)) }

pub put_clip-requires : goal.put_clip-requires
put_clip-requires c = let w = rw (sym (ap length (text_parts_as _ _ _ _ c.requires.ready_aligned.0))) at c.requires.p_in_bounds in room_for_next _ (laid_then c.put_clip-left.ensures c.write_text-right.ensures) w (simp (length-append) (omega arith))

pub returns : goal.returns
returns c = laid_as (text_parts_as _ _ _ _ c.requires.ready_aligned.0) (laid_then (laid_then c.put_clip-left.ensures c.write_text-right.ensures) c.put_clip.ensures)
