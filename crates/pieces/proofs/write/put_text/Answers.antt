-- `pieces::write::put_text` meets its contract. Assumes nothing.
use mathlib.Core.Path.{sym, ap}
use native.Mathlib.Omega.{arith}
use Rattle.writing.proofs.LayLaws.{laid_as, laid_then, room_next}
use Rattle.ecigar.specs.Table90.{print_all}
use Rattle.pieces.proofs.WriteLaws.{no_splice, alone_room, with_splice_lem, splice_room}
use Rattle.pieces.proofs.write.put_text.Goals as goal

pub write_piece-requires : goal.write_piece-requires
write_piece-requires c = let g = c.requires.ready_piece in rw c.run_here-run.ensures (record { class_value = g.typed; start_le_mapped = (omega (arith, g.sound.base), (g.few, g.framed)); sound = g.sound.sound; edits_at_in_bounds = alone_room _ _ _ _ _ _ c.if-least-eq0.true c.requires.w_in_bounds })

pub returns-then-least-eq0 : goal.returns-then-least-eq0
returns-then-least-eq0 c = laid_as (ap print_all (no_splice _ _ _ _ c.if-least-eq0.true)) (rw c.run_here-run.ensures at c.write_piece.ensures)

pub put_splice-next-requires : goal.put_splice-next-requires
put_splice-next-requires c = splice_room _ _ _ _ _ _ c.if-least-eq0.false c.requires.w_in_bounds

pub write_piece-requires-2 : goal.write_piece-requires-2
write_piece-requires-2 c = let g = c.requires.ready_piece in rw c.run_here-run.ensures (record { class_value = g.typed; start_le_mapped = (omega (arith, g.sound.base), (g.few, g.framed)); sound = g.sound.sound; edits_at_in_bounds = room_next _ c.put_splice-next.ensures (rw (with_splice_lem _ _ _ _ c.if-least-eq0.false) at c.requires.w_in_bounds) })

pub returns : goal.returns
returns c = laid_as (sym (with_splice_lem _ _ _ _ c.if-least-eq0.false)) (laid_then c.put_splice-next.ensures (rw c.run_here-run.ensures at c.write_piece-2.ensures))
