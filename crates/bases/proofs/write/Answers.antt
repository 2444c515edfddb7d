-- `bases::write` meets its contract: left soft clip, mapped bases, right soft clip, `text_pieces`. Assumes nothing.
use native.Mathlib.Omega.{arith}
use Rattle.writing.proofs.LayLaws.{laid_as, laid_then}
use Rattle.bases.proofs.BasesLaws.{text_pieces, room_left, room_mapped, room_right}
use Rattle.bases.proofs.write.Goals as goal

pub overflow_add-right : goal.overflow_add-right
overflow_add-right c = omega (arith, c.requires.clips_in_bounds.0)

pub overflow_add-end : goal.overflow_add-end
overflow_add-end c = omega (arith, c.requires.clips_in_bounds.0)

pub put_soft-mapped-requires : goal.put_soft-mapped-requires
put_soft-mapped-requires c =
    record { start_le_end = (omega arith, omega (arith, c.requires.clips_in_bounds.0)); start_in_bounds = room_left _ _ _ _ _ _ c.args.block c.run_of-run.ensures c.args.out.now _ c.requires.block_in_bounds }

pub put_run-behind-requires : goal.put_run-behind-requires
put_run-behind-requires c =
    record { class_in_bounds = rw c.run_of-run.ensures c.requires.clips_in_bounds.1; edits_at_in_bounds = room_mapped _ _ _ _ _ _ c.args.block c.run_of-run.ensures _ _ c.requires.block_in_bounds c.put_soft-mapped.ensures }

pub put_soft-requires : goal.put_soft-requires
put_soft-requires c =
    record { start_le_end = (omega arith, omega (arith, c.requires.clips_in_bounds.0)); start_in_bounds = room_right _ _ _ _ _ _ c.args.block c.run_of-run.ensures _ _ c.requires.block_in_bounds c.put_soft-mapped.ensures c.put_run-behind.ensures }

pub returns : goal.returns
returns c =
    laid_as (text_pieces _ _ _ _ _ _ c.args.block c.run_of-run.ensures) (laid_then (laid_then c.put_soft-mapped.ensures c.put_run-behind.ensures) c.put_soft.ensures)
