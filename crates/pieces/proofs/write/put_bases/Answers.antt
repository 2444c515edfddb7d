-- `pieces::write::put_bases` meets its contract. Assumes nothing.
use Rattle.pieces.proofs.write.put_bases.Goals as goal

pub write_piece-requires : goal.write_piece-requires
write_piece-requires c = record { class_in_bounds = rw c.run_here-run.ensures (c.requires.ready_piece.framed); edits_at_in_bounds = rw c.run_here-run.ensures (c.requires.w_in_bounds) }

pub returns : goal.returns
returns c = rw c.run_here-run.ensures at c.write_piece.ensures
