-- `splices::walk::first_piece` meets its contract: its length less the left soft clip, and the position that the read has. Assumes nothing.
use Rattle.splices.specs.Code.Walk.{first_piece}
use Rattle.splices.proofs.walk.first_piece.Goals as goal

pub cut_piece-requires : goal.cut_piece-requires
cut_piece-requires c = rw c.run_of-run.ensures c.requires.framed

pub returns : goal.returns
unfolding first_piece
returns c = rw (c.run_of-run.ensures, c.word_at.ensures.0) at c.cut_piece.ensures
