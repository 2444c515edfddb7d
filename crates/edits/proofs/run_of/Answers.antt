-- `edits::run_of` meets its contract: the run has what the block has, and the mapped length that the call answers. Assumes nothing.
use Rattle.edits.proofs.run_of.Goals as goal

pub returns : goal.returns
returns c = simp c.mapped_length.ensures
