-- `block::checked::read_length` meets its contract: the field, with its limits. Assumes nothing.
use Rattle.block.specs.Checked.{length_at}
use Rattle.block.proofs.checked.read_length.Goals as goal

pub returns : goal.returns
unfolding length_at
returns c = rw c.read_u16.ensures.0 at c.limited.ensures
