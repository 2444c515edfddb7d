-- `block::checked::read_number` meets its contract: the field, with its limits. Assumes nothing.
use Rattle.block.specs.Checked.{number_at}
use Rattle.block.proofs.checked.read_number.Goals as goal

pub returns : goal.returns
unfolding number_at
returns c = rw c.read_u8.ensures at c.limited.ensures
