-- `block::checked::read_count` meets its contract: the field, with its limits. Assumes nothing.
use Rattle.block.specs.Checked.{count_at}
use Rattle.block.proofs.checked.read_count.Goals as goal

pub returns : goal.returns
unfolding count_at
returns c = rw c.read_u16.ensures.0 at c.limited.ensures
