-- `block::checked::read_rcomp` meets its contract: the field, with its limits. Assumes nothing.
use Rattle.block.specs.Checked.{rcomp_at}
use Rattle.block.proofs.checked.read_rcomp.Goals as goal

pub returns : goal.returns
unfolding rcomp_at
returns c = rw (c.read_u8.ensures, c.most_rcomp.ensures) at c.limited.ensures
