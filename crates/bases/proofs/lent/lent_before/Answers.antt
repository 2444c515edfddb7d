-- `bases::lent::lent_before` meets its contract. Assumes nothing.
use Rattle.bases.proofs.ReferenceLaws.{min_least}
use Rattle.bases.proofs.lent.lent_before.Goals as goal

pub returns : goal.returns
returns c = rw (c.min.ensures, c.saturating_sub.ensures, c.from.ensures) (min_least _ _)
