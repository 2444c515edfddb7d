-- `pairing::Link::mate_position` meets its contract, by the variant of the mate. Assumes nothing.
use Rattle.pairing.proofs.Link.mate_position.Goals as goal

pub returns-in-Near-clause-value : goal.returns-in-Near-clause-value
returns-in-Near-clause-value c = rw c.in-Near.is
