-- `edits::flank::Flank::check` meets its contract: the variant that was matched says the answer. Assumes nothing.
use Rattle.edits.proofs.flank.Flank.check.Goals as goal

pub returns-in-Open : goal.returns-in-Open
returns-in-Open c = rw c.in-Open.is c.check_open.ensures
