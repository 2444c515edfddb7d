-- `resuming::last::listed_last` meets its contract: whether there is a state behind the line picks the case. Assumes nothing.
use mathlib.Core.Path.{refl}
use Rattle.resuming.specs.Last.{said_of}
use Rattle.resuming.proofs.last.listed_last.Goals as goal

pub returns-in-Some : goal.returns-in-Some
unfolding said_of
returns-in-Some c = rw (← c.behind.ensures, c.in-Some.is) refl

pub returns-in-None : goal.returns-in-None
unfolding said_of
returns-in-None c = rw (← c.behind.ensures, c.in-None.is) refl
