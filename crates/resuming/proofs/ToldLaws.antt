-- What the code says of the last line, turned into a place.
-- Assumes nothing.
use mathlib.Core.Path.{◌≡◌}
use Rattle.refusal.specs.declared.Refusal.TheVariants.{OtherLast}
use Rattle.listing.specs.Resuming.{Last, go_on, whole, bad, on_last}
use Rattle.resuming.specs.Last.{said_of, placed_of}
use Rattle.resuming.specs.declared.last.LastSays.{LastSays}
use Rattle.resuming.specs.declared.last.LastSays.TheVariants.{GoOn, Whole, Bad}
use Rattle.resuming.specs.declared.place.Go.{Go}
use Rattle.resuming.specs.declared.place.Go.TheVariants.{On, Over, Refused}

abbrev go_by : LastSays → Go
go_by (GoOn s) = On s
go_by Whole = Over
go_by Bad = Refused OtherLast

pub placed_told : (t : Last) (r : LastSays) → r ≡ said_of t → go_by r ≡ placed_of (on_last t)
unfolding said_of placed_of
placed_told (go_on s) r e = rw e
placed_told whole r e = rw e
placed_told bad r e = rw e
