-- `Last` and `Place` of Resuming as the code's values.
-- Assumes nothing.
use Rattle.state.specs.declared.State.{State}
use Rattle.state.specs.State.{fresh_state}
use Rattle.listing.specs.Resuming.{Last, go_on, whole, bad, Place, afresh, second, on, over, no}
use Rattle.resuming.specs.declared.last.LastSays.{LastSays}
use Rattle.resuming.specs.declared.last.LastSays.TheVariants.{GoOn, Whole, Bad}
use Rattle.resuming.specs.declared.place.Go.{Go}
use Rattle.resuming.specs.declared.place.Go.TheVariants.{Afresh, Second, On, Over, Refused}

-- what the last kept line says
unfoldable pub said_of : Last → LastSays
said_of (go_on s) = GoOn s
said_of whole = Whole
said_of bad = Bad

-- where to go on
unfoldable pub placed_of : Place → Go
placed_of afresh = Afresh
placed_of second = Second
placed_of (on s) = On s
placed_of over = Over
placed_of (no n) = Refused n

-- the state to go on from; a fresh one but behind an 04 line
unfoldable pub state_to : Go → State
state_to Afresh = fresh_state
state_to Second = fresh_state
state_to (On s) = s
state_to Over = fresh_state
state_to (Refused n) = fresh_state
