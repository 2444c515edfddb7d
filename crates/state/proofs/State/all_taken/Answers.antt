-- `state::State::all_taken` meets its contract: the two lists of numbers are compared as they are. Assumes nothing.
use Rattle.std.proofs.Common.{rules}
use Rattle.state.proofs.StateLaws.{same_pointwise}
use Rattle.state.proofs.State.all_taken.Goals as goal

pub returns : goal.returns
returns c = search (rules, same_pointwise)
