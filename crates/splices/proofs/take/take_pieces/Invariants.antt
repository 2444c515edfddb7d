-- `splices::take::take_pieces` meets its contract. The loop's invariant: the turns that are left, from here, come to what all of them come to. Assumes nothing.
use Prim.Native.Nat.{◌-◌}
use mathlib.Core.Path.{◌≡◌}
use Rattle.taking.specs.Steps.{decode}
use Rattle.splices.specs.Code.Taken.{symbols_moved, splice_turns}
use Rattle.splices.proofs.take.take_pieces.Given as goal

abbrev pub invariant-loop : goal.invariant-loop
invariant-loop l = symbols_moved (decode l.symbols l.counts l.here (splice_turns (l.pieces - l.counter))) ≡ symbols_moved (decode l.symbols l.counts l.fn.state (splice_turns l.pieces))
