-- `frame::field::read_wide` meets its contract. The loop's invariant: v is the number that the first j bytes stand for, and fits into as many. Assumes nothing.
use Rattle.std.proofs.Common.{◌≡◌, ◌<◌, ◌^◌}
use Rattle.frame.specs.Field.{big_at}
use Rattle.frame.proofs.field.read_wide.Given as goal

abbrev pub invariant-loop-j : goal.invariant-loop-j
invariant-loop-j g l = (l.v ≡ big_at l.j (g.F.Frame.bytes l.frame) l.at) × (l.v < 256 ^ l.j)
