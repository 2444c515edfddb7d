-- `front::reference_line::lay_bases` meets its contract. The loop's invariant: to store the bases that are left, from here, gives what storing all gives. Assumes nothing.
use native.Mathlib.Omega.{arith}
use Rattle.frame.proofs.StoreLaws.{left_store, left_room, left_done}
use Rattle.front.proofs.ReferenceLaws.{bases_next, bases_none}
use Rattle.front.proofs.reference_line.lay_bases.Goals as goal

pub bounds-reference-used : goal.bounds-reference-used
bounds-reference-used c = left_room c.loop-i.invariant (bases_next _ _ c.loop-i-test.true) c.requires

pub loop-i-preserved : goal.loop-i-preserved
loop-i-preserved c = left_store c.loop-i.invariant (bases_next _ _ c.loop-i-test.true) c.byte_at.ensures (omega (arith, c.loop-i.auto.i))

pub returns : goal.returns
returns c = left_done c.loop-i.invariant (bases_none _ _ c.loop-i-test.false) c.requires
