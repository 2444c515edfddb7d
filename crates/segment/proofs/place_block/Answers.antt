-- `segment::place_block` meets its contract: how many pieces it has picks the way. Assumes nothing.
use native.Mathlib.Omega.{arith}
use Rattle.segment.proofs.place_block.Goals as goal

pub place_whole-requires : goal.place_whole-requires
place_whole-requires c = (c.requires.tallied, omega (arith, c.pieces.ensures.0, c.if-pieces-lt2.true))

pub returns-then-pieces-lt2 : goal.returns-then-pieces-lt2
returns-then-pieces-lt2 c = c.place_whole.ensures _

pub place_pieces-requires : goal.place_pieces-requires
place_pieces-requires c = record { tallied = (c.requires.tallied, (omega (arith, c.pieces.ensures.0, c.if-pieces-lt2.false), c.pieces.ensures.1)); position_bound = c.requires.position_bound }

pub returns : goal.returns
returns c = c.place_pieces.ensures
