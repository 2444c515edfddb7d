-- `pieces::write::write_bases` meets its contract. The loop's invariant: to lay the bases of the pieces that are left, from here, gives what laying the whole gives. Assumes nothing.
use mathlib.Core.Path.{◌∙◌}
use native.Mathlib.Nat.{sub-add-eq, add-sub_cancel}
use Rattle.writing.proofs.LayLaws.{rest_start, rest_put, rest_end}
use Rattle.pieces.proofs.WalkingLaws.{more_left, last_only}
use Rattle.pieces.proofs.WriteLaws.{on_start, all_left, on_ready, on_stands, on_able, on_next, bases_more, bases_last, pieces_room}
use Rattle.pieces.proofs.write.write_bases.Goals as goal

pub first_piece-w-requires : goal.first_piece-w-requires
first_piece-w-requires c = c.requires.walk_begun.begun

pub loop-init : goal.loop-init
loop-init c = rw add-sub_cancel (on_start _ _ _ _ _ _ _ _ _ c.requires.walk_begun c.requires.each_piece c.run_of-run.ensures c.first_piece-w.ensures, (rest_start _ _ _, rw (all_left _ _ _ _ _ _ _ _ _ c.requires.walk_begun c.run_of-run.ensures c.first_piece-w.ensures) c.requires.position_in_bounds))

pub put_bases-next-requires : goal.put_bases-next-requires
put_bases-next-requires c = record { ready_piece = on_ready _ _ _ _ _ _ _ c.loop.invariant.0; standing = on_stands _ _ _ _ _ _ _ c.loop.invariant.0; w_in_bounds = pieces_room _ _ _ _ _ _ _ c.loop.invariant.0 _ _ c.loop.invariant.1.0 c.loop.invariant.1.1 }

pub next_piece-w-requires : goal.next_piece-w-requires
next_piece-w-requires c = on_able _ _ _ _ _ _ _ c.loop.invariant.0 (more_left c.loop-test.true)

pub loop-preserved : goal.loop-preserved
loop-preserved c = rw sub-add-eq (on_next _ _ _ _ _ _ _ c.loop.invariant.0 (more_left c.loop-test.true) _ c.next_piece-w.ensures.0 c.next_piece-w.ensures.1, (rest_put c.loop.invariant.1.0 (bases_more _ _ _ _ _ _ _ c.loop.invariant.0 _ _ (more_left c.loop-test.true) _ c.next_piece-w.ensures.0) c.put_bases-next.ensures, c.loop.invariant.1.1))

pub put_bases-requires : goal.put_bases-requires
put_bases-requires c = record { ready_piece = on_ready _ _ _ _ _ _ _ c.loop.invariant.0; standing = on_stands _ _ _ _ _ _ _ c.loop.invariant.0; w_in_bounds = pieces_room _ _ _ _ _ _ _ c.loop.invariant.0 _ _ c.loop.invariant.1.0 c.loop.invariant.1.1 }

pub shape_of-out : goal.shape_of-out
shape_of-out c = c.put_bases.auto.out ∙ c.loop.invariant.1.0.long

pub returns : goal.returns
returns c = rw (← (all_left _ _ _ _ _ _ _ _ _ c.requires.walk_begun c.run_of-run.ensures c.first_piece-w.ensures)) (rest_end c.loop.invariant.1.0 (rw (bases_last _ _ _ _ _ _ _ c.loop.invariant.0 _ _ (last_only c.loop-test.false)) c.put_bases.ensures))
