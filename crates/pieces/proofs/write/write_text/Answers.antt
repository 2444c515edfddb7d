-- `pieces::write::write_text` meets its contract. The loop's invariant: to lay the text of the pieces that are left, from here, gives what laying the whole gives. Assumes nothing.
use mathlib.Core.Path.{◌∙◌}
use native.Mathlib.Nat.{sub-add-eq, add-sub_cancel}
use Rattle.writing.proofs.LayLaws.{rest_start, rest_put, rest_end}
use Rattle.pieces.proofs.WalkingLaws.{more_left, last_only}
use Rattle.pieces.proofs.WriteLaws.{on_start, all_left, on_ready, on_stands, on_able, on_next, text_more, text_last, text_room, ordered_here, ordered_more}
use Rattle.pieces.proofs.write.write_text.Goals as goal

pub first_piece-w-requires : goal.first_piece-w-requires
first_piece-w-requires c = c.requires.walk_begun.begun

pub loop-init : goal.loop-init
loop-init c = let all = all_left _ _ _ _ _ _ _ _ _ c.requires.walk_begun c.run_of-run.ensures c.first_piece-w.ensures in rw add-sub_cancel (on_start _ _ _ _ _ _ _ _ _ c.requires.walk_begun c.requires.each_piece.0 c.run_of-run.ensures c.first_piece-w.ensures, (rw all c.requires.each_piece.1, (rest_start _ _ _, rw all c.requires.position_in_bounds)))

pub put_text-next-requires : goal.put_text-next-requires
put_text-next-requires c = record { ready_piece = on_ready _ _ _ _ _ _ _ c.loop.invariant.0; standing = (on_stands _ _ _ _ _ _ _ c.loop.invariant.0, ordered_here _ _ _ _ _ _ _ c.loop.invariant.0 c.args.block.rcomp _ c.loop.invariant.1.0); w_in_bounds = text_room _ _ _ _ _ _ _ c.loop.invariant.0 _ _ c.loop.invariant.1.1.0 c.loop.invariant.1.1.1 }

pub least_behind-least-requires : goal.least_behind-least-requires
least_behind-least-requires c = record { ready_piece = on_ready _ _ _ _ _ _ _ c.loop.invariant.0; standing = on_stands _ _ _ _ _ _ _ c.loop.invariant.0 }

pub next_piece-w-requires : goal.next_piece-w-requires
next_piece-w-requires c = on_able _ _ _ _ _ _ _ c.loop.invariant.0 (more_left c.loop-test.true)

pub loop-preserved : goal.loop-preserved
loop-preserved c = let g = c.loop.invariant in let more = more_left c.loop-test.true in let on = c.next_piece-w.ensures in rw sub-add-eq (on_next _ _ _ _ _ _ _ g.0 more _ on.0 on.1, rw c.least_behind-least.ensures (ordered_more _ _ _ _ _ _ _ g.0 c.args.block.rcomp _ g.1.0 more _ on.0, (rest_put g.1.1.0 (text_more _ _ _ _ _ _ _ g.0 _ _ more _ on.0) c.put_text-next.ensures, g.1.1.1)))

pub put_text-requires : goal.put_text-requires
put_text-requires c = record { ready_piece = on_ready _ _ _ _ _ _ _ c.loop.invariant.0; standing = (on_stands _ _ _ _ _ _ _ c.loop.invariant.0, ordered_here _ _ _ _ _ _ _ c.loop.invariant.0 c.args.block.rcomp _ c.loop.invariant.1.0); w_in_bounds = text_room _ _ _ _ _ _ _ c.loop.invariant.0 _ _ c.loop.invariant.1.1.0 c.loop.invariant.1.1.1 }

pub shape_of-out : goal.shape_of-out
shape_of-out c = c.put_text.auto.out ∙ c.loop.invariant.1.1.0.long

pub returns : goal.returns
returns c = rw (← (all_left _ _ _ _ _ _ _ _ _ c.requires.walk_begun c.run_of-run.ensures c.first_piece-w.ensures)) (rest_end c.loop.invariant.1.1.0 (rw (text_last _ _ _ _ _ _ _ c.loop.invariant.0 _ _ (last_only c.loop-test.false)) c.put_text.ensures))
