-- The laws of a segment's place: one that was accepted begins inside its unit.
-- Assumes nothing.
use mathlib.Core.Path.{◌≡◌}
use mathlib.Core.List.{List}
use Prim.Native.Nat.{ℕ, ◌≤◌}
use Rattle.std.specs.Prelude.{Ok}
use Rattle.refusal.proofs.AnswerLaws.{past_ok, past_checked}
use Rattle.frame.specs.declared.field.Cursor.{Cursor}
use Rattle.unit.specs.declared.Unit.{Unit}
use Rattle.pieces.specs.Placed.{pieces_refusal}
use Rattle.block.specs.Aligned.{aligned_at}
use Rattle.block.specs.Code.Ready.{ReadyHead}
use Rattle.block.proofs.ReadyLaws.{block_ready}
use Rattle.segment.specs.Segment.{block_pieces, placed, placed_at}
use Rattle.block.specs.declared.head.BlockHead.{BlockHead}
use Rattle.segment.specs.declared.Segment.{Segment}
use Rattle.segment.proofs.PlacedLaws.{all_placed, begins, placed_begins}

pub placed_inside : (u : Unit) (reference symbols frame : List ℕ) (position : ℕ) (h : BlockHead) (p : Segment) (next : Cursor) → ReadyHead u.class frame h → placed_at u reference symbols frame position h ≡ Ok (p, next)
    → (u.start ≤ position) × (position ≤ u.end)
unfolding placed_at placed
placed_inside u reference symbols frame position h p next r q =
    let b = past_ok (aligned_at u.class u.alphabet frame h) _ (p, next) q in
    let z = past_checked (pieces_refusal u reference 0 (block_pieces u symbols frame position b.value)) _ (p, next) b.rest in
    placed_begins u reference position (block_pieces u symbols frame position b.value)
    (begins u.class u.alphabet frame symbols b.value.block b.value.splices position (block_ready u.class u.alphabet frame h b.value r b.accepted).splices.least)
    (all_placed u reference 0 (block_pieces u symbols frame position b.value) z.0)
