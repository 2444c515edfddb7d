-- A segment is refused by a number of document 01's table but 17.
-- Assumes nothing.
use mathlib.Core.List.{List, [], ◌∷◌}
use Prim.Native.Nat.{ℕ, ◌+◌}
use lib.Dec.{ltb}
use Rattle.refusal.specs.declared.Refusal.TheVariants.{PositionOut}
use Rattle.refusal.proofs.RefusalLaws.{EarlyAnswer, early, after_early, checked_early}
use Rattle.frame.proofs.Tests.{one_of}
use Rattle.unit.specs.declared.Unit.{Unit as UnitOf}
use Rattle.bases.proofs.RefusalLaws.{under_early}
use Rattle.edits.specs.Pieces.{Piece, below_zero, begins_at, spliced_seg_mapped_length}
use Rattle.pieces.specs.Place.{place_refusal}
use Rattle.pieces.specs.Placed.{piece_out, least_behind, pieces_refusal}
use Rattle.block.specs.Aligned.{aligned_at}
use Rattle.block.specs.Unaligned.{unaligned_at}
use Rattle.segment.specs.Segment.{block_pieces, placed, placed_at, plain_at}
use Rattle.block.specs.declared.head.BlockHead.{BlockHead}
use Rattle.block.proofs.RefusalLaws.{aligned_early, unaligned_early}

-- ---- a segment's place

place_early : (start end position taken : ℕ) → EarlyAnswer (place_refusal start end position taken)
unfolding place_refusal
place_early start end position taken =
    one_of EarlyAnswer (ltb position start) _ _ (early PositionOut tt)
    (one_of EarlyAnswer (ltb end position) _ _ (early PositionOut tt)
    (one_of EarlyAnswer (ltb (end + 1) (position + taken)) _ _ (early PositionOut tt) tt))

-- ---- its pieces

out_early : (u : UnitOf) (least : ℕ) (p : Piece) → EarlyAnswer (piece_out u least p)
unfolding piece_out
out_early u least p =
    one_of EarlyAnswer (below_zero p.at) _ _ (early PositionOut tt)
    (one_of EarlyAnswer (ltb (begins_at p) least) _ _ (early PositionOut tt) (place_early u.start u.end (begins_at p) (spliced_seg_mapped_length p)))

pieces_early : (u : UnitOf) (reference : List ℕ) (least : ℕ) (ps : List Piece) → EarlyAnswer (pieces_refusal u reference least ps)
unfolding pieces_refusal
pieces_early u reference least [] = tt
pieces_early u reference least (p ∷ ps) =
    checked_early _ _ (checked_early _ _ (out_early u least p) (under_early u.alphabet reference u.first _ _ _)) (pieces_early u reference (least_behind p) ps)

-- ---- a segment

pub placed_early : (u : UnitOf) (reference symbols frame : List ℕ) (position : ℕ) (h : BlockHead) → EarlyAnswer (placed_at u reference symbols frame position h)
unfolding placed_at placed
placed_early u reference symbols frame position h =
    after_early (aligned_at u.class u.alphabet frame h) _ (aligned_early u.class u.alphabet frame h)
    (λ a. checked_early _ _ (pieces_early u reference 0 (block_pieces u symbols frame position a)) tt)

pub plain_early : (u : UnitOf) (frame : List ℕ) (at : ℕ) → EarlyAnswer (plain_at u frame at)
unfolding plain_at
plain_early u frame at = after_early (unaligned_at u.alphabet frame at) _ (unaligned_early u.alphabet frame at) (λ s. tt)
