-- The laws of a read's pieces that were accepted: each has a position inside the unit, they are in order and apart, and the reference under their matches is known.
-- Assumes nothing.
use Prim.Native.Nat.{ℕ, zero, suc, ◌+◌, ◌-◌, ◌≤◌}
use mathlib.Core.Path.{◌≡◌, refl, ap, ◌∙◌}
use mathlib.Core.Bool.{false}
use mathlib.Core.List.{List, [], ◌∷◌}
use native.Mathlib.Omega.{arith}
use native.Mathlib.Nat.{sub-zero}
use borrow.Author.Tests.{ltb-false}
use lib.Dec.{ltb}
use lib.ListN.{length}
use Rattle.refusal.specs.Answers.{no_refusal}
use Rattle.refusal.proofs.AnswerLaws.{past_checked, never_refused}
use Rattle.frame.proofs.HexLaws.{by_test}
use Rattle.unit.specs.declared.Unit.{Unit as UnitOf}
use Rattle.state.specs.Listed.{words_at}
use Rattle.frame.specs.Field.{big_at}
use Rattle.edits.specs.Edits.{block_edits}
use Rattle.edits.specs.Lengths.{mapped_length}
use Rattle.edits.specs.declared.edit.Edit.{Edit}
use Rattle.edits.specs.Pieces.{SignedPosition, straight, position_of, Piece, edits_behind, below_zero, begins_at, spliced_seg_mapped_length, end_of, pieces_from, less_first, EachPiece, nil, cons}
use Rattle.edits.specs.declared.Block.{Block}
use Rattle.splices.specs.declared.Splices.{Splices}
use Rattle.splices.specs.declared.mapping.Mapping.{Mapping}
use Rattle.splices.specs.Located.{position_in, positions_from, first_mapping, pieces_in}
use Rattle.ecigar.specs.Spliced.{Apart, last_piece}
use Rattle.bases.specs.Spliced.{piece_refusal}
use Rattle.pieces.specs.Placed.{piece_out, placed_piece, least_behind, pieces_refusal}
use Rattle.pieces.specs.Code.Written.{Ordered}
use Rattle.pieces.proofs.PlaceLaws.{Inside, place_inside}

-- ---- a piece that is not refused

pub record PiecePlaced (u : UnitOf) (reference : List ℕ) (least : ℕ) (p : Piece) : Type 0 where
  pub straightly : below_zero p.at ≡ false
  pub behind : least ≤ begins_at p
  pub inside : Inside u.start u.end (begins_at p) (spliced_seg_mapped_length p)
  pub known : piece_refusal u.alphabet reference u.first p ≡ no_refusal

piece_placed : (u : UnitOf) (reference : List ℕ) (least : ℕ) (p : Piece) → placed_piece u reference least p ≡ no_refusal → PiecePlaced u reference least p
unfolding piece_out
piece_placed u reference least p z =
    let f = past_checked (piece_out u least p) (piece_refusal u.alphabet reference u.first p) tt z in
    by_test (below_zero p.at) (λ t. never_refused (simp t at f.0))
    (λ t. by_test (ltb (begins_at p) least) (λ d. never_refused (simp (t, d) at f.0))
    (λ d.
    record {
      straightly = t;
      behind = ltb-false _ _ d;
      inside = place_inside u.start u.end (begins_at p) (spliced_seg_mapped_length p) (simp (t, d) at f.0);
      known = f.1;
    }))

-- ---- all of them

unfoldable pub AllPlaced : UnitOf → (reference : List ℕ) (least : ℕ) → List Piece → Type 0
AllPlaced u reference least [] = Unit
AllPlaced u reference least (p ∷ ps) = PiecePlaced u reference least p × AllPlaced u reference (least_behind p) ps

pub all_placed : (u : UnitOf) (reference : List ℕ) (least : ℕ) (ps : List Piece) → pieces_refusal u reference least ps ≡ no_refusal → AllPlaced u reference least ps
unfolding pieces_refusal AllPlaced
all_placed u reference least [] z = tt
all_placed u reference least (p ∷ ps) z =
    let f = past_checked (placed_piece u reference least p) (pieces_refusal u reference (least_behind p) ps) tt z in
    (piece_placed u reference least p f.0, all_placed u reference (least_behind p) ps f.1)

-- what holds of each that is placed
pub placed_each : (u : UnitOf) (reference : List ℕ) (P : Piece → Type 0) → ((least : ℕ) (p : Piece) → PiecePlaced u reference least p → P p) → (least : ℕ) (ps : List Piece) → AllPlaced u reference least ps → EachPiece P ps
unfolding AllPlaced
placed_each u reference P f least [] a = nil
placed_each u reference P f least (p ∷ ps) a = cons p (f least p a.0) (placed_each u reference P f (least_behind p) ps a.1)

pub placed_ordered : (u : UnitOf) (reference : List ℕ) (least : ℕ) (ps : List Piece) → AllPlaced u reference least ps → Ordered least ps
unfolding AllPlaced Ordered
placed_ordered u reference least [] a = tt
placed_ordered u reference least (p ∷ ps) a = (a.0.behind, placed_ordered u reference (least_behind p) ps a.1)

-- pieces in order and apart
pub placed_apart : (u : UnitOf) (reference : List ℕ) (end : ℕ) (ps : List Piece) → AllPlaced u reference (end + 1) ps → Apart end ps
unfolding AllPlaced Apart
placed_apart u reference end [] a = tt
placed_apart u reference end (p ∷ ps) a = (omega (arith, a.0.behind), placed_apart u reference (end_of p) ps a.1)

-- the last of them ends inside the unit
pub placed_last : (u : UnitOf) (reference : List ℕ) (least : ℕ) (p : Piece) (ps : List Piece) → AllPlaced u reference least (p ∷ ps) → end_of (last_piece p ps) ≤ u.end + 1
unfolding AllPlaced last_piece
placed_last u reference least p [] a = a.0.inside.last
placed_last u reference least p (q ∷ ps) a = placed_last u reference (least_behind p) q ps a.1

-- ---- the first piece stands where the read does

-- pieces of which the first maps to a position
pub record Begins (l : List Piece) (at : SignedPosition) : Type 0 where
  pub piece : Piece
  pub others : List Piece
  pub are : l ≡ piece ∷ others
  pub at_is : piece.at ≡ at

first_of : (mapped : ℕ) (es : List Edit) (symbols : List ℕ) (m : Mapping) (x n : ℕ) (ns : List ℕ) → Begins (pieces_from mapped 0 es (x ∷ ns) (positions_from symbols m (n ∷ ns))) (position_in m)
unfolding pieces_from positions_from
first_of mapped es symbols m x n [] = record { piece = _; others = _; are = refl; at_is = refl }
first_of mapped es symbols m x n (k ∷ ks) = record { piece = _; others = _; are = refl; at_is = refl }

pub begins : (class alphabet : ℕ) (frame symbols : List ℕ) (b : Block) (s : Splices) (position : ℕ) → 1 ≤ s.count → Begins (pieces_in class alphabet frame symbols b s position) (straight position)
unfolding pieces_in words_at less_first
begins class alphabet frame symbols b s position h = by s.count refl h
  where
    by : (k : ℕ) → s.count ≡ k → 1 ≤ k → Begins (pieces_in class alphabet frame symbols b s position) (straight position)
    by zero e l = absurd (omega arith)
    by (suc k) e l =
        rw e
        (first_of (mapped_length b.length b.clips) (block_edits class alphabet frame b) symbols (first_mapping s position) (big_at 2 frame s.lengths_at - b.clips.left_soft) (big_at 2 frame s.lengths_at) (words_at k frame (s.lengths_at + 2)))

-- a read whose pieces are placed begins inside the unit
pub placed_begins : (u : UnitOf) (reference : List ℕ) (position : ℕ) (l : List Piece) → Begins l (straight position) → AllPlaced u reference 0 l → (u.start ≤ position) × (position ≤ u.end)
unfolding AllPlaced
placed_begins u reference position l b a =
    let i = rw b.are at a in
    let at : begins_at b.piece ≡ position = ap (λ (x : SignedPosition). position_of x) b.at_is ∙ sub-zero position in
    (omega (arith, i.0.inside.from), omega (arith, i.0.inside.to))

-- ---- no more pieces than lengths

pub pieces_few : (mapped start : ℕ) (es : List Edit) (lengths : List ℕ) (positions : List SignedPosition) → length (pieces_from mapped start es lengths positions) ≤ length lengths
unfolding pieces_from
pieces_few mapped start es [] ps = omega arith
pieces_few mapped start es (n ∷ ns) [] = omega arith
pieces_few mapped start es (n ∷ []) (p ∷ ps) = omega arith
pieces_few mapped start es (n ∷ m ∷ ns) (p ∷ ps) = omega (arith, pieces_few mapped (start + n) (edits_behind (start + n) es) (m ∷ ns) ps)
