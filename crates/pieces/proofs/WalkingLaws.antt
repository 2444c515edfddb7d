-- The laws of walking over a read's pieces: each is ready to be looked at, and those behind it can be walked over in their turn.
-- Assumes nothing.
use Prim.Native.Nat.{ℕ, ◌+◌, ◌-◌, ◌<◌, ◌≤◌}
use mathlib.Core.Path.{◌≡◌, sym, subst}
use mathlib.Core.List.{List, [], ◌∷◌}
use native.Mathlib.Omega.{arith}
use native.Mathlib.Nat.{add-mul}
use borrow.Author.Tests.{ltb-true, ltb-false}
use lib.Dec.{ltb}
use Rattle.frame.proofs.Tests.{by_test}
use Rattle.alphabet.specs.Table35.{size_of}
use Rattle.edits.specs.Edits.{width_of}
use Rattle.edits.specs.Pieces.{Piece, EachPiece, cons, Spans}
use Rattle.edits.proofs.PieceLaws.{PieceSound}
use Rattle.splices.specs.declared.walk.PieceWalk.{PieceWalk}
use Rattle.splices.specs.declared.mapping.Mapping.{Mapping}
use Rattle.splices.specs.Code.Mapping.{RoomFor}
use Rattle.splices.specs.Code.Walk.{piece_here, pieces_left, next_piece, Walkable}
use Rattle.splices.proofs.WalkLaws.{pieces_last, pieces_on, next_cut, next_kept}
use Rattle.bases.proofs.SplicedLaws.{spans_order}
use Rattle.pieces.specs.Code.Checked.{ReadyPiece, Walking}

-- ---- the first of some pieces, and the others

pub each_first : {P : Piece → Type 0} {p : Piece} {ps : List Piece} → EachPiece P (p ∷ ps) → P p
each_first (cons _ h more) = h

pub each_others : {P : Piece → Type 0} {p : Piece} {ps : List Piece} → EachPiece P (p ∷ ps) → EachPiece P ps
each_others (cons _ h more) = more

pub spans_others : (from to : ℕ) (p : Piece) (ps : List Piece) → Spans from (p ∷ ps) to → Spans p.until ps to
unfolding Spans
spans_others from to p ps s = s.1

-- room for fewer steps
room_less : (k n : ℕ) (m : Mapping) → k ≤ n → RoomFor n m → RoomFor k m
room_less k n m h r =
    record { above = omega (arith, r.above); below = omega (arith, r.below); codes = omega (arith, r.codes); deltas = omega (arith, r.deltas); places = omega (arith, r.places) }

module _ (class alphabet : ℕ) (frame symbols : List ℕ) (mapped : ℕ) (w : PieceWalk) (g : Walking class alphabet frame symbols mapped w) where
  -- what is behind a piece
  pub behind_last : w.left ≤ 1 → pieces_left class alphabet frame symbols mapped w ≡ piece_here class alphabet frame w ∷ []
  behind_last h = pieces_last class alphabet frame symbols mapped w g.cut h

  pub behind_more : 2 ≤ w.left → pieces_left class alphabet frame symbols mapped w ≡ piece_here class alphabet frame w ∷ pieces_left class alphabet frame symbols mapped (next_piece class frame symbols mapped w)
  behind_more h = pieces_on class alphabet frame symbols mapped w g.cut h

  each_more : 2 ≤ w.left → EachPiece (PieceSound (size_of alphabet)) (piece_here class alphabet frame w ∷ pieces_left class alphabet frame symbols mapped (next_piece class frame symbols mapped w))
  each_more h = rw (behind_more h) at g.each

  spans_more : 2 ≤ w.left → Spans w.start (piece_here class alphabet frame w ∷ pieces_left class alphabet frame symbols mapped (next_piece class frame symbols mapped w)) mapped
  spans_more h = rw (behind_more h) at g.spans

  until_within : w.until ≤ mapped
  until_within =
      by_test (ltb w.left 2)
      (λ t. omega (arith, (g.cut.last (omega (arith, ltb-true w.left 2 t))).0))
      (λ t. let h = ltb-false w.left 2 t in spans_order _ _ (each_others (each_more h)) (spans_others _ _ _ _ (spans_more h)))

  own_sound : PieceSound (size_of alphabet) (piece_here class alphabet frame w)
  own_sound =
      by_test (ltb w.left 2)
      (λ t. each_first (rw (behind_last (omega (arith, ltb-true w.left 2 t))) at g.each))
      (λ t. each_first (each_more (ltb-false w.left 2 t)))

  pub walking_ready : ReadyPiece class alphabet frame w
  walking_ready =
      record {
        typed = g.typed;
        few = omega (arith, g.few);
        short = omega (arith, until_within, g.short);
        framed = omega (arith, g.framed, add-mul w.edits w.behind (width_of class));
        sound = own_sound;
      }

  module _ (h : 2 ≤ w.left) where
    pub walking_able : Walkable class frame w
    walking_able =
        record {
          more = h;
          lengths = omega (arith, g.lengths);
          short = omega (arith, until_within, g.short);
          framed = g.framed;
          roomy = room_less 1 w.left w.mapping (omega arith) g.roomy;
        }

    abbrev next : PieceWalk
    next = next_piece class frame symbols mapped w

    pub walking_on : RoomFor (w.left - 1) next.mapping → Walking class alphabet frame symbols mapped next
    walking_on room =
        let k = next_kept class alphabet frame symbols mapped w g.cut h in
        record {
          typed = g.typed;
          cut = next_cut class alphabet frame symbols mapped w g.cut h until_within;
          many = omega (arith, g.many, k.left_is);
          short = g.short;
          few = omega (arith, g.few, k.edits_are);
          framed = rw (k.edits_are, k.place_is) (omega (arith, g.framed, add-mul w.edits w.behind (width_of class)));
          lengths = omega (arith, g.lengths, k.left_is, k.lengths_is);
          each = each_others (each_more h);
          spans = subst (λ (n : ℕ). Spans n (pieces_left class alphabet frame symbols mapped next) mapped) (sym k.start_is) (spans_others _ _ _ _ (spans_more h));
          roomy = rw k.left_is room;
        }

    pub next_left : next.left ≡ w.left - 1
    next_left = (next_kept class alphabet frame symbols mapped w g.cut h).left_is

-- ---- a loop over all pieces but the last, which counts from 1

-- in a turn two are left or more, and behind it the last
pub more_left : {n i : ℕ} → i < n → 1 < n + 1 - i
more_left h = omega arith

pub last_only : {n i : ℕ} → n ≤ i → n + 1 - i ≤ 1
last_only h = omega arith
