-- The laws of writing a read's pieces, one by one.
-- Assumes nothing.
use Prim.Native.Nat.{ℕ, suc, ◌+◌, ◌-◌, ◌*◌, ◌<◌, ◌≤◌}
use mathlib.Core.Path.{◌≡◌, refl, ap, ◌∙◌}
use mathlib.Core.List.{List, [], ◌∷◌, ◌++◌, append-nil}
use native.Mathlib.Omega.{arith}
use borrow.Author.Tests.{eq-eqb, ne_eqb, eqb-true, eqb-false, ltb-true, ltb-false}
use lib.Dec.{ltb, eqb}
use lib.ListN.{length, length-append}
use Rattle.frame.proofs.Tests.{by_test}
use Rattle.writing.proofs.LayLaws.{Rest, rest_room, rest_room_end}
use Rattle.alphabet.specs.Table35.{size_of}
use Rattle.edits.specs.Edits.{insertion, deletion, next_offset, Sound, taken_from, edit_list_at, edit_at, width_of}
use Rattle.edits.specs.Pieces.{Piece, begins_at, end_of, EachPiece}
use Rattle.edits.specs.declared.edit.Edit.{Edit}
use Rattle.edits.specs.declared.Block.{Block}
use Rattle.edits.specs.declared.Run.{Run}
use Rattle.edits.specs.Code.Runs.{run_of}
use Rattle.edits.proofs.EditLaws.{sound_accepted, next_deletion, next_other, edits_on, edits_none, length_edits}
use Rattle.frame.specs.Field.{big_at}
use Rattle.splices.specs.declared.walk.PieceWalk.{PieceWalk}
use Rattle.splices.specs.declared.Splices.{Splices}
use Rattle.splices.specs.Code.Mapping.{RoomFor}
use Rattle.splices.specs.Located.{pieces_in, first_mapping}
use Rattle.splices.specs.Code.Walk.{piece_here, pieces_left, first_piece, next_piece, Walkable}
use Rattle.splices.proofs.WalkLaws.{pieces_begin, cut_kept}
use Rattle.bases.specs.Spliced.{piece_bases, pieces_bases}
use Rattle.ecigar.specs.Table90.{Operation, print_all}
use Rattle.ecigar.specs.Spliced.{splice_of, piece_operations, splices_from, pieces_operations}
use Rattle.ecigar.proofs.PrintLaws.{printed_append, length_printed}
use Rattle.ecigar.proofs.SpliceLaws.{length_splice}
use Rattle.pieces.specs.Placed.{least_behind}
use Rattle.pieces.specs.Code.Checked.{splice_before, operations_behind, splice_text, text_behind, ReadyPiece, Walking, WalkBegun}
use Rattle.pieces.specs.Code.Written.{Standing, Ordered, operations_of_piece, gain_of, gains_of}
use Rattle.pieces.proofs.WalkingLaws.{each_first, each_others, behind_last, behind_more, walking_ready, walking_able, walking_on, next_left}

-- ---- the text from a piece on

-- what it is behind a piece that ends at this position
splices_behind : (alphabet rcomp end : ℕ) (ps : List Piece) → operations_behind alphabet rcomp (end + 1) ps ≡ splices_from alphabet rcomp end ps
unfolding operations_behind splice_before splices_from
splices_behind alphabet rcomp end [] = refl
splices_behind alphabet rcomp end (p ∷ ps) =
    let n : begins_at p + 1 - (end + 1) ≡ begins_at p - end = omega arith in rw (ne_eqb (end + 1) 0 (λ z. omega arith), n, splices_behind alphabet rcomp (end_of p) ps) refl

-- THE TEXT THAT IS WRITTEN is that of the pieces
pub behind_is_pieces : (alphabet rcomp : ℕ) (ps : List Piece) → operations_behind alphabet rcomp 0 ps ≡ pieces_operations alphabet rcomp ps
unfolding operations_behind splice_before pieces_operations
behind_is_pieces alphabet rcomp [] = refl
behind_is_pieces alphabet rcomp (p ∷ ps) = rw (splices_behind alphabet rcomp (end_of p) ps) refl

-- a piece's, and that of those behind it
pub behind_on : (alphabet rcomp least : ℕ) (p : Piece) (ps : List Piece)
    → print_all (operations_behind alphabet rcomp least (p ∷ ps)) ≡ print_all (operations_of_piece alphabet rcomp least p) ++ print_all (operations_behind alphabet rcomp (least_behind p) ps)
unfolding operations_behind
behind_on alphabet rcomp least p ps = printed_append (operations_of_piece alphabet rcomp least p) (operations_behind alphabet rcomp (least_behind p) ps)

pub behind_one : (alphabet rcomp least : ℕ) (p : Piece) → print_all (operations_behind alphabet rcomp least (p ∷ [])) ≡ print_all (operations_of_piece alphabet rcomp least p)
unfolding operations_behind
behind_one alphabet rcomp least p = rw (append-nil (operations_of_piece alphabet rcomp least p)) refl

-- the first piece has no splice in front of it
pub no_splice : (alphabet rcomp least : ℕ) (p : Piece) → least ≡ 0 → piece_operations alphabet p ≡ operations_of_piece alphabet rcomp least p
unfolding splice_before
no_splice alphabet rcomp least p h = rw (eq-eqb least 0 h) refl

pub alone_room : (alphabet rcomp least : ℕ) (p : Piece) (at n : ℕ) → least ≡ 0 → at + 2 * length (print_all (operations_of_piece alphabet rcomp least p)) ≤ n → at + 2 * length (print_all (piece_operations alphabet p)) ≤ n
alone_room alphabet rcomp least p at n h room = omega (arith, ap (λ (os : List Operation). length (print_all os)) (no_splice alphabet rcomp least p h))

pub with_splice_lem : (alphabet rcomp least : ℕ) (p : Piece) → (least ≡ 0 → ⊥)
    → print_all (operations_of_piece alphabet rcomp least p) ≡ print_all (splice_of rcomp (begins_at p + 1 - least) ∷ []) ++ print_all (piece_operations alphabet p)
unfolding splice_before
with_splice_lem alphabet rcomp least p h = rw (ne_eqb least 0 h) (printed_append (splice_of rcomp (begins_at p + 1 - least) ∷ []) (piece_operations alphabet p))

-- there is room for the splice where there is room for both
pub splice_room : (alphabet rcomp least : ℕ) (p : Piece) (at n : ℕ) → (least ≡ 0 → ⊥) → at + 2 * length (print_all (operations_of_piece alphabet rcomp least p)) ≤ n
    → at + 2 * length (print_all (splice_of rcomp (begins_at p + 1 - least) ∷ [])) ≤ n
splice_room alphabet rcomp least p at n h room =
    omega (arith, ap length (with_splice_lem alphabet rcomp least p h), length-append (print_all (splice_of rcomp (begins_at p + 1 - least) ∷ [])) (print_all (piece_operations alphabet p)))

-- how long it is
before_long : (rcomp least : ℕ) (p : Piece) → length (print_all (splice_before rcomp least p)) ≡ splice_text (begins_at p) least
unfolding splice_before splice_text print_all
before_long rcomp least p = by_test (eqb least 0) (λ t. rw t refl) (λ t. rw t (length_splice rcomp (begins_at p + 1 - least)))

pub text_behind_lem : (alphabet rcomp least : ℕ) (ps : List Piece) → length (print_all (operations_behind alphabet rcomp least ps)) ≡ text_behind alphabet least ps
unfolding operations_behind text_behind print_all
text_behind_lem alphabet rcomp least [] = refl
text_behind_lem alphabet rcomp least (p ∷ ps) =
    rw (behind_on alphabet rcomp least p ps, length-append, length_printed (splice_before rcomp least p) (piece_operations alphabet p), before_long rcomp least p, text_behind_lem alphabet rcomp (least_behind p) ps) refl

-- ---- how far a piece reaches

pub gains_most : (es : List Edit) → gains_of es ≤ 2 * length es
unfolding gains_of gain_of
gains_most [] = omega arith
gains_most (e ∷ es) =
    by_test (eqb e.kind insertion) (λ t. rw t (omega (arith, gains_most es)))
    (λ t. by_test (eqb e.kind deletion) (λ d. rw (t, d) (omega (arith, gains_most es))) (λ d. rw (t, d) (omega (arith, gains_most es))))

-- the edits take what their piece has of bases, one less for each insertion and one more for each deletion
gains_taken : (until symbols next : ℕ) (es : List Edit) → Sound until symbols next es → next ≤ until → taken_from until next es + length es ≡ until - next + gains_of es
unfolding taken_from gains_of gain_of Sound
gains_taken until symbols next [] s h = refl
gains_taken until symbols next (e ∷ es) s h =
    let a = sound_accepted until symbols next e es s in
    let more = gains_taken until symbols (next_offset e) es s.1 a.inside in
    by_test (eqb e.kind insertion)
    (λ t. rw t (omega (arith, more, a.order, a.inside, next_other e (λ d. omega (arith, eqb-true e.kind insertion t)))))
    (λ t.
    by_test (eqb e.kind deletion)
    (λ d. rw (t, d) (omega (arith, more, a.order, a.inside, next_deletion e (eqb-true e.kind deletion d))))
    (λ d. rw (t, d) (omega (arith, more, a.order, a.inside, next_other e (eqb-false e.kind deletion d)))))

module _ (class alphabet : ℕ) (frame : List ℕ) (w : PieceWalk) (g : ReadyPiece class alphabet frame w) where
  abbrev own : List Edit
  own = edit_list_at class alphabet frame w.edits w.edits_at

  pub reach_is : taken_from w.until w.start own + w.edits ≡ w.until - w.start + gains_of own
  reach_is = omega (arith, length_edits class alphabet frame w.edits w.edits_at, gains_taken w.until (size_of alphabet) w.start own g.sound.sound (omega (arith, g.sound.base)))

  pub reach_most : gains_of own ≤ 2 * w.edits
  reach_most = omega (arith, gains_most own, length_edits class alphabet frame w.edits w.edits_at)

-- a turn of its loop, and the end
pub gains_on : (class alphabet : ℕ) (frame : List ℕ) (k at step : ℕ) (e : Edit) → step ≡ width_of class → e ≡ edit_at class alphabet frame at → 0 < k
    → gains_of (edit_list_at class alphabet frame k at) ≡ gain_of e + gains_of (edit_list_at class alphabet frame (k - 1) (at + step))
unfolding gains_of
gains_on class alphabet frame k at step e wide it more = rw (edits_on class alphabet frame k at e it more, wide) refl

pub gains_end : (class alphabet : ℕ) (frame : List ℕ) (k at : ℕ) → k ≤ 0 → gains_of (edit_list_at class alphabet frame k at) ≡ 0
unfolding gains_of
gains_end class alphabet frame k at h = rw (edits_none class alphabet frame k at h) refl

-- ---- walking over pieces that all stand

pub record OnWalk (class alphabet : ℕ) (frame symbols : List ℕ) (mapped : ℕ) (w : PieceWalk) (left : ℕ) : Type 0 where
  pub count : w.left ≡ left
  pub walking : Walking class alphabet frame symbols mapped w
  pub each : EachPiece Standing (pieces_left class alphabet frame symbols mapped w)

pub on_start : (class alphabet : ℕ) (frame symbols : List ℕ) (b : Block) (s : Splices) (position : ℕ) (run : Run) (w : PieceWalk) → WalkBegun class alphabet frame symbols b s position
    → EachPiece Standing (pieces_in class alphabet frame symbols b s position) → run ≡ run_of b → w ≡ first_piece class frame b s position
    → OnWalk class alphabet frame symbols run.mapped w s.count
unfolding first_piece
on_start class alphabet frame symbols b s position run w g each r q =
    rw (r, q)
    record {
      count = (cut_kept class frame (run_of b) s.count 0 (big_at 2 frame s.lengths_at - b.clips.left_soft) s.lengths_at (first_mapping s position)).left_is;
      walking = g.walking;
      each = rw (pieces_begin class alphabet frame symbols b s position g.least) each;
    }

pub all_left : (class alphabet : ℕ) (frame symbols : List ℕ) (b : Block) (s : Splices) (position : ℕ) (run : Run) (w : PieceWalk) → WalkBegun class alphabet frame symbols b s position
    → run ≡ run_of b → w ≡ first_piece class frame b s position → pieces_left class alphabet frame symbols run.mapped w ≡ pieces_in class alphabet frame symbols b s position
all_left class alphabet frame symbols b s position run w g r q = rw (r, q) (pieces_begin class alphabet frame symbols b s position g.least)

module _ (class alphabet : ℕ) (frame symbols : List ℕ) (mapped : ℕ) (w : PieceWalk) (left : ℕ) (g : OnWalk class alphabet frame symbols mapped w left) where
  abbrev here : Piece
  here = piece_here class alphabet frame w

  abbrev next : PieceWalk
  next = next_piece class frame symbols mapped w

  pub on_ready : ReadyPiece class alphabet frame w
  on_ready = walking_ready class alphabet frame symbols mapped w g.walking

  pub on_last_lem : left ≤ 1 → pieces_left class alphabet frame symbols mapped w ≡ here ∷ []
  on_last_lem h = behind_last class alphabet frame symbols mapped w g.walking (omega (arith, g.count))

  pub on_more : 1 < left → pieces_left class alphabet frame symbols mapped w ≡ here ∷ pieces_left class alphabet frame symbols mapped next
  on_more h = behind_more class alphabet frame symbols mapped w g.walking (omega (arith, g.count))

  pub on_stands : Standing here
  on_stands =
      by_test (ltb 1 left)
      (λ t. each_first (rw (on_more (ltb-true 1 left t)) at g.each))
      (λ t. each_first (rw (on_last_lem (ltb-false 1 left t)) at g.each))

  pub on_able : 1 < left → Walkable class frame w
  on_able h = walking_able class alphabet frame symbols mapped w g.walking (omega (arith, g.count))

  pub on_next : 1 < left → (r : PieceWalk) → r ≡ next → ((k : ℕ) → RoomFor (suc k) w.mapping → RoomFor k r.mapping) → OnWalk class alphabet frame symbols mapped r (left - 1)
  on_next h r q room =
      let two : 2 ≤ w.left = omega (arith, g.count) in
      let n : suc (w.left - 1) ≡ w.left = omega arith in
      let kept = room (w.left - 1) (rw n g.walking.roomy) in
      rw q
      record {
        count = next_left class alphabet frame symbols mapped w g.walking two ∙ ap (λ (k : ℕ). k - 1) g.count;
        walking = walking_on class alphabet frame symbols mapped w g.walking two (rw q at kept);
        each = each_others (rw (on_more h) at g.each);
      }

  -- the bases from here on, and the text
  module _ (reference : List ℕ) (first : ℕ) where
    pub bases_more : 1 < left → (r : PieceWalk) → r ≡ next
        → pieces_bases alphabet reference first (pieces_left class alphabet frame symbols mapped w)
        ≡ piece_bases alphabet reference first here ++ pieces_bases alphabet reference first (pieces_left class alphabet frame symbols mapped r)
    unfolding pieces_bases
    bases_more h r q = rw (on_more h, q) refl

    pub bases_last : left ≤ 1 → pieces_bases alphabet reference first (pieces_left class alphabet frame symbols mapped w) ≡ piece_bases alphabet reference first here
    unfolding pieces_bases
    bases_last h = rw (on_last_lem h) (append-nil _)

    pub pieces_room : {l l₀ : List ℕ} {p p₀ : ℕ} {xs₀ : List ℕ} → Rest l p (pieces_bases alphabet reference first (pieces_left class alphabet frame symbols mapped w)) l₀ p₀ xs₀ → p₀ + 2 * length xs₀ ≤ length l₀
        → p + 2 * length (piece_bases alphabet reference first here) ≤ length l
    pieces_room t h =
        by_test (ltb 1 left)
        (λ b. rest_room (piece_bases alphabet reference first here) (pieces_bases alphabet reference first (pieces_left class alphabet frame symbols mapped next)) t (bases_more (ltb-true 1 left b) next refl) h)
        (λ b. rest_room_end t (bases_last (ltb-false 1 left b)) h)

  module _ (rcomp least : ℕ) where
    pub text_more : 1 < left → (r : PieceWalk) → r ≡ next
        → print_all (operations_behind alphabet rcomp least (pieces_left class alphabet frame symbols mapped w))
        ≡ print_all (operations_of_piece alphabet rcomp least here) ++ print_all (operations_behind alphabet rcomp (least_behind here) (pieces_left class alphabet frame symbols mapped r))
    text_more h r q = rw (on_more h, q) (behind_on alphabet rcomp least here (pieces_left class alphabet frame symbols mapped next))

    pub text_last : left ≤ 1 → print_all (operations_behind alphabet rcomp least (pieces_left class alphabet frame symbols mapped w)) ≡ print_all (operations_of_piece alphabet rcomp least here)
    text_last h = rw (on_last_lem h) (behind_one alphabet rcomp least here)

    pub text_room : {l l₀ : List ℕ} {p p₀ : ℕ} {xs₀ : List ℕ} → Rest l p (print_all (operations_behind alphabet rcomp least (pieces_left class alphabet frame symbols mapped w))) l₀ p₀ xs₀ → p₀ + 2 * length xs₀ ≤ length l₀
        → p + 2 * length (print_all (operations_of_piece alphabet rcomp least here)) ≤ length l
    text_room t h =
        by_test (ltb 1 left)
        (λ b.
        rest_room (print_all (operations_of_piece alphabet rcomp least here)) (print_all (operations_behind alphabet rcomp (least_behind here) (pieces_left class alphabet frame symbols mapped next))) t (text_more (ltb-true 1 left b) next refl) h)
        (λ b. rest_room_end t (text_last (ltb-false 1 left b)) h)

    pub ordered_here : Ordered least (pieces_left class alphabet frame symbols mapped w) → least ≤ begins_at here
    unfolding Ordered
    ordered_here o =
        by_test (ltb 1 left)
        (λ t. (rw (on_more (ltb-true 1 left t)) at o).0)
        (λ t. (rw (on_last_lem (ltb-false 1 left t)) at o).0)

    pub ordered_more : Ordered least (pieces_left class alphabet frame symbols mapped w) → 1 < left → (r : PieceWalk) → r ≡ next → Ordered (least_behind here) (pieces_left class alphabet frame symbols mapped r)
    unfolding Ordered
    ordered_more o h r q = rw q (rw (on_more h) at o).1
