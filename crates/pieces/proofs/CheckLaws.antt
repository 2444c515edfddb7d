-- The laws of checking a read's pieces, one by one.
-- Assumes nothing.
use Prim.Native.Nat.{ℕ, ◌+◌, ◌<◌, ◌≤◌}
use mathlib.Core.Path.{◌≡◌, refl, sym, ap, ◌∙◌}
use mathlib.Core.Bool.{true, false}
use mathlib.Core.List.{List, [], ◌∷◌}
use native.Mathlib.Omega.{arith}
use native.Mathlib.Nat.{add-zero, add_assoc}
use borrow.Author.Tests.{lt-ltb, le-ltb, ltb-true, ltb-false}
use lib.Dec.{ltb}
use lib.ListN.{length}
use Rattle.std.specs.Prelude.{⊤, Ok, Err}
use Rattle.refusal.specs.declared.Refusal.{Refusal}
use Rattle.refusal.specs.declared.Refusal.TheVariants.{PositionOut}
use Rattle.refusal.specs.Answers.{OrRefused, no_refusal, checked}
use Rattle.refusal.proofs.AnswerLaws.{never_accepted, past_checked}
use Rattle.frame.proofs.Tests.{by_test}
use Rattle.unit.specs.declared.Unit.{Unit}
use Rattle.edits.specs.Pieces.{Piece, below_zero, begins_at, spliced_seg_mapped_length, end_of}
use Rattle.bases.specs.Spliced.{piece_refusal}
use Rattle.alphabet.specs.Table35.{size_of}
use Rattle.edits.specs.Code.Runs.{run_of}
use Rattle.edits.specs.declared.Block.{Block}
use Rattle.edits.specs.declared.Run.{Run}
use Rattle.edits.proofs.EditLaws.{length_edits}
use Rattle.splices.specs.declared.walk.PieceWalk.{PieceWalk}
use Rattle.splices.specs.Located.{pieces_in}
use Rattle.splices.specs.Code.Walk.{piece_here, pieces_left, first_piece, next_piece}
use Rattle.splices.specs.declared.Splices.{Splices}
use Rattle.splices.proofs.WalkLaws.{pieces_begin}
use Rattle.ecigar.specs.Check.{extent, check_piece}
use Rattle.ecigar.specs.declared.check.Extent.{Extent}
use Rattle.ecigar.proofs.CheckLaws.{piece_checked_lem}
use Rattle.ecigar.proofs.LengthLaws.{piece_most}
use Rattle.ecigar.specs.Table90.{print_all}
use Rattle.ecigar.specs.Spliced.{piece_operations}
use Rattle.pieces.specs.Place.{place_refusal}
use Rattle.pieces.specs.Placed.{piece_out, placed_piece, least_behind, pieces_refusal}
use Rattle.pieces.specs.Code.Checked.{text_of_piece, text_behind, run_here, piece_found, pieces_found, ReadyPiece, Looked, Walking}
use Rattle.pieces.proofs.WalkingLaws.{behind_more, behind_last}
use Rattle.pieces.specs.declared.check.PieceFound.{PieceFound}

-- ---- one piece

-- what refuses where nothing follows that could
refused_back : {B : Type 0} (x : OrRefused ⊤) (b : B) (n : Refusal) → checked x (Ok b) ≡ Err n → x ≡ Err n
refused_back (Ok t) b n e = never_accepted e
refused_back {B} (Err m) b n e = let q : ◌≡◌ {A = Refusal} m n = cc in rw q refl

module _ (u : Unit) (reference : List ℕ) (least : ℕ) (p : Piece) where
  -- a piece that is refused for this
  found_by : (n : Refusal) → placed_piece u reference least p ≡ Err n → Err n ≡ piece_found u reference least p
  unfolding piece_found
  found_by n q = rw q refl

  pub found_below : below_zero p.at ≡ true → Err PositionOut ≡ piece_found u reference least p
  unfolding piece_out
  found_below t = found_by PositionOut (simp t)

  pub found_before : below_zero p.at ≡ false → begins_at p < least → Err PositionOut ≡ piece_found u reference least p
  unfolding piece_out
  found_before t h = found_by PositionOut (simp (t, lt-ltb _ _ h))

  module _ (position taken text : ℕ) (k : Looked u.alphabet p least position taken text) where
    place_is : piece_out u least p ≡ place_refusal u.start u.end position taken
    unfolding piece_out
    place_is = let a = k.is in let b = k.takes in rw (k.straight, le-ltb (begins_at p) least (omega (arith, k.far)), ← a, ← b) refl

    pub found_outside : (n : Refusal) → place_refusal u.start u.end position taken ≡ Err n → Err n ≡ piece_found u reference least p
    found_outside n q = found_by n (rw (place_is, q) refl)

    pub found_unknown : (n : Refusal) → place_refusal u.start u.end position taken ≡ no_refusal → piece_refusal u.alphabet reference u.first p ≡ Err n → Err n ≡ piece_found u reference least p
    found_unknown n z q = found_by n (rw (place_is, z, q) refl)

    pub found_fine : (splice : ℕ) → place_refusal u.start u.end position taken ≡ no_refusal → piece_refusal u.alphabet reference u.first p ≡ no_refusal → splice + text ≡ text_of_piece u.alphabet least p
        → Ok record { end = position + taken; text = splice + text } ≡ piece_found u reference least p
    unfolding piece_found
    found_fine splice z y q = rw (place_is, z, y, k.is, k.takes, q) refl

-- ---- a piece, and those behind it

module _ (u : Unit) (reference : List ℕ) where
  module _ (text least : ℕ) (p : Piece) (ps : List Piece) (x : OrRefused PieceFound) (q : x ≡ piece_found u reference least p) where
    -- refused for its own
    pub pieces_refused : (n : Refusal) → x ≡ Err n → Err n ≡ pieces_found u reference text least (p ∷ ps)
    unfolding pieces_found pieces_refusal piece_found
    pieces_refused n h = rw (refused_back (placed_piece u reference least p) _ n (sym q ∙ h)) refl

    -- what an accepted one leaves
    record Accepted (r : PieceFound) : Type 0 where
      pub nothing : placed_piece u reference least p ≡ no_refusal
      pub end_is : r.end ≡ end_of p
      pub text_is : r.text ≡ text_of_piece u.alphabet least p

    accepted : (r : PieceFound) → x ≡ Ok r → Accepted r
    unfolding piece_found
    accepted r h =
        let a = past_checked (placed_piece u reference least p) _ r (sym q ∙ h) in
        let same : ◌≡◌ {A = PieceFound} (record { end = end_of p; text = text_of_piece u.alphabet least p }) r = cc in
        record {
          nothing = a.0;
          end_is = sym (ap (λ (f : PieceFound). f.end) same);
          text_is = sym (ap (λ (f : PieceFound). f.text) same);
        }

    pub pieces_gone : (r : PieceFound) → x ≡ Ok r → pieces_found u reference (text + r.text) (r.end + 1) ps ≡ pieces_found u reference text least (p ∷ ps)
    unfolding pieces_found pieces_refusal text_behind
    pieces_gone r h =
        let a = accepted r h in
        let e = a.end_is in
        let t = a.text_is in
        let n = a.nothing in
        let s = add_assoc text (text_of_piece u.alphabet least p) (text_behind u.alphabet (least_behind p) ps) in
        rw (n, e, t, s) refl

    pub piece_text : (r : PieceFound) → x ≡ Ok r → r.text ≡ text_of_piece u.alphabet least p
    piece_text r h = (accepted r h).text_is

  -- behind the last
  pub pieces_over : (text least : ℕ) → Ok text ≡ pieces_found u reference text least []
  unfolding pieces_found pieces_refusal text_behind
  pieces_over text least = rw (add-zero text) refl

-- ---- what the edits of a piece come to

module _ (class alphabet : ℕ) (frame : List ℕ) (w : PieceWalk) (g : ReadyPiece class alphabet frame w) where
  abbrev here : Piece
  here = piece_here class alphabet frame w

  pub edits_come : {run : Run} {r : OrRefused Extent} → run ≡ run_here w → r ≡ check_piece class alphabet frame w.start run.edits_at run.edits run.mapped
      → r ≡ Ok (extent (spliced_seg_mapped_length here) (length (print_all (piece_operations alphabet here))))
  edits_come q e = e ∙ rw q (piece_checked_lem class alphabet frame w.start w.edits_at w.edits w.until g.few g.short (omega (arith, g.sound.base)) g.framed g.sound.sound)

  pub edits_accepted : {run : Run} {r : OrRefused Extent} {n : Refusal} {P : Type 0} → run ≡ run_here w → r ≡ check_piece class alphabet frame w.start run.edits_at run.edits run.mapped → r ≡ Err n → P
  edits_accepted q e h = never_accepted (sym (edits_come q e) ∙ h)

  pub edits_looked : {run : Run} {r : OrRefused Extent} {found : Extent} (least position : ℕ) → run ≡ run_here w → r ≡ check_piece class alphabet frame w.start run.edits_at run.edits run.mapped → r ≡ Ok found
      → below_zero here.at ≡ false → position ≡ begins_at here → least ≤ position → Looked alphabet here least position found.taken found.text
  edits_looked {found = found} least position q e h straight is far =
      let f : ◌≡◌ {A = OrRefused Extent} (Ok found) (Ok (extent (spliced_seg_mapped_length here) (length (print_all (piece_operations alphabet here))))) = sym h ∙ edits_come q e in
      let same : ◌≡◌ {A = Extent} found (extent (spliced_seg_mapped_length here) (length (print_all (piece_operations alphabet here)))) = cc in
      let l = ap (λ (x : Extent). x.text) same in
      record {
        straight = straight;
        is = is;
        far = far;
        takes = ap (λ (x : Extent). x.taken) same;
        long = l;
        most =
            omega (
              arith,
              g.few,
              g.short,
              piece_most alphabet w.start w.until (size_of alphabet) here.edits (omega (arith, g.sound.base)) g.sound.sound,
              length_edits class alphabet frame w.edits w.edits_at,
            );
      }

-- ---- a turn of the loop

module _ (u : Unit) (reference frame symbols : List ℕ) (mapped : ℕ) (w : PieceWalk) (g : Walking u.class u.alphabet frame symbols mapped w) (text least : ℕ) (x : OrRefused PieceFound)
    (q : x ≡ piece_found u reference least (piece_here u.class u.alphabet frame w)) where
  abbrev all : List Piece
  all = pieces_left u.class u.alphabet frame symbols mapped w

  abbrev next : PieceWalk
  next = next_piece u.class frame symbols mapped w

  pub turn_out : 2 ≤ w.left → (n : Refusal) → x ≡ Err n → Err n ≡ pieces_found u reference text least all
  turn_out h n z =
      pieces_refused u reference text least _ _ x q n z ∙ ap (λ (l : List Piece). pieces_found u reference text least l) (sym (behind_more u.class u.alphabet frame symbols mapped w g h))

  pub turn_on : 2 ≤ w.left → (r : PieceFound) → x ≡ Ok r
      → pieces_found u reference (text + r.text) (r.end + 1) (pieces_left u.class u.alphabet frame symbols mapped next) ≡ pieces_found u reference text least all
  turn_on h r z =
      pieces_gone u reference text least _ _ x q r z ∙ ap (λ (l : List Piece). pieces_found u reference text least l) (sym (behind_more u.class u.alphabet frame symbols mapped w g h))

  pub last_out : w.left ≤ 1 → (n : Refusal) → x ≡ Err n → Err n ≡ pieces_found u reference text least all
  last_out h n z =
      pieces_refused u reference text least _ _ x q n z ∙ ap (λ (l : List Piece). pieces_found u reference text least l) (sym (behind_last u.class u.alphabet frame symbols mapped w g h))

  -- wherever it stands
  pub found_out : (n : Refusal) → x ≡ Err n → Err n ≡ pieces_found u reference text least all
  found_out n z = by_test (ltb w.left 2) (λ t. last_out (omega (arith, ltb-true w.left 2 t)) n z) (λ t. turn_out (ltb-false w.left 2 t) n z)

  pub last_fine : w.left ≤ 1 → (r : PieceFound) → x ≡ Ok r → Ok (text + r.text) ≡ pieces_found u reference text least all
  last_fine h r z =
      pieces_over u reference (text + r.text) (r.end + 1)
      ∙ pieces_gone u reference text least _ _ x q r z
      ∙ ap (λ (l : List Piece). pieces_found u reference text least l) (sym (behind_last u.class u.alphabet frame symbols mapped w g h))

-- from its first piece on, it is the whole read
pub begun_whole : (u : Unit) (reference frame symbols : List ℕ) (b : Block) (s : Splices) (position : ℕ) {w : PieceWalk} {run : Run} → w ≡ first_piece u.class frame b s position → run ≡ run_of b → 1 ≤ s.count
    → pieces_found u reference 0 0 (pieces_left u.class u.alphabet frame symbols run.mapped w) ≡ pieces_found u reference 0 0 (pieces_in u.class u.alphabet frame symbols b s position)
begun_whole u reference frame symbols b s position e q h = rw (e, q) (ap (λ (l : List Piece). pieces_found u reference 0 0 l) (pieces_begin u.class u.alphabet frame symbols b s position h))
