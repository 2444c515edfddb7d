-- The laws of a read over introns whose pieces were accepted and follow each other: its length, and where each of its letters comes from.
-- Assumes nothing.
use Prim.Native.Nat.{ℕ, ◌+◌, ◌-◌, ◌<◌, ◌≤◌}
use mathlib.Core.Path.{◌≡◌, ◌∙◌}
use mathlib.Core.Logic.{◌⊎◌, inl, inr, ⊎_elim}
use mathlib.Core.List.{List, [], ◌∷◌, ◌++◌, append-nil}
use native.Mathlib.Omega.{arith}
use native.Mathlib.Nat.{sub-zero}
use borrow.Author.Tests.{ltb-true, ltb-false}
use lib.Dec.{ltb}
use lib.ListN.{length, get_or, length-append, get_or-append}
use Rattle.refusal.specs.Answers.{no_refusal}
use Rattle.frame.specs.Hex.{Bytes}
use Rattle.frame.proofs.HexLaws.{by_test, bytes_append}
use Rattle.alphabet.specs.Table35.{size_of, letter_of}
use Rattle.edits.specs.declared.edit.Edit.{Edit}
use Rattle.edits.specs.declared.Block.{Block}
use Rattle.edits.specs.Edits.{edit_list_at}
use Rattle.edits.specs.Lengths.{mapped_length}
use Rattle.edits.specs.Pieces.{SignedPosition, position_of, Piece, begins_at, end_of, EachPiece, nil, cons, Spans}
use Rattle.edits.proofs.PieceLaws.{PieceSound}
use Rattle.bases.specs.Reference.{base_at, base_refusal}
use Rattle.bases.specs.Bases.{letters_at, bases_text}
use Rattle.bases.specs.Spliced.{piece_beginning, piece_bases, piece_refusal, pieces_bases, read_bases}
use Rattle.bases.specs.Alignment.{MatchedIn, EditedIn}
use Rattle.bases.proofs.ReferenceLaws.{length_letters}
use Rattle.bases.proofs.AlignmentLaws.{length_bases_from, get_d_back, match_at, edit_at_lem, from_somewhere, under_least, under_most, under_place, under_fine, edit_least, edit_below, edit_symbol}
use Rattle.bases.proofs.ReadLaws.{get_d_letters}
use Rattle.bases.proofs.BytesLaws.{bytes_letters, bytes_mapped}

-- ---- where the pieces' bases stand among the mapped bases

-- pieces go on, never back
pub spans_order : {symbols : ℕ} {ps : List Piece} (from to : ℕ) → EachPiece (PieceSound symbols) ps → Spans from ps to → from ≤ to
unfolding Spans
spans_order from to nil s = omega arith
spans_order from to (cons p h hs) s = omega (arith, h.base, s.0, spans_order p.until to hs s.1)

-- a matched base is one of the mapped bases
pub matched_least : {symbols : ℕ} {ps : List Piece} (from to i at : ℕ) → EachPiece (PieceSound symbols) ps → Spans from ps to → MatchedIn ps i at → from ≤ i
unfolding Spans MatchedIn
matched_least from to i at nil s u = absurd u
matched_least {symbols} from to i at (cons p h hs) s u =
    ⊎_elim (λ w. omega (arith, s.0, under_least p.until symbols (piece_beginning p) p.edits i at h.sound w))
    (λ w. omega (arith, s.0, h.base, matched_least p.until to i at hs s.1 w))
    u

pub matched_below : {symbols : ℕ} {ps : List Piece} (from to i at : ℕ) → EachPiece (PieceSound symbols) ps → Spans from ps to → MatchedIn ps i at → i < to
unfolding Spans MatchedIn
matched_below from to i at nil s u = absurd u
matched_below {symbols} from to i at (cons p h hs) s u =
    ⊎_elim (λ w. omega (arith, spans_order p.until to hs s.1, under_most p.until symbols (piece_beginning p) p.edits i at h.sound w))
    (λ w. matched_below p.until to i at hs s.1 w)
    u

-- and so is an edit's
pub edited_least : {symbols : ℕ} {ps : List Piece} (from to i : ℕ) (d : Edit) → EachPiece (PieceSound symbols) ps → Spans from ps to → EditedIn ps i d → from ≤ i
unfolding Spans EditedIn
edited_least from to i d nil s u = absurd u
edited_least {symbols} from to i d (cons p h hs) s u =
    ⊎_elim (λ w. omega (arith, s.0, edit_least p.until symbols p.start p.edits i d h.sound w))
    (λ w. omega (arith, s.0, h.base, edited_least p.until to i d hs s.1 w))
    u

pub edited_below : {symbols : ℕ} {ps : List Piece} (from to i : ℕ) (d : Edit) → EachPiece (PieceSound symbols) ps → Spans from ps to → EditedIn ps i d → i < to
unfolding Spans EditedIn
edited_below from to i d nil s u = absurd u
edited_below {symbols} from to i d (cons p h hs) s u =
    ⊎_elim (λ w. omega (arith, spans_order p.until to hs s.1, edit_below p.until symbols p.start p.edits i d h.sound w))
    (λ w. edited_below p.until to i d hs s.1 w)
    u

-- an edit's symbol is inside the alphabet
pub edited_symbol : {symbols : ℕ} {ps : List Piece} (i : ℕ) (d : Edit) → EachPiece (PieceSound symbols) ps → EditedIn ps i d → d.symbol < symbols
unfolding EditedIn
edited_symbol i d nil u = absurd u
edited_symbol {symbols} i d (cons p h hs) u = ⊎_elim (λ w. edit_symbol p.until symbols p.start p.edits i d h.sound w) (λ w. edited_symbol i d hs w) u

-- every mapped base comes from a match or from an edit of one of the pieces
pub from_some_piece : {symbols : ℕ} {ps : List Piece} (from to i : ℕ) → EachPiece (PieceSound symbols) ps → Spans from ps to → from ≤ i → i < to
    → ((at : ℕ) × MatchedIn ps i at) ⊎ ((d : Edit) × EditedIn ps i d)
unfolding Spans MatchedIn EditedIn
from_some_piece from to i nil s h l = absurd (omega arith)
from_some_piece {symbols} from to i (cons p a rest) s h l =
    by_test (ltb i p.until)
    (λ b. ⊎_elim (λ w. inl (w.0, inl w.1)) (λ w. inr (w.0, inl w.1))
    (from_somewhere p.until symbols (piece_beginning p) p.edits i a.sound (omega (arith, s.0)) (ltb-true i p.until b)))
    (λ b. ⊎_elim (λ w. inl (w.0, inr w.1)) (λ w. inr (w.0, inr w.1))
    (from_some_piece p.until to i rest s.1 (ltb-false i p.until b) l))

-- ---- the reference under the pieces

-- what holds of every position from where a piece begins to behind its end holds of one under a match: no other position is read
pub matched_place : {P : ℕ → Type 0} {ps : List Piece} (i at : ℕ) → EachPiece (λ (p : Piece). (x : ℕ) → begins_at p ≤ x → x < end_of p → P x) ps → MatchedIn ps i at → P at
unfolding MatchedIn
matched_place i at nil u = absurd u
matched_place i at (cons p h hs) u =
    ⊎_elim (λ w. let l = under_place p.until (piece_beginning p) p.edits i at w in h at l.0 l.1) (λ w. matched_place i at hs w) u

-- where no piece's reference is refused, no base under a match is
pub matched_fine : (alphabet : ℕ) (reference : List ℕ) (first : ℕ) {ps : List Piece} (i at : ℕ) → EachPiece (λ (p : Piece). piece_refusal alphabet reference first p ≡ no_refusal) ps → MatchedIn ps i at
    → base_refusal alphabet reference first at ≡ no_refusal
unfolding MatchedIn
matched_fine alphabet reference first i at nil u = absurd u
matched_fine alphabet reference first i at (cons p h hs) u =
    ⊎_elim (λ w. under_fine alphabet reference first p.until (piece_beginning p) p.edits i at h w) (λ w. matched_fine alphabet reference first i at hs w) u

-- ---- the mapped bases

module _ (alphabet : ℕ) (reference : List ℕ) (first : ℕ) where
  pub length_piece_bases : (p : Piece) → PieceSound (size_of alphabet) p → length (piece_bases alphabet reference first p) ≡ p.until - p.start
  length_piece_bases p h = length_bases_from alphabet reference first p.until (piece_beginning p) p.edits h.sound (omega (arith, h.base))

  pub length_pieces_bases : {ps : List Piece} (from to : ℕ) → EachPiece (PieceSound (size_of alphabet)) ps → Spans from ps to → length (pieces_bases alphabet reference first ps) ≡ to - from
  unfolding pieces_bases Spans
  length_pieces_bases from to nil s = omega arith
  length_pieces_bases from to (cons p {ps} h hs) s =
      omega
      (arith, length-append (piece_bases alphabet reference first p) (pieces_bases alphabet reference first ps), length_piece_bases p h, length_pieces_bases p.until to hs s.1, spans_order p.until to hs s.1, h.base, s.0)

  -- what stands in the first piece, and what comes behind it
  in_first : (p : Piece) (ps : List Piece) (from i : ℕ) → PieceSound (size_of alphabet) p → p.start ≡ from → from ≤ i → i < p.until
      → get_or (pieces_bases alphabet reference first (p ∷ ps)) (i - from) 0 ≡ get_or (piece_bases alphabet reference first p) (i - p.start) 0
  unfolding pieces_bases
  in_first p ps from i h q a b =
      rw (← q) (get_or-append (piece_bases alphabet reference first p) (pieces_bases alphabet reference first ps) 0 (i - p.start) (omega (arith, length_piece_bases p h)))

  in_others : (p : Piece) (ps : List Piece) (from i : ℕ) → PieceSound (size_of alphabet) p → p.start ≡ from → p.until ≤ i
      → get_or (pieces_bases alphabet reference first (p ∷ ps)) (i - from) 0 ≡ get_or (pieces_bases alphabet reference first ps) (i - p.until) 0
  unfolding pieces_bases
  in_others p ps from i h q a =
      let n = length_piece_bases p h in
      let k : i - from - length (piece_bases alphabet reference first p) ≡ i - p.until = omega (arith, h.base) in
      get_d_back (piece_bases alphabet reference first p) (pieces_bases alphabet reference first ps) (i - from) (omega (arith, h.base))
      ∙ rw k

  -- a base under a match is the reference's base at its position, or N where the reference is not lent there
  pub matched_at : {ps : List Piece} (from to i at : ℕ) → EachPiece (PieceSound (size_of alphabet)) ps → Spans from ps to → MatchedIn ps i at
      → get_or (pieces_bases alphabet reference first ps) (i - from) 0 ≡ base_at alphabet reference first at
  unfolding Spans MatchedIn
  matched_at from to i at nil s u = absurd u
  matched_at from to i at (cons p {ps} h hs) s u =
      ⊎_elim
      (λ w.
      let a = under_least p.until (size_of alphabet) (piece_beginning p) p.edits i at h.sound w in
      let b = under_most p.until (size_of alphabet) (piece_beginning p) p.edits i at h.sound w in
      in_first p ps from i h s.0 (omega (arith, s.0)) b
      ∙ match_at alphabet reference first p.until (piece_beginning p) p.edits i at h.sound w)
      (λ w. in_others p ps from i h s.0 (matched_least p.until to i at hs s.1 w) ∙ matched_at p.until to i at hs s.1 w)
      u

  -- a substituted or inserted base is the letter that its edit brings
  pub edited_at : {ps : List Piece} (from to i : ℕ) (d : Edit) → EachPiece (PieceSound (size_of alphabet)) ps → Spans from ps to → EditedIn ps i d
      → get_or (pieces_bases alphabet reference first ps) (i - from) 0 ≡ letter_of alphabet d.symbol
  unfolding Spans EditedIn
  edited_at from to i d nil s u = absurd u
  edited_at from to i d (cons p {ps} h hs) s u =
      ⊎_elim
      (λ w.
      let a = edit_least p.until (size_of alphabet) p.start p.edits i d h.sound w in
      let b = edit_below p.until (size_of alphabet) p.start p.edits i d h.sound w in
      in_first p ps from i h s.0 (omega (arith, s.0)) b
      ∙ edit_at_lem alphabet reference first p.until (piece_beginning p) p.edits i d h.sound w)
      (λ w. in_others p ps from i h s.0 (edited_least p.until to i d hs s.1 w) ∙ edited_at p.until to i d hs s.1 w)
      u

  pub bytes_pieces : (ps : List Piece) → Bytes (pieces_bases alphabet reference first ps)
  unfolding pieces_bases Bytes
  bytes_pieces [] = tt
  bytes_pieces (p ∷ ps) = bytes_append (piece_bases alphabet reference first p) _ (bytes_mapped alphabet reference first p.until (piece_beginning p) p.edits) (bytes_pieces ps)

-- ---- the whole read

module _ (alphabet : ℕ) (symbols reference : List ℕ) (first place left right : ℕ) (ps : List Piece) where
  -- each letter is a byte, whatever the pieces are
  pub bytes_spliced : Bytes (read_bases alphabet symbols reference first place left right ps)
  unfolding read_bases
  bytes_spliced =
      let a = letters_at alphabet symbols place left in
      let b = pieces_bases alphabet reference first ps in
      bytes_append (a ++ b) _ (bytes_append a b (bytes_letters alphabet symbols place left) (bytes_pieces alphabet reference first ps)) (bytes_letters alphabet symbols (place + left) right)

  -- the soft-clipped bases on the left
  pub spliced_left : (i : ℕ) → i < left → get_or (read_bases alphabet symbols reference first place left right ps) i 0 ≡ letter_of alphabet (get_or symbols (place + i) 0)
  unfolding read_bases
  spliced_left i h =
      let a = letters_at alphabet symbols place left in
      let b = pieces_bases alphabet reference first ps in
      let n = length_letters alphabet symbols place left in
      get_or-append (a ++ b) (letters_at alphabet symbols (place + left) right) 0 i (omega (arith, length-append a b))
      ∙ get_or-append a b 0 i (omega arith)
      ∙ get_d_letters alphabet symbols place left i h

  module _ (to : ℕ) (sound : EachPiece (PieceSound (size_of alphabet)) ps) (spans : Spans 0 ps to) where
    mapped_bases_lem : length (pieces_bases alphabet reference first ps) ≡ to
    mapped_bases_lem = length_pieces_bases alphabet reference first 0 to sound spans ∙ sub-zero to

    pub length_read_bases : length (read_bases alphabet symbols reference first place left right ps) ≡ left + to + right
    unfolding read_bases
    length_read_bases = simp (length-append, length_letters, mapped_bases_lem)

    -- a mapped base stands behind the left soft clip
    pub spliced_mapped : (i : ℕ) → i < to → get_or (read_bases alphabet symbols reference first place left right ps) (left + i) 0 ≡ get_or (pieces_bases alphabet reference first ps) i 0
    unfolding read_bases
    spliced_mapped i h =
        let a = letters_at alphabet symbols place left in
        let b = pieces_bases alphabet reference first ps in
        let n = length_letters alphabet symbols place left in
        let k : left + i - length a ≡ i = omega arith in
        get_or-append (a ++ b) (letters_at alphabet symbols (place + left) right) 0 (left + i) (omega (arith, length-append a b, mapped_bases_lem))
        ∙ get_d_back a b (left + i) (omega arith)
        ∙ rw k

    -- a base under a match is the reference's base at its position, or N where the reference is not lent there
    pub spliced_under_match : (i at : ℕ) → MatchedIn ps i at → get_or (read_bases alphabet symbols reference first place left right ps) (left + i) 0 ≡ base_at alphabet reference first at
    spliced_under_match i at u = spliced_mapped i (matched_below 0 to i at sound spans u) ∙ rw sub-zero at (matched_at alphabet reference first 0 to i at sound spans u)

    -- a substituted or inserted base is the letter that its edit brings
    pub spliced_of_edit : (i : ℕ) (d : Edit) → EditedIn ps i d → get_or (read_bases alphabet symbols reference first place left right ps) (left + i) 0 ≡ letter_of alphabet d.symbol
    spliced_of_edit i d u = spliced_mapped i (edited_below 0 to i d sound spans u) ∙ rw sub-zero at (edited_at alphabet reference first 0 to i d sound spans u)

    -- the soft-clipped bases on the right
    pub spliced_right : (i : ℕ) → i < right → get_or (read_bases alphabet symbols reference first place left right ps) (left + to + i) 0 ≡ letter_of alphabet (get_or symbols (place + left + i) 0)
    unfolding read_bases
    spliced_right i h =
        let a = letters_at alphabet symbols place left in
        let b = pieces_bases alphabet reference first ps in
        let n = length_letters alphabet symbols place left in
        let g = length-append a b in
        let k : left + to + i - length (a ++ b) ≡ i = omega (arith, mapped_bases_lem) in
        get_d_back (a ++ b) (letters_at alphabet symbols (place + left) right) (left + to + i) (omega (arith, mapped_bases_lem))
        ∙ rw k (get_d_letters alphabet symbols (place + left) right i h)

-- without splices nothing changes: a read of one piece, which begins with its first mapped base, has the bases of its block
pub one_piece : (class alphabet : ℕ) (frame reference : List ℕ) (first position : ℕ) (s : Block) (at : SignedPosition) → position_of at ≡ position
    → read_bases alphabet frame reference first s.soft_at s.clips.left_soft s.clips.right_soft
    (record { at = at; start = 0; until = mapped_length s.length s.clips; edits = edit_list_at class alphabet frame s.edits s.edits_at } ∷ [])
    ≡ bases_text class alphabet frame reference first position s
unfolding read_bases pieces_bases bases_text
one_piece class alphabet frame reference first position s at q = rw (append-nil, q)
