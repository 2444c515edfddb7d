-- The laws of the pieces, one by one: what is walked over is the pieces of the read.
-- Assumes nothing.
use Prim.Native.Nat.{ℕ, zero, suc, ◌+◌, ◌-◌, ◌*◌, ◌<◌, ◌≤◌}
use mathlib.Core.Path.{◌≡◌, refl, sym, ap, ◌∙◌}
use mathlib.Core.List.{List, [], ◌∷◌}
use native.Mathlib.Omega.{arith}
use native.Mathlib.Nat.{add-zero}
use borrow.Author.Tests.{lt-ltb, le-ltb, ltb-true, ltb-false}
use lib.Dec.{ltb}
use lib.ListN.{length, get_or-eq_default}
use Rattle.frame.specs.Field.{big_at}
use Rattle.frame.proofs.Tests.{by_test}
use Rattle.state.specs.Listed.{words_at}
use Rattle.edits.specs.Edits.{width_of, edit_list_at, block_edits}
use Rattle.edits.specs.Lengths.{mapped_length}
use Rattle.edits.specs.Pieces.{SignedPosition, Piece, edits_before, edits_behind, pieces_from, less_first}
use Rattle.edits.specs.Code.Runs.{run_of}
use Rattle.edits.specs.declared.edit.Edit.{Edit}
use Rattle.edits.specs.declared.Block.{Block}
use Rattle.edits.specs.declared.Run.{Run}
use Rattle.edits.proofs.EditLaws.{offset_bytes}
use Rattle.edits.proofs.PieceLaws.{edit_offset, before_first, behind_rest, before_most}
use Rattle.splices.specs.declared.Splices.{Splices}
use Rattle.splices.specs.declared.mapping.Mapping.{Mapping}
use Rattle.splices.specs.declared.walk.PieceWalk.{PieceWalk}
use Rattle.splices.specs.Located.{position_in, following, positions_from, first_mapping, pieces_in}
use Rattle.splices.specs.Code.Walk.{edits_to, cut_piece, first_piece, run_behind, next_piece, piece_here, pieces_left}

-- ---- how many edits stand before an offset does not depend on the alphabet

before_alike : (class alphabet : ℕ) (frame : List ℕ) (k at offset : ℕ) → length (edits_before offset (edit_list_at class alphabet frame k at)) ≡ length (edits_before offset (edit_list_at class 0 frame k at))
unfolding edits_before edit_list_at
before_alike class alphabet frame zero at offset = refl
before_alike class alphabet frame (suc k) at offset =
    let a = edit_offset class alphabet frame at in
    let b = edit_offset class 0 frame at in
    rw (a, b)
    (by_test (ltb (big_at 2 frame at) offset)
    (λ t. rw t (ap suc (before_alike class alphabet frame k (at + width_of class) offset)))
    (λ t. rw t refl))

-- ---- a length that would stand behind the frame's end

pub length_past : (frame : List ℕ) (at : ℕ) → length frame ≤ at → big_at 2 frame at ≡ 0
length_past frame at h =
    offset_bytes frame at ∙ rw (get_or-eq_default {A = ℕ} frame 0 {n = at} h, get_or-eq_default {A = ℕ} frame 0 {n = at + 1} (omega (arith, h))) (omega arith)

-- ---- a piece that was cut

pub cut_mapping : (class : ℕ) (frame : List ℕ) (run : Run) (left start until lengths_at : ℕ) (m : Mapping) → (cut_piece class frame run left start until lengths_at m).mapping ≡ m
unfolding cut_piece
cut_mapping class frame run left start until lengths_at m = by_test (ltb left 2) (λ t. simp t) (λ t. simp t)

-- it ends behind its start; one that is not the last has the edits before its end, and the last has all
pub record CutPiece (class : ℕ) (frame : List ℕ) (mapped : ℕ) (w : PieceWalk) : Type 0 where
  pub least : 1 ≤ w.left
  pub order : w.start ≤ w.until
  pub more : 2 ≤ w.left → w.edits ≡ length (edits_before w.until (edit_list_at class 0 frame (w.edits + w.behind) w.edits_at))
  pub last : w.left ≤ 1 → (w.until ≡ mapped) × (w.behind ≡ 0)

-- what a cut leaves as it is
pub record CutKept (run : Run) (left start lengths_at : ℕ) (w : PieceWalk) : Type 0 where
  pub left_is : w.left ≡ left
  pub start_is : w.start ≡ start
  pub place_is : w.edits_at ≡ run.edits_at
  pub lengths_is : w.lengths_at ≡ lengths_at
  pub edits_are : w.edits + w.behind ≡ run.edits

module _ (class : ℕ) (frame : List ℕ) (run : Run) (left start until lengths_at : ℕ) (m : Mapping) where
  abbrev w : PieceWalk
  w = cut_piece class frame run left start until lengths_at m

  few : edits_to class frame run until ≤ run.edits
  few = before_most class 0 frame run.edits run.edits_at until

  pub cut_kept : CutKept run left start lengths_at w
  unfolding cut_piece
  cut_kept =
      by_test (ltb left 2)
      (λ t. rw t record { left_is = refl; start_is = refl; place_is = refl; lengths_is = refl; edits_are = add-zero _ })
      (λ t. rw t record { left_is = refl; start_is = refl; place_is = refl; lengths_is = refl; edits_are = omega (arith, few) })

  pub cut_is : 1 ≤ left → start ≤ until → start ≤ run.mapped → CutPiece class frame run.mapped w
  unfolding cut_piece
  cut_is l a b =
      by_test (ltb left 2)
      (λ t. let s = ltb-true left 2 t in rw t record { least = l; order = b; more = λ h. absurd (omega arith); last = λ h. (refl, refl) })
      (λ t.
      let s = ltb-false left 2 t in
      let sum : edits_to class frame run until + (run.edits - edits_to class frame run until) ≡ run.edits = omega (arith, few) in
      rw t record { least = l; order = a; more = λ h. rw sum refl; last = λ h. absurd (omega arith) })

  cut_until_last : left ≤ 1 → w.until ≡ run.mapped
  unfolding cut_piece
  cut_until_last h = simp (lt-ltb left 2 (omega arith))

  cut_until_more : 2 ≤ left → w.until ≡ until
  unfolding cut_piece
  cut_until_more h = simp (le-ltb left 2 h)

-- ---- one piece, and those behind it

module _ (class alphabet : ℕ) (frame symbols : List ℕ) (mapped : ℕ) where
  -- the last piece's length is not looked at
  one_length : (start : ℕ) (es : List Edit) (n k : ℕ) (p : SignedPosition) → pieces_from mapped start es (n ∷ []) (p ∷ []) ≡ pieces_from mapped start es (k ∷ []) (p ∷ [])
  unfolding pieces_from
  one_length start es n k p = refl

  pub pieces_last : (w : PieceWalk) → CutPiece class frame mapped w → w.left ≤ 1 → pieces_left class alphabet frame symbols mapped w ≡ piece_here class alphabet frame w ∷ []
  unfolding pieces_left words_at positions_from pieces_from
  pieces_last w c h =
      let one : w.left ≡ 1 = omega (arith, c.least) in
      let none : w.left - 1 ≡ 0 = omega arith in
      let all : w.edits + w.behind ≡ w.edits = omega (arith, (c.last h).1) in
      rw (one, all, ← (c.last h).0) refl

  -- the edits of a piece, and those behind it
  own_edits : (w : PieceWalk) → CutPiece class frame mapped w → 2 ≤ w.left
      → edits_before w.until (edit_list_at class alphabet frame (w.edits + w.behind) w.edits_at) ≡ edit_list_at class alphabet frame w.edits w.edits_at
  own_edits w c h =
      let n = c.more h ∙ sym (before_alike class alphabet frame (w.edits + w.behind) w.edits_at w.until) in
      before_first class alphabet frame (w.edits + w.behind) w.edits_at w.until ∙ ap (λ (k : ℕ). edit_list_at class alphabet frame k w.edits_at) (sym n)

  other_edits : (w : PieceWalk) → CutPiece class frame mapped w → 2 ≤ w.left
      → edits_behind w.until (edit_list_at class alphabet frame (w.edits + w.behind) w.edits_at) ≡ edit_list_at class alphabet frame w.behind (w.edits_at + w.edits * width_of class)
  other_edits w c h =
      let n = c.more h ∙ sym (before_alike class alphabet frame (w.edits + w.behind) w.edits_at w.until) in
      let rest : w.edits + w.behind - w.edits ≡ w.behind = omega arith in
      behind_rest class alphabet frame (w.edits + w.behind) w.edits_at w.until
      ∙ ap (λ (k : ℕ). edit_list_at class alphabet frame (w.edits + w.behind - k) (w.edits_at + k * width_of class)) (sym n)
      ∙ ap (λ (k : ℕ). edit_list_at class alphabet frame k (w.edits_at + w.edits * width_of class)) rest

  words_on : (k at : ℕ) → 0 < k → words_at k frame at ≡ big_at 2 frame at ∷ words_at (k - 1) frame (at + 2)
  unfolding words_at
  words_on zero at h = absurd (omega arith)
  words_on (suc k) at h = let p : suc k - 1 ≡ k = omega arith in rw p refl

  -- a piece that is not the last, and what is behind it
  parted : (start until : ℕ) (es : List Edit) (m : Mapping) (n k : ℕ) (ns : List ℕ) → start ≤ until
      → pieces_from mapped start es ((until - start) ∷ k ∷ ns) (positions_from symbols m (n ∷ k ∷ ns))
      ≡ record { at = position_in m; start = start; until = until; edits = edits_before until es } ∷ pieces_from mapped until (edits_behind until es) (k ∷ ns) (positions_from symbols (following symbols m n) (k ∷ ns))
  unfolding pieces_from positions_from
  parted start until es m n k ns h =
      let s : start + (until - start) ≡ until = omega arith in
      ap
      (λ (u : ℕ).
      let p : Piece = record { at = position_in m; start = start; until = u; edits = edits_before u es } in
      p ∷ pieces_from mapped u (edits_behind u es) (k ∷ ns) (positions_from symbols (following symbols m n) (k ∷ ns)))
      s

  module _ (w : PieceWalk) (c : CutPiece class frame mapped w) (h : 2 ≤ w.left) where
    abbrev next : PieceWalk
    next = next_piece class frame symbols mapped w

    abbrev length0 : ℕ
    length0 = big_at 2 frame w.lengths_at

    abbrev length1 : ℕ
    length1 = big_at 2 frame (w.lengths_at + 2)

    pub next_kept : CutKept (run_behind class mapped w) (w.left - 1) w.until (w.lengths_at + 2) next
    unfolding next_piece
    next_kept = cut_kept class frame (run_behind class mapped w) (w.left - 1) w.until (w.until + length1) (w.lengths_at + 2) (following symbols w.mapping length0)

    next_mapping : next.mapping ≡ following symbols w.mapping length0
    unfolding next_piece
    next_mapping = cut_mapping class frame (run_behind class mapped w) (w.left - 1) w.until (w.until + length1) (w.lengths_at + 2) (following symbols w.mapping length0)

    pub next_cut : w.until ≤ mapped → CutPiece class frame mapped next
    unfolding next_piece
    next_cut b = cut_is class frame (run_behind class mapped w) (w.left - 1) w.until (w.until + length1) (w.lengths_at + 2) (following symbols w.mapping length0) (omega arith) (omega arith) b

    -- where the next piece begins, whatever its length is where it is the last
    same_length : (es : List Edit) (m : Mapping)
        → pieces_from mapped w.until es (length1 ∷ words_at (w.left - 1 - 1) frame (w.lengths_at + 2 + 2)) (positions_from symbols m (length1 ∷ words_at (w.left - 1 - 1) frame (w.lengths_at + 2 + 2)))
        ≡ pieces_from mapped w.until es ((next.until - w.until) ∷ words_at (w.left - 1 - 1) frame (w.lengths_at + 2 + 2)) (positions_from symbols m (length1 ∷ words_at (w.left - 1 - 1) frame (w.lengths_at + 2 + 2)))
    unfolding next_piece positions_from words_at
    same_length es m =
        by_test (ltb w.left 3)
        (λ t.
        let two : w.left - 1 - 1 ≡ 0 = omega (arith, ltb-true w.left 3 t) in
        rw two (one_length w.until es length1 (next.until - w.until) (position_in m)))
        (λ t.
        let u = cut_until_more class frame (run_behind class mapped w) (w.left - 1) w.until (w.until + length1) (w.lengths_at + 2) (following symbols w.mapping length0) (omega (arith, ltb-false w.left 3 t)) in
        let d : next.until - w.until ≡ length1 = omega arith in
        rw d refl)

    pub pieces_on : pieces_left class alphabet frame symbols mapped w ≡ piece_here class alphabet frame w ∷ pieces_left class alphabet frame symbols mapped next
    unfolding pieces_left
    pieces_on =
        let k = next_kept in
        let es = edit_list_at class alphabet frame (w.edits + w.behind) w.edits_at in
        let ns = words_at (w.left - 1 - 1) frame (w.lengths_at + 2 + 2) in
        let one = words_on (w.left - 1) (w.lengths_at + 2) (omega arith) in
        let all = words_on w.left w.lengths_at (omega arith) ∙ ap (λ (l : List ℕ). length0 ∷ l) one in
        ap (λ (l : List ℕ). pieces_from mapped w.start es ((w.until - w.start) ∷ l) (positions_from symbols w.mapping (words_at w.left frame w.lengths_at))) one
        ∙ ap (λ (l : List ℕ). pieces_from mapped w.start es ((w.until - w.start) ∷ length1 ∷ ns) (positions_from symbols w.mapping l)) all
        ∙ parted w.start w.until es w.mapping length0 length1 ns c.order
        ∙ rw (own_edits w c h, other_edits w c h)
        (ap (λ (l : List Piece). piece_here class alphabet frame w ∷ l)
        (same_length (edit_list_at class alphabet frame w.behind (w.edits_at + w.edits * width_of class)) (following symbols w.mapping length0)
        ∙ sym (rw (k.start_is, k.edits_are, k.place_is, k.left_is, k.lengths_is, next_mapping, one) refl)))

-- ---- the first piece

module _ (class alphabet : ℕ) (frame symbols : List ℕ) (b : Block) (s : Splices) (position : ℕ) where
  abbrev begin : PieceWalk
  begin = first_piece class frame b s position

  abbrev mapped : ℕ
  mapped = mapped_length b.length b.clips

  abbrev first : ℕ
  first = big_at 2 frame s.lengths_at - b.clips.left_soft

  abbrev others : List ℕ
  others = words_at (s.count - 1) frame (s.lengths_at + 2)

  pub begin_kept : CutKept (run_of b) s.count 0 s.lengths_at begin
  unfolding first_piece
  begin_kept = cut_kept class frame (run_of b) s.count 0 first s.lengths_at (first_mapping s position)

  pub begin_mapping : begin.mapping ≡ first_mapping s position
  unfolding first_piece
  begin_mapping = cut_mapping class frame (run_of b) s.count 0 first s.lengths_at (first_mapping s position)

  -- what the first piece's length is, where it is the last too, is not looked at
  begin_length : (es : List Edit) → 1 ≤ s.count
      → pieces_from mapped 0 es ((begin.until - 0) ∷ others) (positions_from symbols (first_mapping s position) (big_at 2 frame s.lengths_at ∷ others))
      ≡ pieces_from mapped 0 es (first ∷ others) (positions_from symbols (first_mapping s position) (big_at 2 frame s.lengths_at ∷ others))
  unfolding first_piece positions_from words_at
  begin_length es h =
      by_test (ltb s.count 2)
      (λ t.
      let one : s.count - 1 ≡ 0 = omega (arith, ltb-true s.count 2 t) in
      rw one (one_length class alphabet frame symbols mapped 0 es (begin.until - 0) first (position_in (first_mapping s position))))
      (λ t.
      let u = cut_until_more class frame (run_of b) s.count 0 first s.lengths_at (first_mapping s position) (ltb-false s.count 2 t) in
      let d : begin.until - 0 ≡ first = omega arith in
      rw d refl)

  pub pieces_begin : 1 ≤ s.count → pieces_left class alphabet frame symbols mapped begin ≡ pieces_in class alphabet frame symbols b s position
  unfolding pieces_left pieces_in less_first
  pieces_begin h =
      let k = begin_kept in
      let all = words_on class alphabet frame symbols mapped s.count s.lengths_at h in
      rw (k.start_is, k.edits_are, k.place_is, k.left_is, k.lengths_is, begin_mapping, all) (begin_length (block_edits class alphabet frame b) h)

  pub first_cut : 1 ≤ s.count → CutPiece class frame (mapped_length b.length b.clips) begin
  unfolding first_piece
  first_cut h = cut_is class frame (run_of b) s.count 0 (big_at 2 frame s.lengths_at - b.clips.left_soft) s.lengths_at (first_mapping s position) h (omega arith) (omega arith)
