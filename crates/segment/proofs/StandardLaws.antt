-- What the standard says of an aligned segment that was accepted: its E-CIGAR is Table 94's, its bases come from the reference, its edits and its clips (10.6.1), and each of its pieces lies within its unit.
-- Assumes nothing.
use Prim.Native.Nat.{ℕ, ◌+◌, ◌-◌, ◌^◌, ◌<◌, ◌≤◌}
use mathlib.Core.Path.{◌≡◌, refl, sym, ap, subst, ◌∙◌}
use mathlib.Core.Logic.{◌⊎◌, ⊎_elim}
use mathlib.Core.Bool.{true, false}
use mathlib.Core.List.{List, [], ◌∷◌}
use native.Mathlib.Omega.{arith}
use native.Mathlib.Nat.{sub-zero}
use borrow.Author.Tests.{lt-ltb, le-ltb, ltb-true, ltb-false, leb-false}
use lib.Dec.{ltb, leb}
use lib.ListN.{length, get_or}
use Rattle.std.specs.Prelude.{Ok}
use Rattle.refusal.specs.Answers.{no_refusal}
use Rattle.refusal.proofs.AnswerLaws.{past_ok, past_checked, ok_pair, never_refused}
use Rattle.frame.specs.declared.field.Cursor.{Cursor}
use Rattle.frame.proofs.HexLaws.{by_test}
use Rattle.unit.specs.Unit.{class_p, class_hm}
use Rattle.unit.specs.declared.Unit.{Unit}
use Rattle.alphabet.specs.Table35.{letter_n, size_of, letter_of, code_of_n}
use Rattle.alphabet.proofs.AlphabetLaws.{letter_of_n, code_of_n_inside}
use Rattle.state.proofs.HeadLaws.{length_words_at}
use Rattle.edits.specs.declared.edit.Edit.{Edit}
use Rattle.edits.specs.Lengths.{most_edits, most_pieces, soft_bases}
use Rattle.edits.specs.Flanks.{inserted_at, some_base, flanked, each_deletion, all_flanked, has_base}
use Rattle.edits.specs.Pieces.{SignedPosition, straight, position_of, Piece, begins_at, end_of, less_first, EachPiece, nil, cons, OfFirst, OfLast, Spans}
use Rattle.edits.proofs.EditLaws.{length_edits}
use Rattle.edits.proofs.PieceLaws.{PieceSound}
use Rattle.edits.proofs.FlankLaws.{and_both, some_base_lem, each_holds}
use Rattle.edits.proofs.FlankPieceLaws.{fronted, DeletedBelow, flanked_front, flanked_back, flanked_least, flanked_below, pieces_uninserted, pieces_below, first_least, first_fronted, last_backed}
use Rattle.edits.specs.Code.Flank.{backed}
use Rattle.splices.specs.Located.{positions_from, lengths_in, first_mapping, pieces_in}
use Rattle.ecigar.specs.Table90.{moves_read, moves_reference, total, print_all, AllPositive}
use Rattle.ecigar.specs.Ecigar.{OfItsClass}
use Rattle.ecigar.specs.Spliced.{read_text, Apart, last_piece, pieces_edits}
use Rattle.tables.specs.Longest.{longest_plain, longest_spliced}
use Rattle.ecigar.proofs.LengthLaws.{ClipsFit}
use Rattle.tables.proofs.SplicedLaws.{clipped_length, read_positive, read_read, read_reference_lem, pieces_edits_lem}
use Rattle.tables.proofs.ShortLaws.{EndFits, one_short, read_short}
use Rattle.bases.specs.Alignment.{LiesOn}
use Rattle.bases.specs.Reference.{is_lent, lent_symbol, base_at, base_refusal}
use Rattle.bases.proofs.SplicedLaws.{length_read_bases, spliced_under_match, spliced_of_edit, spliced_left, spliced_right, from_some_piece, matched_place, matched_fine, edited_symbol}
use Rattle.bases.proofs.FlankedLaws.{lies_place, lies_below, uninserted_lies, first_lies, last_lies}
use Rattle.pieces.specs.Placed.{pieces_refusal}
use Rattle.block.specs.Aligned.{aligned_at}
use Rattle.block.specs.Unaligned.{unaligned_at}
use Rattle.segment.specs.Segment.{block_pieces, placement, placed, placed_at, plain_at}
use Rattle.segment.specs.Listed.{listed_bases, listed_ecigar, listed_operations, edits_in, pieces_at, mapped_in, table92, Matches, Brought, Lies, Deleted, Letter, InUnit, Follow}
use Rattle.segment.specs.Code.Ready.{Pieced}
use Rattle.block.specs.declared.head.BlockHead.{BlockHead}
use Rattle.block.specs.Code.Ready.{ReadyHead}
use Rattle.block.specs.declared.aligned.AlignedBlock.{AlignedBlock}
use Rattle.block.specs.declared.unaligned.UnalignedBlock.{UnalignedBlock}
use Rattle.segment.specs.declared.Placed.{Placed}
use Rattle.segment.specs.declared.Segment.{Segment}
use Rattle.segment.specs.declared.Segment.TheVariants.{Aligned, Unaligned}
use Rattle.block.proofs.ReadyLaws.{ReadyBlock, of_its_class, block_ready}
use Rattle.segment.proofs.OneLaws.{only_piece, only_piece_lem}
use Rattle.segment.proofs.PiecedLaws.{length_positions, all_sound, all_span, text_is_table94, text_is_table92}
use Rattle.segment.proofs.PlacedLaws.{AllPlaced, all_placed, placed_each, placed_apart, placed_last, Begins, begins, placed_begins, pieces_few}
use Rattle.segment.proofs.SegmentLaws.{pieced_ready}

-- ---- an aligned segment that was accepted

-- no refusal of its block holds (8 to 12), nor of its pieces 13, nor 10 of the reference
pub record SegmentAccepted (u : Unit) (reference symbols frame : List ℕ) (q : Placed) : Type 0 where
  pub class : OfItsClass u.class q.block
  pub pieced : Pieced u.class u.alphabet frame q.block q.splices
  pub flanks : all_flanked (mapped_in q) (edits_in u frame q) ≡ true
  pub clipped : (i : ℕ) → i < soft_bases q.block.clips → get_or frame (q.block.soft_at + i) 0 < size_of u.alphabet
  pub fit : ((i : ℕ) → get_or frame i 0 < 256) → ClipsFit q.block.clips
  pub placed : AllPlaced u reference 0 (pieces_at u symbols frame q)

module _ (u : Unit) (reference symbols frame : List ℕ) (position : ℕ) (q : Placed) (next : Cursor) where
  aligned_accepted : class_p ≤ u.class → u.class ≤ class_hm → (a : AlignedBlock) → ReadyBlock u.class u.alphabet frame a → placed u reference symbols frame position a ≡ Ok (Aligned q, next)
      → SegmentAccepted u reference symbols frame q × (q.position ≡ position)
  unfolding placed
  aligned_accepted first last a r e =
      let f = past_checked (pieces_refusal u reference 0 (block_pieces u symbols frame position a)) _ (Aligned q, next) e in
      let w = ok_pair f.1 in
      let i : q ≡ placement u symbols frame position a = cc in
      rw i (
        record {
          class = of_its_class u.class u.alphabet frame a r first last;
          pieced = pieced_ready u.class u.alphabet frame a r;
          flanks = r.flanks;
          clipped = r.sides.symbols;
          fit = r.sides.fit;
          placed = all_placed u reference 0 (block_pieces u symbols frame position a) f.0;
        },
        refl,
      )

  -- every aligned segment that is read is such a segment, and stands at the position that was given
  pub placed_accepted : (h : BlockHead) → ReadyHead u.class frame h → class_p ≤ u.class → u.class ≤ class_hm → placed_at u reference symbols frame position h ≡ Ok (Aligned q, next)
      → SegmentAccepted u reference symbols frame q × (q.position ≡ position)
  unfolding placed_at
  placed_accepted h r first last e =
      let b = past_ok (aligned_at u.class u.alphabet frame h) _ (Aligned q, next) e in
      aligned_accepted first last b.value (block_ready u.class u.alphabet frame h b.value r b.accepted) b.rest

-- ---- what is read at an aligned place is aligned, and what is read at another is not

module _ (u : Unit) (frame : List ℕ) (p : Segment) (next : Cursor) where
  pub placed_aligned : (reference symbols : List ℕ) (position : ℕ) (h : BlockHead) → placed_at u reference symbols frame position h ≡ Ok (p, next) → (q : Placed) × (p ≡ Aligned q)
  unfolding placed_at placed
  placed_aligned reference symbols position h e =
      let b = past_ok (aligned_at u.class u.alphabet frame h) _ (p, next) e in
      let f = past_checked (pieces_refusal u reference 0 (block_pieces u symbols frame position b.value)) _ (p, next) b.rest in
      (placement u symbols frame position b.value, sym (ok_pair f.1).0)

  pub plain_unaligned : (at : ℕ) → plain_at u frame at ≡ Ok (p, next) → (s : UnalignedBlock) × (p ≡ Unaligned s)
  unfolding plain_at
  plain_unaligned at e =
      let b = past_ok (unaligned_at u.alphabet frame at) _ (p, next) e in
      (b.value, sym (ok_pair b.rest).0)

-- ---- the reference at a position

-- a lent base is its letter
lent_base : (alphabet : ℕ) (reference : List ℕ) (first at : ℕ) → first ≤ at → at < first + length reference → base_at alphabet reference first at ≡ letter_of alphabet (lent_symbol reference first at)
unfolding base_at is_lent
lent_base alphabet reference first at h k = simp (le-ltb _ _ h, lt-ltb _ _ k)

-- what is missing is N
missing_base : (alphabet : ℕ) (reference : List ℕ) (first at : ℕ) → (first ≤ at → at < first + length reference → ⊥) → base_at alphabet reference first at ≡ letter_n
unfolding base_at is_lent
missing_base alphabet reference first at h =
    by_test (ltb at first) (λ t. simp t)
    (λ t. by_test (ltb at (first + length reference)) (λ s. absurd (h (ltb-false _ _ t) (ltb-true _ _ s))) (λ s. simp (t, s)))

-- a base that is not refused is a letter of the alphabet
base_letter : (alphabet : ℕ) (reference : List ℕ) (first at : ℕ) → base_refusal alphabet reference first at ≡ no_refusal → Letter alphabet (base_at alphabet reference first at)
unfolding base_refusal base_at
base_letter alphabet reference first at z =
    by_test (is_lent reference first at)
    (λ t. by_test (leb (size_of alphabet) (lent_symbol reference first at))
    (λ s. never_refused (simp (t, s) at z))
    (λ s. (lent_symbol reference first at, (leb-false (size_of alphabet) (lent_symbol reference first at) s, simp t))))
    (λ t. (code_of_n alphabet, (code_of_n_inside alphabet, simp t (sym (letter_of_n alphabet)))))

-- ---- the first piece, and the last

is_last : (P : Piece → Type 0) (p : Piece) (ps : List Piece) → P (last_piece p ps) → OfLast P (p ∷ ps)
unfolding last_piece
is_last P p [] h = h
is_last P p (q ∷ ps) h = is_last P q ps h

last_both : (P Q S : Piece → Type 0) (l : List Piece) → OfLast P l → OfLast Q l → ((p : Piece) → P p → Q p → S p) → OfLast S l
last_both P Q S [] x y f = tt
last_both P Q S (p ∷ []) x y f = f p x y
last_both P Q S (p ∷ q ∷ ps) x y f = last_both P Q S (q ∷ ps) x y f

-- pieces that stand apart lie one behind the other, from where the first begins to where the last ends
apart_last : (p : Piece) (ps : List Piece) → Apart (end_of p) ps → end_of p ≤ end_of (last_piece p ps)
unfolding Apart last_piece
apart_last p [] a = omega arith
apart_last p (q ∷ ps) a = omega (arith, a.0, apart_last q ps a.1)

apart_each : (low high : ℕ) (p : Piece) (ps : List Piece) → low ≤ begins_at p → Apart (end_of p) ps → end_of (last_piece p ps) ≤ high
    → EachPiece (λ (x : Piece). (at : ℕ) → begins_at x ≤ at → at < end_of x → (low ≤ at) × (at < high)) (p ∷ ps)
unfolding Apart last_piece
apart_each low high p [] l a h = cons p (λ at b e. (omega arith, omega arith)) nil
apart_each low high p (q ∷ ps) l a h =
    cons p (λ at b e. (omega arith, omega (arith, a.0, apart_last q ps a.1))) (apart_each low high q ps (omega (arith, a.0)) a.1 h)

-- a base of the first piece lies where the read begins
first_at : (l : List Piece) (position symbols to : ℕ) → Spans 0 l to → OfFirst (λ (p : Piece). begins_at p ≡ position) l → EachPiece (PieceSound symbols) l
    → OfFirst (λ (p : Piece). fronted p.start p.edits ≡ true) l → OfFirst (λ (p : Piece). has_base p ≡ true → (i : ℕ) × ((i < to) × LiesOn l i position)) l
first_at [] position symbols to s q h f = tt
first_at (p ∷ ps) position symbols to s q (cons _ h hs) f = λ b.
    let w = first_lies p ps h f b in (w.0, (lies_below 0 to w.0 (begins_at p) (cons p h hs) s w.1, rw (← q) w.1))

-- and one of the last where it ends
last_at : (l : List Piece) (reach symbols to : ℕ) → Spans 0 l to → OfLast (λ (p : Piece). end_of p ≡ reach) l → EachPiece (PieceSound symbols) l
    → OfLast (λ (p : Piece). backed p.until p.edits ≡ true) l → OfLast (λ (p : Piece). has_base p ≡ true → (i : ℕ) × ((i < to) × LiesOn l i (reach - 1))) l
last_at l reach symbols to s q h f =
    last_both (λ (p : Piece). end_of p ≡ reach) (λ (p : Piece). has_base p ≡ true → (i : ℕ) × LiesOn l i (end_of p - 1)) _ l q (last_lies l l h f (λ i x w. w))
    (λ p e w b. let x = w b in (x.0, (lies_below 0 to x.0 (end_of p - 1) h s x.1, rw (← e) x.1)))

-- ---- what is listed of it

module _ (u : Unit) (reference symbols frame : List ℕ) (q : Placed) (a : SegmentAccepted u reference symbols frame q) where
  abbrev pieces : List Piece
  pieces = pieces_at u symbols frame q

  abbrev left : ℕ
  left = q.block.clips.left_soft

  abbrev right : ℕ
  right = q.block.clips.right_soft

  each_sound : EachPiece (PieceSound (size_of u.alphabet)) pieces
  each_sound = all_sound u.class u.alphabet frame symbols q.block q.splices a.pieced q.position

  in_span : Spans 0 pieces (mapped_in q)
  in_span = all_span u.class u.alphabet frame symbols q.block q.splices a.pieced q.position

  start : Begins pieces (straight q.position)
  start = begins u.class u.alphabet frame symbols q.block q.splices q.position a.pieced.least

  -- its pieces begin with one, behind which the others follow
  parts : AllPlaced u reference 0 (start.piece ∷ start.others)
  parts = rw start.are at a.placed

  apart : Apart (end_of start.piece) start.others
  unfolding AllPlaced
  apart = placed_apart u reference (end_of start.piece) start.others parts.1

  pub listed_begins : (u.start ≤ q.position) × (q.position ≤ u.end)
  listed_begins = placed_begins u reference q.position pieces start a.placed

  -- each piece lies inside the unit
  pub listed_pieces : EachPiece (InUnit u) pieces
  listed_pieces = placed_each u reference (InUnit u) (λ least p h. (h.straightly, (h.inside.from, h.inside.last))) 0 pieces a.placed

  -- and behind the one before it
  pub listed_apart : Follow pieces
  unfolding Follow
  listed_apart = rw start.are apart

  pub listed_is_table92 : q.splices.count ≡ 1 → listed_ecigar u symbols frame q ≡ table92 u frame q
  listed_is_table92 = text_is_table92 u symbols frame q a.class a.pieced

  pub listed_operations_lem : listed_ecigar u symbols frame q ≡ print_all (listed_operations u symbols frame q)
  unfolding read_text
  listed_operations_lem = sym (text_is_table94 u symbols frame q a.class a.pieced)

  pub listed_counts : AllPositive (listed_operations u symbols frame q)
  listed_counts = rw start.are (read_positive u.alphabet q.block.rcomp q.block.clips start.piece start.others apart)

  pub listed_reads : total moves_read (listed_operations u symbols frame q) ≡ q.block.length
  listed_reads = omega (arith, read_read u.alphabet q.block.rcomp (size_of u.alphabet) 0 (mapped_in q) q.block.clips pieces in_span each_sound, a.pieced.soft)

  pub listed_end : q.position + total moves_reference (listed_operations u symbols frame q) ≤ u.end + 1
  listed_end =
      let at : begins_at start.piece ≡ q.position = ap (λ (x : SignedPosition). position_of x) start.at_is ∙ sub-zero q.position in
      rw start.are
      (omega (
        arith,
        at,
        read_reference_lem u.alphabet q.block.rcomp (size_of u.alphabet) q.block.clips start.piece start.others apart (rw start.are at each_sound),
        placed_last u reference 0 start.piece start.others parts,
      ))

  pub listed_length : length (listed_bases u reference symbols frame q) ≡ q.block.length
  listed_length = omega (arith, length_read_bases u.alphabet frame reference u.first q.block.soft_at left right pieces (mapped_in q) each_sound in_span, a.pieced.soft)

  pub listed_match : (i at : ℕ) → Matches u symbols frame q i at → get_or (listed_bases u reference symbols frame q) (left + i) 0 ≡ base_at u.alphabet reference u.first at
  listed_match = spliced_under_match u.alphabet frame reference u.first q.block.soft_at left right pieces (mapped_in q) each_sound in_span

  pub listed_lent : (i at : ℕ) → Matches u symbols frame q i at → u.first ≤ at → at < u.first + length reference
      → get_or (listed_bases u reference symbols frame q) (left + i) 0 ≡ letter_of u.alphabet (lent_symbol reference u.first at)
  listed_lent i at m h k = listed_match i at m ∙ lent_base u.alphabet reference u.first at h k

  pub listed_missing : (i at : ℕ) → Matches u symbols frame q i at → (u.first ≤ at → at < u.first + length reference → ⊥) → get_or (listed_bases u reference symbols frame q) (left + i) 0 ≡ letter_n
  listed_missing i at m h = listed_match i at m ∙ missing_base u.alphabet reference u.first at h

  pub listed_place : (i at : ℕ) → Matches u symbols frame q i at → (u.start ≤ at) × (at ≤ u.end)
  listed_place i at m =
      matched_place {P = λ x. (u.start ≤ x) × (x ≤ u.end)} i at
      (placed_each u reference _ (λ least p h x l k. (omega (arith, h.inside.from), omega (arith, h.inside.last))) 0 pieces a.placed) m

  pub listed_edit : (i : ℕ) (e : Edit) → Brought u symbols frame q i e → get_or (listed_bases u reference symbols frame q) (left + i) 0 ≡ letter_of u.alphabet e.symbol
  listed_edit = spliced_of_edit u.alphabet frame reference u.first q.block.soft_at left right pieces (mapped_in q) each_sound in_span

  pub listed_from : (i : ℕ) → i < mapped_in q → ((at : ℕ) × Matches u symbols frame q i at) ⊎ ((e : Edit) × Brought u symbols frame q i e)
  listed_from i h = from_some_piece 0 (mapped_in q) i each_sound in_span (omega arith) h

  pub listed_left : (i : ℕ) → i < left → get_or (listed_bases u reference symbols frame q) i 0 ≡ letter_of u.alphabet (get_or frame (q.block.soft_at + i) 0)
  listed_left = spliced_left u.alphabet frame reference u.first q.block.soft_at left right pieces

  pub listed_right : (i : ℕ) → i < right → get_or (listed_bases u reference symbols frame q) (left + mapped_in q + i) 0 ≡ letter_of u.alphabet (get_or frame (q.block.soft_at + left + i) 0)
  listed_right = spliced_right u.alphabet frame reference u.first q.block.soft_at left right pieces (mapped_in q) each_sound in_span

  pub listed_letter : (i : ℕ) → i < q.block.length → Letter u.alphabet (get_or (listed_bases u reference symbols frame q) i 0)
  listed_letter i h =
      by_test (ltb i left)
      (λ s. let l = ltb-true i left s in rw (listed_left i l) (_, (a.clipped i (omega arith), refl)))
      (λ s.
      let l = ltb-false i left s in
      by_test (ltb i (left + mapped_in q))
      (λ t.
      let m = ltb-true i (left + mapped_in q) t in
      let k : left + (i - left) ≡ i = omega arith in
      ⊎_elim
      (λ w. rw (← k) (rw (listed_match (i - left) w.0 w.1) (base_letter u.alphabet reference u.first w.0 (matched_fine u.alphabet reference u.first (i - left) w.0 (placed_each u reference _ (λ least p h. h.known) 0 pieces a.placed) w.1))))
      (λ w. rw (← k) (rw (listed_edit (i - left) w.0 w.1) (_, (edited_symbol (i - left) w.0 each_sound w.1, refl))))
      (listed_from (i - left) (omega arith)))
      (λ t.
      let m = ltb-false i (left + mapped_in q) t in
      let j = i - (left + mapped_in q) in
      let k : left + mapped_in q + j ≡ i = omega arith in
      let less : j < right = omega (arith, a.pieced.soft) in
      let at : q.block.soft_at + left + j ≡ q.block.soft_at + (left + j) = omega arith in
      rw (← k) (rw (listed_right j less, at) (_, (a.clipped (left + j) (omega arith), refl)))))

  -- ---- its deletions are flanked

  abbrev edits : List Edit
  edits = edits_in u frame q

  abbrev lengths : List ℕ
  lengths = lengths_in frame q.splices

  abbrev positions : List SignedPosition
  positions = positions_from symbols (first_mapping q.splices q.position) lengths

  -- a base that is not inserted lies on the reference
  lies : (i : ℕ) → i < mapped_in q → inserted_at i edits ≡ false → (at : ℕ) × Lies u symbols frame q i at
  unfolding pieces_in
  lies i h n = uninserted_lies 0 (mapped_in q) i each_sound (pieces_uninserted (mapped_in q) 0 i edits (less_first left lengths) positions n) in_span (omega arith) h

  -- before each deletion there is one, and behind it
  pub listed_flanked : (o : ℕ) → Deleted u frame q o
      → ((i : ℕ) × ((i < o) × ((at : ℕ) × Lies u symbols frame q i at))) × ((i : ℕ) × ((o ≤ i) × ((i < mapped_in q) × ((at : ℕ) × Lies u symbols frame q i at))))
  listed_flanked o d =
      let h = each_holds (flanked (mapped_in q) edits) o edits a.flanks d in
      let both = and_both (some_base edits 0 o) (some_base edits o (mapped_in q - o)) h in
      let x = some_base_lem edits 0 o both.0 in
      let y = some_base_lem edits o (mapped_in q - o) both.1 in
      let below : o < mapped_in q = omega (arith, y.1.0, y.1.1.0) in (
        (x.0, (omega (arith, x.1.1.0), lies x.0 (omega (arith, x.1.1.0)) x.1.1.1)),
        (y.0, (y.1.0, (omega (arith, y.1.1.0), lies y.0 (omega (arith, y.1.1.0)) y.1.1.1))),
      )

  begun : begins_at start.piece ≡ q.position
  begun = ap (λ (x : SignedPosition). position_of x) start.at_is ∙ sub-zero q.position

  reached : q.position + total moves_reference (listed_operations u symbols frame q) ≡ end_of (last_piece start.piece start.others)
  reached =
      rw start.are
      (omega (arith, begun, read_reference_lem u.alphabet q.block.rcomp (size_of u.alphabet) q.block.clips start.piece start.others apart (rw start.are at each_sound)))

  between : EachPiece (λ (p : Piece). (at : ℕ) → begins_at p ≤ at → at < end_of p → (q.position ≤ at) × (at < q.position + total moves_reference (listed_operations u symbols frame q))) pieces
  between = subst (λ (l : List Piece). EachPiece (λ (p : Piece). (at : ℕ) → begins_at p ≤ at → at < end_of p → (q.position ≤ at) × (at < q.position + total moves_reference (listed_operations u symbols frame q))) l) (sym start.are) (apart_each q.position _ start.piece start.others (omega (arith, begun)) apart (omega (arith, reached)))

  ending : OfLast (λ (p : Piece). end_of p ≡ q.position + total moves_reference (listed_operations u symbols frame q)) pieces
  ending =
      let here = λ (p : Piece). end_of p ≡ q.position + total moves_reference (listed_operations u symbols frame q) in
      subst (λ (l : List Piece). OfLast here l) (sym start.are) (is_last here start.piece start.others (omega (arith, reached)))

  fronts : OfFirst (λ (p : Piece). fronted p.start p.edits ≡ true) pieces
  unfolding pieces_in
  fronts = first_fronted (mapped_in q) (size_of u.alphabet) 0 edits (less_first left lengths) positions a.pieced.sound (flanked_front (mapped_in q) edits a.flanks)

  backs : OfLast (λ (p : Piece). backed p.until p.edits ≡ true) pieces
  unfolding pieces_in
  backs =
      last_backed (mapped_in q) (size_of u.alphabet) 0 edits (less_first left lengths) positions
      (length_positions symbols (first_mapping q.splices q.position) lengths ∙ sym (clipped_length left lengths))
      a.pieced.sound (flanked_back (mapped_in q) edits a.flanks)

  -- a base that lies on the reference is one of the mapped bases, and lies between the listed position and the last that the E-CIGAR reaches
  pub listed_lies : (i at : ℕ) → Lies u symbols frame q i at → (i < mapped_in q) × ((q.position ≤ at) × (at < q.position + total moves_reference (listed_operations u symbols frame q)))
  listed_lies i at w = (lies_below 0 (mapped_in q) i at each_sound in_span w, lies_place i at between w)

  -- it has a piece
  pub listed_any : 1 ≤ length pieces
  listed_any = rw start.are (omega arith)

  -- where the first piece has a base on the reference, one lies at the listed position
  pub listed_first : OfFirst (λ (p : Piece). has_base p ≡ true → (i : ℕ) × ((i < mapped_in q) × Lies u symbols frame q i q.position)) pieces
  listed_first = first_at pieces q.position (size_of u.alphabet) (mapped_in q) in_span (rw start.are begun) each_sound fronts

  -- where the last piece has one, one lies at the last position that its E-CIGAR reaches
  pub listed_last_lem : OfLast (λ (p : Piece). has_base p ≡ true → (i : ℕ) × ((i < mapped_in q) × Lies u symbols frame q i (q.position + total moves_reference (listed_operations u symbols frame q) - 1))) pieces
  listed_last_lem = last_at pieces _ (size_of u.alphabet) (mapped_in q) in_span ending each_sound backs

  -- ---- how long its E-CIGAR is

  few_edits : pieces_edits pieces ≤ most_edits
  unfolding pieces_in
  few_edits = omega (arith, a.pieced.few, length_edits u.class u.alphabet frame q.block.edits q.block.edits_at, pieces_edits_lem (mapped_in q) 0 edits (less_first left lengths) positions)

  few_pieces : length pieces ≤ most_pieces
  unfolding pieces_in
  few_pieces = omega (arith, a.pieced.most, length_words_at q.splices.count frame q.splices.lengths_at, clipped_length left lengths, pieces_few (mapped_in q) 0 edits (less_first left lengths) positions)

  all_below : EachPiece DeletedBelow pieces
  unfolding pieces_in
  all_below = pieces_below (mapped_in q) 0 edits (less_first left lengths) positions (flanked_below (mapped_in q) edits a.flanks)

  least : OfFirst (λ (p : Piece). each_deletion (λ o. leb 1 o) p.edits ≡ true) pieces
  unfolding pieces_in
  least = first_least (mapped_in q) 0 edits (less_first left lengths) positions (flanked_least (mapped_in q) edits a.flanks)

  -- no E-CIGAR is longer than 4,165 characters
  pub listed_short : ((i : ℕ) → get_or frame i 0 < 256) → u.end < 2 ^ 32 → length (listed_ecigar u symbols frame q) ≤ longest_spliced
  listed_short bytes fits =
      let ends = placed_each u reference EndFits (λ least p h. omega (arith, h.inside.last)) 0 pieces a.placed in
      rw (← (text_is_table94 u symbols frame q a.class a.pieced), start.are)
      (read_short u.alphabet q.block.rcomp (size_of u.alphabet) (mapped_in q) q.block.clips start.piece start.others
      (rw start.are at in_span) (rw start.are at each_sound) apart (rw start.are at ends) (rw start.are at all_below) (rw start.are at least) (a.fit bytes)
      (rw start.are at few_pieces) (omega (arith, a.pieced.short)) (rw start.are at few_edits))

  -- and none of a read in one piece longer than 4,012
  pub listed_plain : ((i : ℕ) → get_or frame i 0 < 256) → q.splices.count ≡ 1 → length (listed_ecigar u symbols frame q) ≤ longest_plain
  listed_plain bytes one =
      let only = only_piece_lem u.class u.alphabet frame symbols q.block q.splices q.position one in
      rw (← (text_is_table94 u symbols frame q a.class a.pieced), only)
      (one_short u.alphabet q.block.rcomp (size_of u.alphabet) (mapped_in q) q.block.clips (only_piece u.class u.alphabet frame q.block q.position)
      (rw only at in_span) record { base = omega (arith, a.pieced.soft); sound = a.pieced.sound } (flanked_below (mapped_in q) edits a.flanks) (flanked_least (mapped_in q) edits a.flanks) (a.fit bytes)
      (omega (arith, a.pieced.short)) (omega (arith, a.pieced.few, length_edits u.class u.alphabet frame q.block.edits q.block.edits_at)))
