-- The text of a read over introns is Table 94's, and Table 94 with one spliced segment is Table 92.
-- Assumes nothing.
use mathlib.Core.Path.{◌≡◌, refl, sym, ap, ◌∙◌}
use mathlib.Core.Bool.{Bool, cond}
use mathlib.Core.List.{List, [], ◌∷◌, ◌++◌, map, map-map, append-nil, append_assoc}
use Prim.Native.Nat.{ℕ, zero, suc, ◌+◌, ◌-◌, ◌<◌, ◌≤◌}
use native.Mathlib.Omega.{arith}
use native.Mathlib.Nat.{sub_self}
use borrow.Author.Tests.{lt-ltb, le-ltb, lt-leb, le-leb, eq-eqb, ne_eqb, eqb-true, eqb-false, ltb-true, ltb-false, leb-true, leb-false}
use lib.Dec.{ltb, leb, eqb}
use lib.ListN.{length, take, drop}
use lib.Seq.{drop-drop, take_all}
use Rattle.refusal.specs.Answers.{no_refusal}
use Rattle.frame.proofs.HexLaws.{by_test}
use Rattle.unit.specs.Unit.{class_p, class_n, class_m, class_i, class_hm}
use Rattle.alphabet.specs.Table35.{letter_of, size_of}
use Rattle.edits.specs.Edits.{deletion, next_offset, deletion_refusal, edit_refusal, Sound}
use Rattle.edits.specs.Pieces as edits
use Rattle.edits.specs.Pieces.{SignedPosition, Piece, begins_at, end_of, edits_before, edits_behind, pieces_from, pieces_of, less_first, sum_of, EachPiece, cons}
use Rattle.edits.specs.declared.edit.Edit.{Edit}
use Rattle.edits.specs.declared.Clips.{Clips}
use Rattle.edits.proofs.EditLaws.{sound_accepted, sound_tail, edit_accepted, next_least}
use Rattle.edits.proofs.PieceLaws.{PieceSound, NoneZero, before_behind}
use Rattle.ecigar.specs.declared.walk.Walk.{Walk}
use Rattle.ecigar.specs.Table90.{slash_sign, percent_sign, star_sign, print_all}
use Rattle.ecigar.specs.Ecigar.{set_out_at, set_out, joins_run, past, open_run, gap, mark, ending, operations_from, ecigar_of, left_clip, right_clip}
use Rattle.ecigar.specs.Spliced.{splice_of, piece_operations, splices_from, pieces_operations, read_text, ClipsLeave}
use Rattle.tables.specs.Table93.{inttostr, decode_ecigar_mismatches}
use Rattle.tables.specs.Table92.{ecigar_string, offsets_of, letters_in, types_of}
use Rattle.tables.specs.Table94.{SplicedSeg, seg_at, between, unclipped_length, splice_offset, with_splice, decode_spliced_seg, spliced_loop, spliced_ecigar_string, spliced_seg_of, spliced_segs_from}
use Rattle.ecigar.proofs.WalkLaws.{past_next}
use Rattle.tables.proofs.Table92Laws.{table93_edits, is_indel, left_text, right_text}
use Rattle.ecigar.proofs.SpliceLaws.{splice_forward, splice_reverse, splice_undirected}
use Rattle.tables.proofs.SplicedLaws.{read_parts, pieces_none, pieces_parts, splices_none, splices_parts, clipped_sum, clipped_any, clipped_length, pieces_of_sound}

-- ---- offsets that are all less by the same: the walk is the same

module _ (k : ℕ) where
  -- an edit, and a place of the walk, so many bases nearer to the start
  abbrev back : Edit → Edit
  back e = record { offset = e.offset - k; kind = e.kind; symbol = e.symbol }

  abbrev backed : Walk → Walk
  backed w = record { next = w.next - k; kind = w.kind; run = w.run }

  next_back : (e : Edit) → k ≤ e.offset → next_offset (back e) ≡ next_offset e - k
  unfolding next_offset
  next_back e h = by_test (eqb e.kind deletion) (λ t. simp t) (λ t. simp t (omega arith))

  -- two numbers that are both less by the same
  equal_back : (a b : ℕ) → k ≤ a → k ≤ b → eqb (a - k) (b - k) ≡ eqb a b
  equal_back a b g h =
      by_test (eqb a b) (λ t. let z = eqb-true a b t in rw t (eq-eqb (a - k) (b - k) (omega arith)))
      (λ t. let z = eqb-false a b t in rw t (ne_eqb (a - k) (b - k) (λ y. z (omega arith))))

  less_back : (a b : ℕ) → k ≤ a → k ≤ b → ltb (a - k) (b - k) ≡ ltb a b
  less_back a b g h =
      by_test (ltb a b) (λ t. let z = ltb-true a b t in rw t (lt-ltb (a - k) (b - k) (omega arith)))
      (λ t. let z = ltb-false a b t in rw t (le-ltb (a - k) (b - k) (omega arith)))

  most_back : (a b : ℕ) → k ≤ a → k ≤ b → leb (a - k) (b - k) ≡ leb a b
  most_back a b g h =
      by_test (leb a b) (λ t. let z = leb-true a b t in rw t (le-leb (a - k) (b - k) (omega arith)))
      (λ t. let z = leb-false a b t in rw t (lt-leb (a - k) (b - k) (omega arith)))

  joins_back : (w : Walk) (e : Edit) → k ≤ w.next → k ≤ e.offset → joins_run (backed w) (back e) ≡ joins_run w e
  unfolding joins_run
  joins_back w e g h = rw (equal_back e.offset w.next h g)

  past_back : (w : Walk) (e : Edit) → k ≤ w.next → k ≤ e.offset → past (backed w) (back e) ≡ backed (past w e)
  unfolding past
  past_back w e g h = rw (joins_back w e g h, next_back e h)

  gap_back : (w : Walk) (e : Edit) → k ≤ w.next → k ≤ e.offset → gap (backed w) (back e) ≡ gap w e
  unfolding gap open_run
  gap_back w e g h = let d : (e.offset - k) - (w.next - k) ≡ e.offset - w.next = omega arith in rw (joins_back w e g h, d)

  mark_back : (alphabet : ℕ) (e : Edit) → mark alphabet (back e) ≡ mark alphabet e
  unfolding mark
  mark_back alphabet e = refl

  operations_back : (alphabet until symbols : ℕ) (w : Walk) (es : List Edit) → k ≤ w.next → Sound until symbols w.next es
      → operations_from alphabet (until - k) (backed w) (map back es) ≡ operations_from alphabet until w es
  unfolding operations_from ending open_run
  operations_back alphabet until symbols w [] h s = let d : (until - k) - (w.next - k) ≡ until - w.next = omega arith in rw d
  operations_back alphabet until symbols w (e ∷ es) h s =
      let a = sound_accepted until symbols w.next e es s in
      let g : k ≤ e.offset = omega (arith, a.order) in
      let n = past_next w e refl in
      rw (gap_back w e h g, mark_back alphabet e, past_back w e h g)
      (ap (λ l. (gap w e ++ mark alphabet e) ++ l)
      (operations_back alphabet until symbols (past w e) es (omega (arith, n, next_least e)) (rw n (sound_tail until symbols w.next e es s))))

  refusal_back : (until symbols next : ℕ) (e : Edit) → k ≤ next → edit_refusal until symbols next e ≡ no_refusal → edit_refusal (until - k) symbols (next - k) (back e) ≡ no_refusal
  unfolding edit_refusal deletion_refusal
  refusal_back until symbols next e h z =
      let a = edit_accepted until symbols next e z in
      let g : k ≤ e.offset = omega (arith, a.order) in
      let f : k ≤ until = omega (arith, a.inside, next_least e) in
      rw (less_back e.offset next g h, less_back until e.offset f g, most_back until e.offset f g) z

  sound_back : (until symbols next : ℕ) (es : List Edit) → k ≤ next → Sound until symbols next es → Sound (until - k) symbols (next - k) (map back es)
  unfolding Sound
  sound_back until symbols next [] h s = tt
  sound_back until symbols next (e ∷ es) h s =
      let a = edit_accepted until symbols next e s.0 in
      let g : k ≤ e.offset = omega (arith, a.order) in
      (refusal_back until symbols next e h s.0, rw (next_back e g) (sound_back until symbols (next_offset e) es (omega (arith, next_least e)) s.1))

  length_back : (es : List Edit) → length (map back es) ≡ length es
  length_back [] = refl
  length_back (e ∷ es) = ap suc (length_back es)

-- ---- the text of a piece is Table 93's, of its own offsets and length

piece_text : (class alphabet start until : ℕ) (es : List Edit) → class_i ≤ class → class ≤ class_hm → Sound until (size_of alphabet) start es
    → decode_ecigar_mismatches class (until - start) (length es) (map (λ (e : Edit). e.offset - start) es) (letters_in alphabet es) (types_of es)
    ≡ print_all (operations_from alphabet until (set_out_at start) es)
unfolding ecigar_of
piece_text class alphabet start until es l h s =
    let moved = map (back start) es in
    let offsets : offsets_of moved ≡ map (λ (e : Edit). e.offset - start) es = map-map (λ (e : Edit). e.offset) (back start) es in
    let letters : letters_in alphabet moved ≡ letters_in alphabet es = map-map (λ (e : Edit). letter_of alphabet e.symbol) (back start) es in
    let kinds : types_of moved ≡ types_of es = map-map (λ (e : Edit). e.kind) (back start) es in
    let sound : Sound (until - start) (size_of alphabet) 0 moved = rw (sub_self start) at (sound_back start until (size_of alphabet) start es (omega arith) s) in
    let walk : operations_from alphabet (until - start) set_out moved ≡ operations_from alphabet until (set_out_at start) es =
    rw (sub_self start) at (operations_back start alphabet until (size_of alphabet) (set_out_at start) es (omega arith) s) in
    rw (← offsets, ← letters, ← kinds, ← length_back start es) (table93_edits class alphabet (until - start) moved sound l h ∙ ap print_all walk)

-- ---- a part of an array

take_map : (f : Edit → ℕ) (xs ys : List Edit) → take (length xs) (map f (xs ++ ys)) ≡ map f xs
take_map f [] ys = refl
take_map f (x ∷ xs) ys = ap (λ (l : List ℕ). f x ∷ l) (take_map f xs ys)

drop_map : (f : Edit → ℕ) (xs ys : List Edit) → drop (length xs) (map f (xs ++ ys)) ≡ map f ys
drop_map f [] ys = refl
drop_map f (x ∷ xs) ys = drop_map f xs ys

module _ (f : Edit → ℕ) (a : List ℕ) (idx : ℕ) (xs ys : List Edit) (q : drop idx a ≡ map f (xs ++ ys)) where
  between_here : between a idx (length xs) ≡ map f xs
  between_here = rw q (take_map f xs ys)

  between_next : drop (idx + length xs) a ≡ map f ys
  between_next = sym (drop-drop (length xs) idx a) ∙ ap (λ (l : List ℕ). drop (length xs) l) q ∙ drop_map f xs ys

no_seg : {s : SplicedSeg} {rest : List SplicedSeg} {P : Type 0} → ◌≡◌ {A = List SplicedSeg} [] (s ∷ rest) → P
no_seg q = absurd (let z : ◌≡◌ {A = ℕ} 0 1 = cc in omega arith)

seg_here : (segs : List SplicedSeg) (i : ℕ) (s : SplicedSeg) (rest : List SplicedSeg) → drop i segs ≡ s ∷ rest → seg_at segs i ≡ s
seg_here [] zero s rest q = no_seg q
seg_here [] (suc i) s rest q = no_seg q
seg_here (x ∷ segs) zero s rest q = cc
seg_here (x ∷ segs) (suc i) s rest q = seg_here segs i s rest q

seg_next : (segs : List SplicedSeg) (i : ℕ) (s : SplicedSeg) (rest : List SplicedSeg) → drop i segs ≡ s ∷ rest → drop (i + 1) segs ≡ rest
seg_next segs i s rest q = sym (drop-drop 1 i segs) ∙ ap (λ (l : List SplicedSeg). drop 1 l) q

-- ---- a splice

splice_text_lem : (rcomp n : ℕ) (text : List ℕ) → rcomp ≤ 2 → with_splice rcomp n text ≡ text ++ print_all (splice_of rcomp n ∷ [])
unfolding with_splice
splice_text_lem rcomp n text h =
    by_test (eqb rcomp 0) (λ a. rw (a, splice_forward rcomp n (eqb-true _ _ a)) (append_assoc text (inttostr n) (slash_sign ∷ [])))
    (λ a. by_test (eqb rcomp 1) (λ b. rw (a, b, splice_reverse rcomp n (eqb-true _ _ b)) (append_assoc text (inttostr n) (percent_sign ∷ [])))
    (λ b.
    let y = eqb-false rcomp 0 a in
    let z = eqb-false rcomp 1 b in
    let two : rcomp ≡ 2 = omega arith in
    rw (a, b, eq-eqb rcomp 2 two, splice_undirected rcomp n y z) (append_assoc text (inttostr n) (star_sign ∷ []))))

-- ---- lengths and pieces that go together

-- a piece has the bases of its length, the last those that its clip leaves
unfoldable pub Measured : (rightSoft : ℕ) → List ℕ → List Piece → Type 0
Measured rightSoft [] [] = Unit
Measured rightSoft [] (p ∷ ps) = ⊥
Measured rightSoft (n ∷ ns) [] = ⊥
Measured rightSoft (n ∷ []) (p ∷ []) = n - rightSoft ≡ p.until - p.start
Measured rightSoft (n ∷ []) (p ∷ q ∷ ps) = ⊥
Measured rightSoft (n ∷ m ∷ ns) (p ∷ ps) = (n ≡ p.until - p.start) × Measured rightSoft (m ∷ ns) ps

measured_tail : (rightSoft n : ℕ) (ns : List ℕ) (p : Piece) (ps : List Piece) → Measured rightSoft (n ∷ ns) (p ∷ ps) → Measured rightSoft ns ps
unfolding Measured
measured_tail rightSoft n [] p [] m = tt
measured_tail rightSoft n [] p (q ∷ ps) m = absurd m
measured_tail rightSoft n (l ∷ ns) p ps m = m.1

-- the length that Table 94 comes to, where m is what the left clip leaves
measured_length : (number leftSize rightSize i n m : ℕ) (ns : List ℕ) (p : Piece) (ps : List Piece) → m ≡ cond (eqb i 0) (n - leftSize) n → Measured rightSize (m ∷ ns) (p ∷ ps)
    → i + length (m ∷ ns) ≡ number → unclipped_length number leftSize rightSize i n ≡ p.until - p.start
unfolding Measured unclipped_length
measured_length number leftSize rightSize i n m [] p [] q w c = rw (eq-eqb i (number - 1) (omega arith)) (ap (λ (x : ℕ). x - rightSize) (sym q) ∙ w)
measured_length number leftSize rightSize i n m [] p (r ∷ ps) q w c = absurd w
measured_length number leftSize rightSize i n m (l ∷ ns) p ps q w c = rw (ne_eqb i (number - 1) (λ z. omega arith)) (sym q ∙ w.0)

-- the edits of all pieces, one behind the other
unfoldable pub all_edits : List Piece → List Edit
all_edits [] = []
all_edits (p ∷ ps) = p.edits ++ all_edits ps

-- ---- Table 94's loop

module _ (class alphabet rcomp number leftSize rightSize : ℕ) (segs : List SplicedSeg) (mismatches mismatchTypes : List ℕ) (low : class_i ≤ class) (high : class ≤ class_hm) (strand : rcomp ≤ 2) where
  abbrev loop : ℕ → ℕ → List ℕ → List ℕ
  loop left i text = spliced_loop class number leftSize rightSize segs mismatches mismatchTypes left i text

  -- what a turn puts behind the text
  abbrev turn : (i : ℕ) (before here : SplicedSeg) (text : List ℕ) → List ℕ
  turn i before here text =
      cond (ltb 0 i) (with_splice here.reverse_comp (splice_offset before here) text) text
      ++ decode_spliced_seg class (unclipped_length number leftSize rightSize i here.spliced_seg_length) mismatches mismatchTypes here

  loop_on : (left i : ℕ) (text : List ℕ) (here : SplicedSeg) → seg_at segs i ≡ here → loop (suc left) i text ≡ loop left (i + 1) (turn i (seg_at segs (i - 1)) here text)
  unfolding spliced_loop
  loop_on left i text here q = ap (λ (h : SplicedSeg). loop left (i + 1) (turn i (seg_at segs (i - 1)) h text)) q

  -- what the arrays hold from index i on, where idx mismatches stand before
  record Held (idx i : ℕ) (ns : List ℕ) (ps : List Piece) : Type 0 where
    pub items : drop i segs ≡ spliced_segs_from rcomp idx ns ps
    pub letters : drop idx mismatches ≡ letters_in alphabet (all_edits ps)
    pub kinds : drop idx mismatchTypes ≡ types_of (all_edits ps)
    pub sound : EachPiece (PieceSound (size_of alphabet)) ps

  module _ (idx i n : ℕ) (ns : List ℕ) (p : Piece) (ps : List Piece) (g : Held idx i (n ∷ ns) (p ∷ ps)) where
    item_of : seg_at segs i ≡ spliced_seg_of rcomp idx n p
    unfolding spliced_segs_from
    item_of = seg_here segs i _ _ g.items

    held_next : Held (idx + length p.edits) (i + 1) ns ps
    unfolding spliced_segs_from all_edits
    held_next =
        record {
          items = seg_next segs i _ _ g.items;
          letters = between_next _ mismatches idx p.edits (all_edits ps) g.letters;
          kinds = between_next _ mismatchTypes idx p.edits (all_edits ps) g.kinds;
          sound = tail g.sound;
        }
      where
        tail : EachPiece (PieceSound (size_of alphabet)) (p ∷ ps) → EachPiece (PieceSound (size_of alphabet)) ps
        tail (cons _ b a) = a

    decoded_here : (len : ℕ) → len ≡ p.until - p.start → decode_spliced_seg class len mismatches mismatchTypes (spliced_seg_of rcomp idx n p) ≡ print_all (piece_operations alphabet p)
    unfolding all_edits
    decoded_here len q =
        rw (q, between_here _ mismatches idx p.edits (all_edits ps) g.letters, between_here _ mismatchTypes idx p.edits (all_edits ps) g.kinds)
        (piece_text class alphabet p.start p.until p.edits low high (head g.sound))
      where
        head : EachPiece (PieceSound (size_of alphabet)) (p ∷ ps) → Sound p.until (size_of alphabet) p.start p.edits
        head (cons _ b a) = b.sound

  -- behind the piece q
  splices_loop : (ns : List ℕ) (ps : List Piece) (idx i : ℕ) (q : Piece) (text : List ℕ) → Held idx i ns ps → Measured rightSize ns ps → 1 ≤ i → i + length ns ≡ number
      → (seg_at segs (i - 1)).spliced_seg_mapping_pos ≡ begins_at q → (seg_at segs (i - 1)).spliced_seg_mapped_length ≡ edits.spliced_seg_mapped_length q
      → loop (length ns) i text ≡ text ++ print_all (splices_from alphabet rcomp (end_of q) ps)
  unfolding spliced_loop Measured
  splices_loop [] [] idx i q text g m h c a b = rw (splices_none alphabet rcomp (end_of q)) (sym (append-nil text))
  splices_loop [] (p ∷ ps) idx i q text g m h c a b = absurd m
  splices_loop (n ∷ ns) [] idx i q text g m h c a b = absurd m
  splices_loop (n ∷ ns) (p ∷ ps) idx i q text g m h c a b =
      let it = item_of idx i n ns p ps g in
      let len = measured_length number leftSize rightSize i n n ns p ps (sym (ap (λ (t : Bool). cond t (n - leftSize) n) (ne_eqb i 0 (λ z. omega arith)))) m c in
      let gapped : splice_offset (seg_at segs (i - 1)) (spliced_seg_of rcomp idx n p) ≡ begins_at p - end_of q = omega (arith, a, b) in
      let back : i + 1 - 1 ≡ i = omega arith in
      let splice = print_all (splice_of rcomp (begins_at p - end_of q) ∷ []) in
      let piece = print_all (piece_operations alphabet p) in
      let adds : turn i (seg_at segs (i - 1)) (spliced_seg_of rcomp idx n p) text ≡ text ++ splice ++ piece =
      rw (lt-ltb 0 i h, gapped, splice_text_lem rcomp (begins_at p - end_of q) text strand, decoded_here idx i n ns p ps g _ len) in
      loop_on (length ns) i text _ it
      ∙ rw adds
      (splices_loop ns ps (idx + length p.edits) (i + 1) p (text ++ splice ++ piece) (held_next idx i n ns p ps g) (measured_tail rightSize n ns p ps m) (omega arith) (omega arith) (rw (back, it)) (rw (back, it))
      ∙ rw (splices_parts alphabet rcomp (end_of q) p ps) (simp append_assoc))

  pieces_loop : (ns : List ℕ) (ps : List Piece) → Held 0 0 ns ps → Measured rightSize (less_first leftSize ns) ps → length ns ≡ number
      → loop (length ns) 0 [] ≡ print_all (pieces_operations alphabet rcomp ps)
  unfolding spliced_loop Measured less_first
  pieces_loop [] [] g m c = sym (pieces_none alphabet rcomp)
  pieces_loop [] (p ∷ ps) g m c = absurd m
  pieces_loop (n ∷ ns) [] g m c = absurd m
  pieces_loop (n ∷ ns) (p ∷ ps) g m c =
      let it = item_of 0 0 n ns p ps g in
      let len = measured_length number leftSize rightSize 0 n (n - leftSize) ns p ps refl m (omega arith) in
      let piece = print_all (piece_operations alphabet p) in
      loop_on (length ns) 0 [] _ it
      ∙ rw (decoded_here 0 0 n ns p ps g _ len)
      (splices_loop ns ps (0 + length p.edits) (0 + 1) p piece (held_next 0 0 n ns p ps g) (measured_tail rightSize (n - leftSize) ns p ps m) (omega arith) (omega arith) (rw it) (rw it)
      ∙ sym (pieces_parts alphabet rcomp p ps))

-- ---- the whole

-- Of any pieces that go with their lengths and whose edits are accepted, in class I or HM, the text is Table 94's.
-- leftSoftClips and rightSoftClips are the clipped bases, of which only the number counts; the read length and the whole read's offsets are not looked at.
pub read_spliced : (class alphabet rcomp readLength numMismatches : ℕ) (mismatchOffsets : List ℕ) (clips : Clips) (left_soft_clips right_soft_clips lengths : List ℕ) (ps : List Piece)
    → class_i ≤ class → class ≤ class_hm → rcomp ≤ 2 → length left_soft_clips ≡ clips.left_soft → length right_soft_clips ≡ clips.right_soft
    → Measured clips.right_soft (less_first clips.left_soft lengths) ps
    → EachPiece (PieceSound (size_of alphabet)) ps
    → read_text alphabet rcomp clips ps
    ≡ spliced_ecigar_string class readLength numMismatches mismatchOffsets (letters_in alphabet (all_edits ps)) (types_of (all_edits ps)) (length lengths) (spliced_segs_from rcomp 0 lengths ps)
    left_soft_clips right_soft_clips clips.left_hard clips.right_hard
unfolding spliced_ecigar_string
read_spliced class alphabet rcomp readLength numMismatches mismatchOffsets clips left_soft_clips right_soft_clips lengths ps low high strand l r m sound =
    rw (ne_eqb class class_p (λ z. omega arith), ne_eqb class class_n (λ z. omega arith), ne_eqb class class_m (λ z. omega arith), is_indel class low high)
    (read_parts alphabet rcomp clips ps
    ∙ sym
    (right_text clips.right_soft clips.right_hard right_soft_clips _ r
    ∙ ap (λ (x : List ℕ). x ++ print_all (right_clip clips)) (left_text clips.left_soft clips.left_hard left_soft_clips _ l
    ∙ ap (λ (x : List ℕ). print_all (left_clip clips) ++ x)
    (pieces_loop class alphabet rcomp (length lengths) (length left_soft_clips) (length right_soft_clips) (spliced_segs_from rcomp 0 lengths ps) (letters_in alphabet (all_edits ps)) (types_of (all_edits ps))
    low high strand lengths ps record { items = refl; letters = refl; kinds = refl; sound = sound } (rw (l, r) m) refl))))

pieces_measured : (mapped rightSoft start : ℕ) (es : List Edit) (lengths : List ℕ) (positions : List SignedPosition) → start + sum_of lengths ≡ mapped + rightSoft → length positions ≡ length lengths
    → Measured rightSoft lengths (pieces_from mapped start es lengths positions)
unfolding Measured pieces_from sum_of
pieces_measured mapped rightSoft start es [] ps q c = tt
pieces_measured mapped rightSoft start es (n ∷ ns) [] q c = absurd (omega arith)
pieces_measured mapped rightSoft start es (n ∷ []) (p ∷ ps) q c = omega arith
pieces_measured mapped rightSoft start es (n ∷ m ∷ ns) (p ∷ ps) q c =
    (omega arith, pieces_measured mapped rightSoft (start + n) (edits_behind (start + n) es) (m ∷ ns) ps (omega arith) (omega arith))

-- the pieces have the read's edits, in order
pub pieces_all : (mapped start : ℕ) (es : List Edit) (lengths : List ℕ) (positions : List SignedPosition) → 0 < length lengths → length positions ≡ length lengths
    → all_edits (pieces_from mapped start es lengths positions) ≡ es
unfolding all_edits pieces_from
pieces_all mapped start es [] ps h c = absurd (omega arith)
pieces_all mapped start es (n ∷ ns) [] h c = absurd (omega arith)
pieces_all mapped start es (n ∷ []) (p ∷ ps) h c = append-nil es
pieces_all mapped start es (n ∷ m ∷ ns) (p ∷ ps) h c =
    ap (λ (l : List Edit). edits_before (start + n) es ++ l) (pieces_all mapped (start + n) (edits_behind (start + n) es) (m ∷ ns) ps (omega arith) (omega arith)) ∙ before_behind (start + n) es

-- FOR EVERY READ OF CLASS I OR HM whose edits are accepted and whose clips leave its pieces a base, the text is Table 94's.
pub read_is_table94 : (class alphabet rcomp mapped readLength : ℕ) (es : List Edit) (clips : Clips) (left_soft_clips right_soft_clips lengths : List ℕ) (positions : List SignedPosition)
    → class_i ≤ class → class ≤ class_hm → rcomp ≤ 2 → length left_soft_clips ≡ clips.left_soft → length right_soft_clips ≡ clips.right_soft
    → NoneZero lengths → sum_of lengths ≡ clips.left_soft + mapped + clips.right_soft → ClipsLeave clips.left_soft clips.right_soft lengths
    → length positions ≡ length lengths
    → Sound mapped (size_of alphabet) 0 es
    → read_text alphabet rcomp clips (pieces_of mapped clips.left_soft es lengths positions)
    ≡ spliced_ecigar_string class readLength (length es) (offsets_of es) (letters_in alphabet es) (types_of es) (length lengths)
    (spliced_segs_from rcomp 0 lengths (pieces_of mapped clips.left_soft es lengths positions))
    left_soft_clips right_soft_clips clips.left_hard clips.right_hard
read_is_table94 class alphabet rcomp mapped readLength es clips left_soft_clips right_soft_clips lengths positions low high strand l r some sum leave many sound =
    let left = clips.left_soft in
    let right = clips.right_soft in
    let ps = pieces_of mapped left es lengths positions in
    let each = pieces_of_sound mapped (size_of alphabet) left right es lengths positions some sum leave sound in
    let rest = clipped_sum mapped left right lengths sum leave in
    let all : all_edits ps ≡ es = pieces_all mapped 0 es (less_first left lengths) positions (clipped_any left right lengths leave) (many ∙ sym (clipped_length left lengths)) in
    read_spliced class alphabet rcomp readLength (length es) (offsets_of es) clips left_soft_clips right_soft_clips lengths ps low high strand l r
    (pieces_measured mapped right 0 es (less_first left lengths) positions (omega arith) (many ∙ sym (clipped_length left lengths))) each
    ∙ rw all

-- ---- one spliced segment

-- with one spliced segment, which has the whole segment's length and mismatches, Table 94 is Table 92, in every class
pub table94_one : (classId readLength numMismatches : ℕ) (mismatchOffsets mismatches mismatchTypes : List ℕ) (only : SplicedSeg) (left_soft_clips right_soft_clips : List ℕ) (leftHardClips rightHardClips : ℕ)
    → only.spliced_seg_length ≡ readLength → only.spliced_seg_mismatch_idx ≡ 0 → only.spliced_seg_mismatch_number ≡ numMismatches → only.spliced_seg_mismatch_offsets ≡ mismatchOffsets
    → length mismatches ≤ numMismatches → length mismatchTypes ≤ numMismatches
    → spliced_ecigar_string classId readLength numMismatches mismatchOffsets mismatches mismatchTypes 1 (only ∷ []) left_soft_clips right_soft_clips leftHardClips rightHardClips
    ≡ ecigar_string classId readLength numMismatches mismatchOffsets mismatches mismatchTypes left_soft_clips right_soft_clips leftHardClips rightHardClips
unfolding spliced_ecigar_string ecigar_string spliced_loop unclipped_length
table94_one classId readLength numMismatches mismatchOffsets mismatches mismatchTypes only left_soft_clips right_soft_clips leftHardClips rightHardClips len idx number offsets m t =
    rw (len, idx, number, offsets, take_all numMismatches mismatches m, take_all numMismatches mismatchTypes t)
