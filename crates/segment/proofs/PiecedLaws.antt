-- The laws of a read whose block was accepted: its pieces can be walked over, and its text is Table 94's.
-- Assumes nothing.
use Prim.Native.Nat.{ℕ, zero, suc, ◌+◌, ◌^◌, ◌<◌, ◌≤◌}
use mathlib.Core.Bool.{false}
use mathlib.Core.Path.{◌≡◌, refl, sym, ap, subst, ◌∙◌}
use mathlib.Core.List.{List, [], ◌∷◌}
use native.Mathlib.Omega.{arith}
use borrow.Author.Tests.{ltb-true, ltb-false, ne_eqb, eqb-false}
use lib.Dec.{ltb, eqb}
use lib.ListN.{length}
use Rattle.frame.specs.Field.{big_at}
use Rattle.frame.proofs.HexLaws.{by_test}
use Rattle.unit.specs.Unit.{class_p, class_n, class_m, class_i}
use Rattle.unit.specs.declared.Unit.{Unit}
use Rattle.alphabet.specs.Table35.{size_of}
use Rattle.state.specs.Listed.{words_at}
use Rattle.state.proofs.HeadLaws.{length_words_at}
use Rattle.edits.specs.Edits.{block_edits}
use Rattle.edits.specs.Code.Runs.{substitutes_only}
use Rattle.edits.specs.Lengths.{mapped_length}
use Rattle.edits.specs.Pieces.{EachPiece, nil, cons, Spans, sum_of, last_length}
use Rattle.edits.specs.declared.Block.{Block}
use Rattle.edits.proofs.EditLaws.{length_edits}
use Rattle.edits.proofs.PieceLaws.{PieceSound}
use Rattle.splices.specs.declared.Splices.{Splices}
use Rattle.splices.specs.declared.mapping.Mapping.{Mapping}
use Rattle.splices.specs.Located.{following, positions_from, lengths_in, first_mapping, pieces_in}
use Rattle.splices.specs.Code.Walk.{pieces_left, first_piece, NarrowSplices}
use Rattle.splices.proofs.WalkLaws.{pieces_begin, first_cut, begin_kept, begin_mapping}
use Rattle.tables.specs.Table92.{ecigar_string}
use Rattle.tables.specs.Table94.{SplicedSeg, spliced_ecigar_string}
use Rattle.ecigar.specs.Ecigar.{OfItsClass}
use Rattle.ecigar.specs.Spliced.{read_text, ClipsLeave}
use Rattle.tables.proofs.SplicedLaws.{pieces_of_sound, pieces_of_span}
use Rattle.tables.proofs.Table92Laws.{ecigar_is_table92}
use Rattle.tables.proofs.Table94Laws.{read_is_table94}
use Rattle.bases.proofs.ReferenceLaws.{length_letters}
use Rattle.pieces.specs.Code.Checked.{WalkBegun}
use Rattle.segment.specs.Segment.{edits_in, pieces_at, left_soft_clips, right_soft_clips, table92, table94}
use Rattle.segment.specs.Code.Ready.{Pieced}
use Rattle.segment.specs.declared.Placed.{Placed}
use Rattle.segment.proofs.OneLaws.{only_piece, only_piece_lem, only_text}

-- ---- as many positions as pieces

pub length_positions : (symbols : List ℕ) (m : Mapping) (lengths : List ℕ) → length (positions_from symbols m lengths) ≡ length lengths
unfolding positions_from
length_positions symbols m [] = refl
length_positions symbols m (n ∷ []) = refl
length_positions symbols m (n ∷ k ∷ ns) = ap suc (length_positions symbols (following symbols m n) (k ∷ ns))

-- of two pieces and more
pub leaves_more : (left right : ℕ) (frame : List ℕ) (k at : ℕ) → left < big_at 2 frame at → right < last_length (words_at (suc (suc k)) frame at) → ClipsLeave left right (words_at (suc (suc k)) frame at)
unfolding words_at ClipsLeave last_length
leaves_more left right frame k at l m = (l, m)

module _ (class alphabet : ℕ) (frame symbols : List ℕ) (b : Block) (s : Splices) (g : Pieced class alphabet frame b s) where
  abbrev left : ℕ
  left = b.clips.left_soft

  abbrev right : ℕ
  right = b.clips.right_soft

  abbrev mapped : ℕ
  mapped = mapped_length b.length b.clips

  count_is : length (lengths_in frame s) ≡ s.count
  count_is = length_words_at s.count frame s.lengths_at

  many : (position : ℕ) → length (positions_from symbols (first_mapping s position) (lengths_in frame s)) ≡ length (lengths_in frame s)
  many position = length_positions symbols (first_mapping s position) (lengths_in frame s)

  adds_up : class_i ≤ class → sum_of (lengths_in frame s) ≡ left + mapped + right
  adds_up i = omega (arith, g.sum i, g.soft)

  -- in one piece, the clips leave the read a base
  pub clips_leave : class_i ≤ class → ClipsLeave left right (lengths_in frame s)
  unfolding words_at ClipsLeave sum_of
  clips_leave i =
      by_test (ltb s.count 2)
      (λ t.
      let one : s.count ≡ 1 = omega (arith, g.least, ltb-true s.count 2 t) in
      let sum = rw one at (adds_up i) in
      rw one (omega (arith, g.soft)))
      (λ t. g.leave (ltb-false s.count 2 t))

  in_one : class < class_i → s.count ≡ 1
  in_one h = ap (λ (x : Splices). x.count) (g.plain h)

  -- every piece's edits are accepted, and the pieces follow each other
  pub all_sound : (position : ℕ) → EachPiece (PieceSound (size_of alphabet)) (pieces_in class alphabet frame symbols b s position)
  unfolding pieces_in
  all_sound position =
      by_test (ltb class class_i)
      (λ t. rw (only_piece_lem class alphabet frame symbols b s position (in_one (ltb-true class class_i t))) (cons (only_piece class alphabet frame b position) record { base = omega (arith, g.soft); sound = g.sound } nil))
      (λ t.
      let i = ltb-false class class_i t in
      pieces_of_sound mapped (size_of alphabet) left right (block_edits class alphabet frame b) (lengths_in frame s) (positions_from symbols (first_mapping s position) (lengths_in frame s)) (g.none_zero i) (adds_up i) (clips_leave i) g.sound)

  pub all_span : (position : ℕ) → Spans 0 (pieces_in class alphabet frame symbols b s position) mapped
  unfolding pieces_in Spans
  all_span position =
      by_test (ltb class class_i)
      (λ t. rw (only_piece_lem class alphabet frame symbols b s position (in_one (ltb-true class class_i t))) (refl, refl))
      (λ t.
      let i = ltb-false class class_i t in
      pieces_of_span mapped left right (block_edits class alphabet frame b) (lengths_in frame s) (positions_from symbols (first_mapping s position) (lengths_in frame s)) (clips_leave i) (many position))

  leaves_first : (k at : ℕ) → 2 ≤ k → ClipsLeave left right (words_at k frame at) → left ≤ big_at 2 frame at
  unfolding words_at ClipsLeave
  leaves_first zero at h l = absurd (omega arith)
  leaves_first (suc zero) at h l = absurd (omega arith)
  leaves_first (suc (suc k)) at h l = omega (arith, l.0)

  -- ---- they can be walked over

  -- only I and HM have several
  several_typed : 2 ≤ s.count → substitutes_only class ≡ false
  unfolding substitutes_only
  several_typed two =
      by_test (ltb class class_i)
      (λ t. absurd (omega (arith, two, in_one (ltb-true class class_i t))))
      (λ t. let i = ltb-false class class_i t in simp (ne_eqb class class_n (λ e. omega (arith, i, e)), ne_eqb class class_m (λ e. omega (arith, i, e))))

  pub walk_begun : (position : ℕ) → 2 ≤ s.count → position < 2 ^ 33 → NarrowSplices s → WalkBegun class alphabet frame symbols b s position
  walk_begun position two near fits =
      let k = begin_kept class alphabet frame symbols b s position in
      let is = pieces_begin class alphabet frame symbols b s position g.least in
      record {
        begun = record { lengths = omega (arith, g.inside two); clip = first_clip two; framed = g.framed };
        least = g.least;
        walking =
            record {
              typed = several_typed two;
              cut = first_cut class alphabet frame symbols b s position g.least;
              many = omega (arith, g.most, k.left_is);
              short = omega (arith, g.short);
              few = omega (arith, g.few, k.edits_are);
              framed = rw (k.edits_are, k.place_is) g.framed;
              lengths = omega (arith, g.inside two, k.left_is, k.lengths_is);
              each = rw is (all_sound position);
              spans = subst (λ (n : ℕ). Spans n (pieces_left class alphabet frame symbols mapped (first_piece class frame b s position)) mapped) (sym k.start_is) (rw is (all_span position));
              roomy =
                  rw (k.left_is, begin_mapping class alphabet frame symbols b s position)
                  record { above = omega (arith, g.most); below = omega (arith, g.most); codes = omega (arith, g.most, fits.codes); deltas = omega (arith, g.most, fits.deltas); places = omega (arith, g.most, fits.places) };
            };
      }
    where
      first_clip : 2 ≤ s.count → b.clips.left_soft ≤ big_at 2 frame s.lengths_at
      first_clip h = leaves_first s.count s.lengths_at h (g.leave h)

-- ---- the text

-- before I Table 94 is Table 92
plain_table94 : (classId readLength numMismatches : ℕ) (mismatchOffsets mismatches mismatchTypes : List ℕ) (count : ℕ) (segs : List SplicedSeg) (left_soft_clips right_soft_clips : List ℕ) (leftHardClips rightHardClips : ℕ)
    → class_p ≤ classId → classId < class_i
    → ecigar_string classId readLength numMismatches mismatchOffsets mismatches mismatchTypes left_soft_clips right_soft_clips leftHardClips rightHardClips
    ≡ spliced_ecigar_string classId readLength numMismatches mismatchOffsets mismatches mismatchTypes count segs left_soft_clips right_soft_clips leftHardClips rightHardClips
unfolding ecigar_string spliced_ecigar_string
plain_table94 classId readLength numMismatches mismatchOffsets mismatches mismatchTypes count segs left_soft_clips right_soft_clips leftHardClips rightHardClips low high =
    by_test (eqb classId class_p) (λ p. rw p refl)
    (λ p. by_test (eqb classId class_n) (λ n. rw (p, n) refl)
    (λ n. by_test (eqb classId class_m) (λ m. rw (p, n, m) refl)
    (λ m. absurd (omega (arith, eqb-false classId class_p p, eqb-false classId class_n n, eqb-false classId class_m m)))))

module _ (u : Unit) (symbols frame : List ℕ) (q : Placed) (class : OfItsClass u.class q.block) (g : Pieced u.class u.alphabet frame q.block q.splices) where
  -- the text that is laid is Table 94's
  pub text_is_table94 : read_text u.alphabet q.block.rcomp q.block.clips (pieces_at u symbols frame q) ≡ table94 u symbols frame q
  unfolding pieces_in
  text_is_table94 =
      by_test (ltb u.class class_i)
      (λ t.
      let h = ltb-true u.class class_i t in
      let one = only_piece_lem u.class u.alphabet frame symbols q.block q.splices q.position (ap (λ (x : Splices). x.count) (g.plain h)) in
      ap (read_text u.alphabet q.block.rcomp q.block.clips) one
      ∙ only_text u.class u.alphabet frame q.block q.position
      ∙ ecigar_is_table92 u.class u.alphabet frame q.block (left_soft_clips u frame q) (right_soft_clips u frame q) class g.sound (length_letters _ _ _ _) (length_letters _ _ _ _)
      ∙ plain_table94 u.class q.block.length q.block.edits _ _ _ q.splices.count _ _ _ _ _ class.first h)
      (λ t.
      let i = ltb-false u.class class_i t in
      let lengths = lengths_in frame q.splices in
      let positions = positions_from symbols (first_mapping q.splices q.position) lengths in
      let es = edits_in u frame q in
      let n : length es ≡ q.block.edits = length_edits u.class u.alphabet frame q.block.edits q.block.edits_at in
      let c : length lengths ≡ q.splices.count = length_words_at q.splices.count frame q.splices.lengths_at in
      rw (n, c) at
      (read_is_table94 u.class u.alphabet q.block.rcomp (mapped_length q.block.length q.block.clips) q.block.length es q.block.clips (left_soft_clips u frame q) (right_soft_clips u frame q) lengths positions
      i class.last g.rcomp (length_letters _ _ _ _) (length_letters _ _ _ _) (g.none_zero i) (omega (arith, g.sum i, g.soft)) (clips_leave u.class u.alphabet frame symbols q.block q.splices g i)
      (length_positions symbols (first_mapping q.splices q.position) lengths) g.sound))

  -- and of a read in one piece Table 92's
  pub text_is_table92 : q.splices.count ≡ 1 → table94 u symbols frame q ≡ table92 u frame q
  text_is_table92 one =
      sym text_is_table94
      ∙ ap (read_text u.alphabet q.block.rcomp q.block.clips) (only_piece_lem u.class u.alphabet frame symbols q.block q.splices q.position one)
      ∙ only_text u.class u.alphabet frame q.block q.position
      ∙ ecigar_is_table92 u.class u.alphabet frame q.block (left_soft_clips u frame q) (right_soft_clips u frame q) class g.sound (length_letters _ _ _ _) (length_letters _ _ _ _)
