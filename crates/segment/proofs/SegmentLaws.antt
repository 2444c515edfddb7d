-- The laws of a segment that was accepted: it is ready to be written, its bytes are as many as `segment_length` says, and that is at most `most_segment_bytes`.
-- Assumes nothing.
use mathlib.Core.Path.{◌≡◌, refl, sym, ap}
use mathlib.Core.List.{List}
use Prim.Native.Nat.{ℕ, zero, suc, ◌+◌, ◌^◌, ◌<◌, ◌≤◌}
use native.Mathlib.Omega.{arith}
use lib.Dec.{ltb}
use lib.ListN.{length, get_or, length-append}
use Rattle.std.specs.Prelude.{Ok, Err}
use Rattle.frame.specs.Field.{Field, after_field}
use Rattle.refusal.specs.Answers.{no_refusal}
use Rattle.refusal.proofs.AnswerLaws.{past_ok, past_checked, ok_pair, never_refused}
use Rattle.frame.specs.declared.field.Cursor.{Cursor}
use Rattle.frame.proofs.HexLaws.{by_test, length_be}
use Rattle.frame.specs.Field.{big_at}
use Rattle.unit.specs.Unit.{class_p, class_i, class_hm}
use Rattle.alphabet.specs.Table35.{size_of}
use Rattle.state.specs.Listed.{words_at}
use Rattle.state.proofs.HeadLaws.{length_words_at}
use Rattle.unit.specs.declared.Unit.{Unit}
use Rattle.edits.specs.Lengths.{most_read, mapped_length}
use Rattle.edits.specs.Edits.{block_edits}
use Rattle.edits.specs.Pieces.{less_first, last_length}
use Rattle.edits.proofs.EditLaws.{length_edits}
use Rattle.splices.specs.Located.{positions_from, lengths_in, first_mapping, pieces_in}
use Rattle.ecigar.specs.Spliced.{ClipsLeave}
use Rattle.tables.proofs.SplicedLaws.{PositionFits, clipped_length, read_within, pieces_edits_lem}
use Rattle.bases.proofs.SplicedLaws.{length_read_bases}
use Rattle.pieces.specs.Placed.{pieces_refusal}
use Rattle.pieces.specs.Code.Written.{Standing}
use Rattle.ecigar.specs.Ecigar.{OfItsClass}
use Rattle.block.specs.Checked.{length_at}
use Rattle.block.specs.Symbols.{symbols_from}
use Rattle.block.specs.Aligned.{aligned_at}
use Rattle.block.specs.Unaligned.{from_length, unaligned_at}
use Rattle.segment.specs.Segment.{block_pieces, text_length, placement, placed_segment, placed, placed_at, plain_at, table94, aligned_bytes, unaligned_bytes, segment_bytes}
use Rattle.segment.specs.Code.Length.{most_segment_bytes, segment_length}
use Rattle.segment.specs.Code.Ready.{Pieced, ReadyAligned, Ready}
use Rattle.block.specs.declared.head.BlockHead.{BlockHead}
use Rattle.block.specs.Code.Ready.{ReadyHead}
use Rattle.block.specs.declared.aligned.AlignedBlock.{AlignedBlock}
use Rattle.block.specs.declared.unaligned.UnalignedBlock.{UnalignedBlock}
use Rattle.segment.specs.declared.Segment.{Segment}
use Rattle.segment.specs.declared.Segment.TheVariants.{Unaligned, Absent}
use Rattle.block.proofs.ReadyLaws.{ReadyBlock, of_its_class, block_ready, length_got, symbols_got}
use Rattle.bases.proofs.ReferenceLaws.{length_letters}
use Rattle.segment.proofs.PiecedLaws.{all_sound, all_span, leaves_more, text_is_table94}
use Rattle.segment.proofs.PlacedLaws.{AllPlaced, all_placed, placed_each, placed_ordered, pieces_few}

-- what is known of a segment that was accepted, and of the place behind its block
pub record SegmentTaken (u : Unit) (reference symbols frame : List ℕ) (p : Segment) (next : ℕ) : Type 0 where
  pub ready : Ready u symbols frame p
  pub long : length (segment_bytes u reference symbols frame p) ≡ segment_length p
  pub most : segment_length p ≤ most_segment_bytes
  pub inside : next ≤ length frame

-- ---- an aligned segment

-- what a block that was accepted leaves for its pieces
pub pieced_ready : (class alphabet : ℕ) (frame : List ℕ) (a : AlignedBlock) → ReadyBlock class alphabet frame a → Pieced class alphabet frame a.block a.splices
pieced_ready class alphabet frame a r =
    record {
      rcomp = by_test (ltb class class_i) (λ t. let z = rw t at r.rcomp in omega arith) (λ t. let z = rw t at r.rcomp in omega arith);
      soft = r.sides.soft;
      short = r.sides.most;
      few = r.few;
      framed = r.framed;
      sound = r.sound;
      least = r.splices.least;
      most = r.splices.most;
      inside = r.splices.inside;
      sum = r.sum;
      none_zero = r.none_zero;
      leave = λ h. leaves a.splices.count a.splices.lengths_at h (r.left h) (r.right h);
      plain = r.one_piece;
    }
  where
    leaves : (k at : ℕ) → 2 ≤ k → a.block.clips.left_soft < big_at 2 frame at → a.block.clips.right_soft < last_length (words_at k frame at)
        → ClipsLeave a.block.clips.left_soft a.block.clips.right_soft (words_at k frame at)
    leaves zero at h l m = absurd (omega arith)
    leaves (suc zero) at h l m = absurd (omega arith)
    leaves (suc (suc k)) at h l m = leaves_more _ _ frame k at l m

module _ (u : Unit) (reference symbols frame : List ℕ) (position : ℕ) where
  module _ (a : AlignedBlock) (r : ReadyBlock u.class u.alphabet frame a) (fits : u.end < 2 ^ 32) (z : pieces_refusal u reference 0 (block_pieces u symbols frame position a) ≡ no_refusal) where
    abbrev g : Pieced u.class u.alphabet frame a.block a.splices
    g = pieced_ready u.class u.alphabet frame a r

    placed_all : AllPlaced u reference 0 (block_pieces u symbols frame position a)
    placed_all = all_placed u reference 0 (block_pieces u symbols frame position a) z

    aligned_most : ((i : ℕ) → get_or frame i 0 < 256) → segment_length (placed_segment u symbols frame position a) ≤ most_segment_bytes
    unfolding segment_length pieces_in
    aligned_most bytes =
        omega (
          arith,
          r.sides.most,
          read_within u.alphabet a.block.rcomp (size_of u.alphabet) 0 (mapped_length a.block.length a.block.clips) a.block.clips (block_pieces u symbols frame position a)
              (all_span u.class u.alphabet frame symbols a.block a.splices g position)
              (all_sound u.class u.alphabet frame symbols a.block a.splices g position)
              (placed_each u reference PositionFits (λ least p h. omega (arith, h.inside.to)) 0 (block_pieces u symbols frame position a) placed_all)
              (r.sides.fit bytes)
              (omega (arith, r.splices.most, length_words_at a.splices.count frame a.splices.lengths_at, clipped_length a.block.clips.left_soft (lengths_in frame a.splices), pieces_few (mapped_length a.block.length a.block.clips) 0 (block_edits u.class u.alphabet frame a.block) (less_first a.block.clips.left_soft (lengths_in frame a.splices)) (positions_from symbols (first_mapping a.splices position) (lengths_in frame a.splices))))
              (omega (arith, r.sides.most))
              (omega (arith, r.few, length_edits u.class u.alphabet frame a.block.edits a.block.edits_at, pieces_edits_lem (mapped_length a.block.length a.block.clips) 0 (block_edits u.class u.alphabet frame a.block) (less_first a.block.clips.left_soft (lengths_in frame a.splices)) (positions_from symbols (first_mapping a.splices position) (lengths_in frame a.splices)))),
        )

    module _ (class : OfItsClass u.class a.block) where
      aligned_text : text_length u symbols frame position a ≡ length (table94 u symbols frame (placement u symbols frame position a))
      aligned_text = ap (λ (x : List ℕ). length x) (text_is_table94 u symbols frame (placement u symbols frame position a) class g)

      aligned_long : length (segment_bytes u reference symbols frame (placed_segment u symbols frame position a)) ≡ segment_length (placed_segment u symbols frame position a)
      unfolding segment_bytes aligned_bytes segment_length
      aligned_long =
          simp (length-append, length_be)
          (omega (
            arith,
            aligned_text,
            r.sides.soft,
            length_read_bases u.alphabet frame reference u.first a.block.soft_at a.block.clips.left_soft a.block.clips.right_soft (block_pieces u symbols frame position a) (mapped_length a.block.length a.block.clips)
                (all_sound u.class u.alphabet frame symbols a.block a.splices g position)
                (all_span u.class u.alphabet frame symbols a.block a.splices g position),
          ))

      aligned_ready : ReadyAligned u symbols frame (placement u symbols frame position a)
      aligned_ready =
          record {
            class = class;
            clipped = r.sides.clipped;
            pieced = g;
            standing = placed_each u reference Standing (λ least p h. (h.straightly, omega (arith, h.inside.to))) 0 (block_pieces u symbols frame position a) placed_all;
            ordered = placed_ordered u reference 0 (block_pieces u symbols frame position a) placed_all;
            text = aligned_text;
          }

  module _ (p : Segment) (next : Cursor) (first : class_p ≤ u.class) (last : u.class ≤ class_hm) (fits : u.end < 2 ^ 32) where
    aligned_taken : (a : AlignedBlock) → ((i : ℕ) → get_or frame i 0 < 256) → ReadyBlock u.class u.alphabet frame a → placed u reference symbols frame position a ≡ Ok (p, next) → SegmentTaken u reference symbols frame p next.at
    unfolding placed
    aligned_taken a bytes r q =
        let f = past_checked (pieces_refusal u reference 0 (block_pieces u symbols frame position a)) _ (p, next) q in
        let w = ok_pair f.1 in
        let n : a.next.at ≡ next.at = ap (λ (c : Cursor). c.at) w.1 in
        let class = of_its_class u.class u.alphabet frame a r first last in
        rw (← w.0, ← n)
        record {
          ready = aligned_ready a r fits f.0 class;
          long = aligned_long a r fits f.0 class;
          most = aligned_most a r fits f.0 bytes;
          inside = r.inside;
        }

    pub placed_taken : (h : BlockHead) → ReadyHead u.class frame h → ((i : ℕ) → get_or frame i 0 < 256) → placed_at u reference symbols frame position h ≡ Ok (p, next) → SegmentTaken u reference symbols frame p next.at
    unfolding placed_at
    placed_taken h r bytes q =
        let b = past_ok (aligned_at u.class u.alphabet frame h) _ (p, next) q in
        aligned_taken b.value bytes (block_ready u.class u.alphabet frame h b.value r b.accepted) b.rest

-- ---- an unaligned segment

plain_long : (u : Unit) (reference symbols frame : List ℕ) (s : UnalignedBlock) → length (segment_bytes u reference symbols frame (Unaligned s)) ≡ segment_length (Unaligned s)
unfolding segment_bytes unaligned_bytes segment_length
plain_long u reference symbols frame s = simp (length-append, length_be, length_letters) (omega arith)

-- an unaligned block that is accepted: its symbols stand in the frame
pub record PlainBlock (frame : List ℕ) (s : UnalignedBlock) : Type 0 where
  pub most : s.length ≤ most_read
  pub framed : s.at + s.length ≤ length frame
  pub inside : s.next.at ≤ length frame

pub plain_ready : (alphabet : ℕ) (frame : List ℕ) (at : ℕ) (s : UnalignedBlock) → unaligned_at alphabet frame at ≡ Ok s → PlainBlock frame s
unfolding unaligned_at from_length
plain_ready alphabet frame at s q = by (length_at frame at) refl q
  where
    behind : (v : ℕ) (c : Cursor) → length_at frame at ≡ Ok (v, c) → (x : Field) → symbols_from alphabet frame v v c.at ≡ x
        → after_field Err x (λ count next. Ok record { length = v; at = c.at; next = next }) ≡ Ok s → PlainBlock frame s
    behind v c e (Err n) f r = never_refused r
    behind v c e (Ok (n, next)) f r =
        let g = length_got frame at v c e in
        let h = symbols_got alphabet frame v v c.at n next f g.inside in
        let m : ◌≡◌ {A = UnalignedBlock} (record { length = v; at = c.at; next = next }) s = cc in
        rw (← m) record { most = g.below; framed = h.1; inside = omega (arith, h.0, h.1) }

    by : (x : Field) → length_at frame at ≡ x → after_field Err x (λ length next. from_length alphabet frame length next.at) ≡ Ok s → PlainBlock frame s
    by (Err n) e r = never_refused r
    by (Ok (v, c)) e r = behind v c e (symbols_from alphabet frame v v c.at) refl r

plain_most : (frame : List ℕ) (s : UnalignedBlock) → PlainBlock frame s → segment_length (Unaligned s) ≤ most_segment_bytes
unfolding segment_length
plain_most frame s g = omega (arith, g.most)

pub plain_taken : (u : Unit) (reference symbols frame : List ℕ) (at : ℕ) (p : Segment) (next : Cursor) → plain_at u frame at ≡ Ok (p, next) → SegmentTaken u reference symbols frame p next.at
unfolding plain_at
plain_taken u reference symbols frame at p next q =
    let b = past_ok (unaligned_at u.alphabet frame at) _ (p, next) q in
    let w = ok_pair b.rest in
    is b.value b.accepted (sym w.0) (ap (λ (c : Cursor). c.at) (sym w.1))
  where
    is : (s : UnalignedBlock) → unaligned_at u.alphabet frame at ≡ Ok s → p ≡ Unaligned s → next.at ≡ s.next.at → SegmentTaken u reference symbols frame p next.at
    is s e i n =
        let g = plain_ready u.alphabet frame at s e in
        rw (i, n) record { ready = record { framed = g.framed }; long = plain_long u reference symbols frame s; most = plain_most frame s g; inside = g.inside }

-- a segment that is not there
pub absent_taken : (u : Unit) (reference symbols frame : List ℕ) → SegmentTaken u reference symbols frame Absent 0
unfolding segment_bytes segment_length
absent_taken u reference symbols frame = record { ready = tt; long = refl; most = omega arith; inside = omega arith }
