-- What the check of a segment leaves: every segment that was accepted is ready to be written.
-- Assumes nothing.
use mathlib.Core.Path.{◌≡◌, refl, sym, ap}
use mathlib.Core.Bool.{true}
use mathlib.Core.List.{List}
use Prim.Native.Nat.{ℕ, zero, suc, ◌+◌, ◌*◌, ◌<◌, ◌≤◌}
use native.Mathlib.Omega.{arith}
use native.Mathlib.Nat.{add-zero}
use borrow.Author.Tests.{ltb-true, leb-false, ltb-false, eqb-false}
use lib.Dec.{ltb, leb, eqb, lit<}
use lib.ListN.{length, get_or}
use Rattle.std.specs.Prelude.{Ok, Err}
use Rattle.refusal.specs.Answers.{OrRefused, after_ok}
use Rattle.refusal.specs.declared.Refusal.{Refusal}
use Rattle.refusal.specs.declared.Refusal.TheVariants.{LengthOut, ClipsOut, FieldOut}
use Rattle.frame.specs.Field.{Field, big_at, with_field, after_field}
use Rattle.frame.specs.declared.field.Cursor.{Cursor}
use Rattle.frame.proofs.HexLaws.{by_test}
use Rattle.frame.proofs.FieldLaws.{big_at_lt}
use Rattle.limits.specs.Limits.{most_pieces}
use Rattle.unit.specs.Unit.{class_p, class_i, class_hm}
use Rattle.alphabet.specs.Table35.{size_of}
use Rattle.frame.proofs.StepLaws.{past_field, past_refusal}
use Rattle.state.specs.Listed.{words_at}
use Rattle.taking.specs.Steps.{Steps, sets, takes, refuses, marks}
use Rattle.taking.proofs.Decoding.{Ends, Any, then_ends}
use Rattle.edits.specs.declared.Clips.{Clips}
use Rattle.edits.specs.declared.Block.{Block}
use Rattle.edits.specs.Lengths.{most_read, most_edits, no_clips, soft_bases, mapped_length}
use Rattle.edits.specs.Edits.{width_of, Sound, taken_from, block_edits}
use Rattle.edits.specs.Flanks.{all_flanked}
use Rattle.edits.specs.Pieces.{straight, sum_of, last_length}
use Rattle.edits.proofs.PieceLaws.{NoneZero}
use Rattle.splices.specs.Table62.{spliced_seg_mapping_pos}
use Rattle.splices.specs.Located.{unspliced, lengths_in}
use Rattle.splices.specs.Code.Walk.{Begun}
use Rattle.splices.specs.declared.Splices.{Splices}
use Rattle.ecigar.specs.Check.{check_of}
use Rattle.ecigar.specs.Ecigar.{ecigar_text, OfItsClass}
use Rattle.ecigar.specs.declared.check.Extent.{Extent}
use Rattle.ecigar.proofs.CheckLaws.{checked_fine}
use Rattle.ecigar.proofs.TextLaws.{checked_length}
use Rattle.ecigar.proofs.LengthLaws.{ClipsFit}
use Rattle.block.specs.Checked.{value_within, length_at, most_rcomp, rcomp_at, number_at, lengths_from, count_at}
use Rattle.block.specs.Clips.{clips_of, clips_in_read, clips_in_pieces, clips_in, clips_at}
use Rattle.block.specs.Symbols.{symbols_from}
use Rattle.block.specs.Aligned.{block_of, block_whole, edits_tallied, from_edits, from_soft, from_clips, aligned_at}
use Rattle.block.specs.Head.{splice_steps, from_lengths, from_pieces, from_rcomp, head_at}
use Rattle.block.specs.Code.Ready.{LengthsFramed, ReadyHead}
use Rattle.block.proofs.LengthLaws.{lengths_got, words_none_zero, ends_below}
use Rattle.block.specs.declared.head.BlockHead.{BlockHead}
use Rattle.block.specs.declared.aligned.AlignedBlock.{AlignedBlock}

-- ---- a checked field that is accepted: its value is within, and the frame has its bytes

pub record FieldGot (frame : List ℕ) (at k least most v next : ℕ) : Type 0 where
  pub above : least ≤ v
  pub below : v ≤ most
  pub place : next ≡ at + k
  pub inside : next ≤ length frame

field_got : (k least most : ℕ) (refusal : Refusal) (frame : List ℕ) (at v : ℕ) (c : Cursor) → with_field Err k frame at (value_within least most refusal) ≡ Ok (v, c) → FieldGot frame at k least most v c.at
field_got k least most refusal frame at v c q =
    let never : (n : Refusal) → ◌≡◌ {A = Field} (Err n) (Ok (v, c)) → ⊥ = λ n e. (let z : ◌≡◌ {A = ℕ} 0 1 = cc in omega arith) in
    let f = past_field Err never k frame at (λ v c. value_within least most refusal v c.at) q in
    let a = past_refusal _ (never refusal) (big_at k frame at) least _ f.rest in
    let b = past_refusal _ (never refusal) most (big_at k frame at) _ a.1 in
    let both : ◌≡◌ {A = ℕ × Cursor} (big_at k frame at, record { at = at + k }) (v, c) = cc b.1 in
    let e : big_at k frame at ≡ v = ap (λ (x : ℕ × Cursor). x.0) both in
    let p : at + k ≡ c.at = ap (λ (x : ℕ × Cursor). x.1.at) both in
    record { above = omega (arith, a.0); below = omega (arith, b.0); place = sym p; inside = omega (arith, f.fits) }

pub length_got : (frame : List ℕ) (at v : ℕ) (c : Cursor) → length_at frame at ≡ Ok (v, c) → FieldGot frame at 2 1 most_read v c.at
unfolding length_at
length_got frame at v c q = field_got 2 1 most_read LengthOut frame at v c q

pub rcomp_got : (class : ℕ) (frame : List ℕ) (at v : ℕ) (c : Cursor) → rcomp_at class frame at ≡ Ok (v, c) → FieldGot frame at 1 0 (most_rcomp class) v c.at
unfolding rcomp_at
rcomp_got class frame at v c q = field_got 1 0 (most_rcomp class) FieldOut frame at v c q

pub number_got : (frame : List ℕ) (at v : ℕ) (c : Cursor) → number_at frame at ≡ Ok (v, c) → FieldGot frame at 1 1 most_pieces v c.at
unfolding number_at
number_got frame at v c q = field_got 1 1 most_pieces LengthOut frame at v c q

pub count_got : (frame : List ℕ) (at v : ℕ) (c : Cursor) → count_at frame at ≡ Ok (v, c) → FieldGot frame at 2 0 most_edits v c.at
unfolding count_at
count_got frame at v c q = field_got 2 0 most_edits FieldOut frame at v c q

-- ---- runs of symbols and clips that are accepted

pub symbols_got : (alphabet : ℕ) (frame : List ℕ) (count k at v : ℕ) (c : Cursor) → symbols_from alphabet frame count k at ≡ Ok (v, c) → at ≤ length frame
    → (c.at ≡ at + k) × (at + k ≤ length frame)
unfolding symbols_from
symbols_got alphabet frame count zero at v c q h =
    let both : ◌≡◌ {A = ℕ × Cursor} (count, record { at = at }) (v, c) = cc in
    let p : at ≡ c.at = ap (λ (x : ℕ × Cursor). x.1.at) both in
    (omega arith, omega arith)
symbols_got alphabet frame count (suc k) at v c q h =
    by_test (leb (length frame) at) (λ a. absurd (let e = simp a at q in let z : ◌≡◌ {A = ℕ} 0 1 = cc in omega arith))
    (λ a. by_test (leb (size_of alphabet) (get_or frame at 0)) (λ b. absurd (let e = simp (a, b) at q in let z : ◌≡◌ {A = ℕ} 0 1 = cc in omega arith))
    (λ b. let r = symbols_got alphabet frame count k (at + 1) v c (simp (a, b) at q) (omega (arith, leb-false (length frame) at a)) in (omega (arith, r.0), omega (arith, r.1))))

-- and each of them is inside the alphabet
symbols_in : (alphabet : ℕ) (frame : List ℕ) (count k at v : ℕ) (c : Cursor) → symbols_from alphabet frame count k at ≡ Ok (v, c) → (i : ℕ) → i < k → get_or frame (at + i) 0 < size_of alphabet
unfolding symbols_from
symbols_in alphabet frame count zero at v c q i h = absurd (omega arith)
symbols_in alphabet frame count (suc k) at v c q i h =
    by_test (leb (length frame) at) (λ a. absurd (let e = simp a at q in let z : ◌≡◌ {A = ℕ} 0 1 = cc in omega arith))
    (λ a. by_test (leb (size_of alphabet) (get_or frame at 0)) (λ b. absurd (let e = simp (a, b) at q in let z : ◌≡◌ {A = ℕ} 0 1 = cc in omega arith))
    (λ b. by i h (symbols_in alphabet frame count k (at + 1) v c (simp (a, b) at q)) (leb-false (size_of alphabet) (get_or frame at 0) b)))
  where
    by : (i : ℕ) → i < suc k → ((j : ℕ) → j < k → get_or frame (at + 1 + j) 0 < size_of alphabet) → get_or frame at 0 < size_of alphabet → get_or frame (at + i) 0 < size_of alphabet
    by zero h more here = rw (add-zero at) here
    by (suc j) h more here = let e : at + suc j ≡ at + 1 + j = omega arith in rw e (more j (omega arith))

-- the soft clips leave the read a base, and of several pieces the first and the last
pub record ClipsWithin (frame : List ℕ) (readLength : ℕ) (s : Splices) (c : Clips) : Type 0 where
  pub one : s.count < 2 → soft_bases c < readLength
  pub left : 2 ≤ s.count → c.left_soft < big_at 2 frame s.lengths_at
  pub right : 2 ≤ s.count → c.right_soft < last_length (lengths_in frame s)

pub record GotClips (frame : List ℕ) (readLength : ℕ) (s : Splices) (at : ℕ) (c : Clips) (next : ℕ) : Type 0 where
  pub clips_within : ClipsWithin frame readLength s c
  pub fit : ((i : ℕ) → get_or frame i 0 < 256) → ClipsFit c
  pub place : next ≡ at + 8
  pub inside : next ≤ length frame

-- clips that were read, behind their checks
record PastClips (frame : List ℕ) (readLength : ℕ) (s : Splices) (whole : Clips) (at : ℕ) (c : Clips) (next : Cursor) : Type 0 where
  pub clips_within : ClipsWithin frame readLength s whole
  pub same : c ≡ whole
  pub place : next.at ≡ at

past_clips : (frame : List ℕ) (readLength : ℕ) (s : Splices) (whole : Clips) (at : ℕ) (c : Clips) (next : Cursor) → clips_in whole frame readLength s at ≡ Ok (next, c)
    → PastClips frame readLength s whole at c next
unfolding clips_in clips_in_read clips_in_pieces
past_clips frame readLength s whole at c next q =
    let never : ◌≡◌ {A = OrRefused (Cursor × Clips)} (Err ClipsOut) (Ok (next, c)) → ⊥ = λ e. (let z : ◌≡◌ {A = ℕ} 0 1 = cc in omega arith) in
    by_test (ltb s.count 2)
    (λ t. by_test (leb readLength (soft_bases whole)) (λ u. absurd (never (simp (t, u) at q)))
    (λ u.
    let few = ltb-true s.count 2 t in
    let both : ◌≡◌ {A = Cursor × Clips} (record { at = at }, whole) (next, c) = cc (simp (t, u) at q) in
    record { clips_within = record { one = λ h. leb-false readLength (soft_bases whole) u; left = λ h. absurd (omega arith); right = λ h. absurd (omega arith) }; same = sym (ap (λ (x : Cursor × Clips). x.1) both); place = sym (ap (λ (x : Cursor × Clips). x.0.at) both) }))
    (λ t. by_test (leb (big_at 2 frame s.lengths_at) whole.left_soft) (λ u. absurd (never (simp (t, u) at q)))
    (λ u. by_test (leb (last_length (lengths_in frame s)) whole.right_soft) (λ w. absurd (never (simp (t, u, w) at q)))
    (λ w.
    let several = ltb-false s.count 2 t in
    let both : ◌≡◌ {A = Cursor × Clips} (record { at = at }, whole) (next, c) = cc (simp (t, u, w) at q) in
    record {
      clips_within = record { one = λ h. absurd (omega arith); left = λ h. leb-false _ _ u; right = λ h. leb-false _ _ w };
      same = sym (ap (λ (x : Cursor × Clips). x.1) both);
      place = sym (ap (λ (x : Cursor × Clips). x.0.at) both);
    })))

pub clips_got : (frame : List ℕ) (readLength : ℕ) (s : Splices) (at : ℕ) (c : Clips) (next : Cursor) → clips_at frame readLength s at ≡ Ok (next, c) → GotClips frame readLength s at c next.at
unfolding clips_at
clips_got frame readLength s at c next q =
    let never : (n : Refusal) → ◌≡◌ {A = OrRefused (Cursor × Clips)} (Err n) (Ok (next, c)) → ⊥ = λ n e. (let z : ◌≡◌ {A = ℕ} 0 1 = cc in omega arith) in
    let a = past_field Err never 2 frame at _ q in
    let b = past_field Err never 2 frame (at + 2) _ a.rest in
    let d = past_field Err never 2 frame (at + 2 + 2) _ b.rest in
    let f = past_field Err never 2 frame (at + 2 + 2 + 2) _ d.rest in
    let whole = clips_of (big_at 2 frame at) (big_at 2 frame (at + 2)) (big_at 2 frame (at + 2 + 2)) (big_at 2 frame (at + 2 + 2 + 2)) in
    let p = past_clips frame readLength s whole (at + 2 + 2 + 2 + 2) c next f.rest in
    record {
      clips_within = rw p.same p.clips_within;
      fit = λ bytes.
          rw p.same
          record {
            left_soft = big_at_lt 2 frame at bytes;
            left_hard = big_at_lt 2 frame (at + 2) bytes;
            right_soft = big_at_lt 2 frame (at + 2 + 2) bytes;
            right_hard = big_at_lt 2 frame (at + 2 + 2 + 2) bytes;
          };
      place = omega (arith, p.place);
      inside = omega (arith, f.fits, p.place);
    }

none_fit : ClipsFit no_clips
none_fit = record { left_soft = lit< tt; left_hard = lit< tt; right_soft = lit< tt; right_hard = lit< tt }

-- ---- an aligned block that is accepted

-- its fields before the edits: read length and clips, of 16 bits in a frame of bytes, only I and HM having clips, and the soft-clipped bases
pub record Sides (class alphabet : ℕ) (frame : List ℕ) (readLength : ℕ) (c : Clips) (softAt : ℕ) : Type 0 where
  pub least : 1 ≤ readLength
  pub most : readLength ≤ most_read
  pub soft : soft_bases c < readLength
  pub fit : ((i : ℕ) → get_or frame i 0 < 256) → ClipsFit c
  pub bare : class < class_i → c ≡ no_clips
  pub symbols : (i : ℕ) → i < soft_bases c → get_or frame (softAt + i) 0 < size_of alphabet
  pub clipped : softAt + soft_bases c ≤ length frame

-- its pieces: in I and HM none of their lengths is 0, and they add up to the read; of several the lengths stand in the frame, and the soft clips leave the first and the last a base; before I a read has one
pub record PiecesReady (class : ℕ) (frame : List ℕ) (readLength : ℕ) (c : Clips) (s : Splices) : Type 0 where
  pub framed : LengthsFramed frame s
  pub sum : class_i ≤ class → sum_of (lengths_in frame s) ≡ readLength
  pub none_zero : class_i ≤ class → NoneZero (lengths_in frame s)
  pub left : 2 ≤ s.count → c.left_soft < big_at 2 frame s.lengths_at
  pub right : 2 ≤ s.count → c.right_soft < last_length (lengths_in frame s)
  pub one_piece : class < class_i → s ≡ unspliced

-- and its edits, which P has none of
pub record ReadyBlock (class alphabet : ℕ) (frame : List ℕ) (a : AlignedBlock) : Type 0 where
  pub sides : Sides class alphabet frame a.block.length a.block.clips a.block.soft_at
  pub rcomp : a.block.rcomp ≤ most_rcomp class
  pub splices : LengthsFramed frame a.splices
  pub sum : class_i ≤ class → sum_of (lengths_in frame a.splices) ≡ a.block.length
  pub none_zero : class_i ≤ class → NoneZero (lengths_in frame a.splices)
  pub left : 2 ≤ a.splices.count → a.block.clips.left_soft < big_at 2 frame a.splices.lengths_at
  pub right : 2 ≤ a.splices.count → a.block.clips.right_soft < last_length (lengths_in frame a.splices)
  pub one_piece : class < class_i → a.splices ≡ unspliced
  pub plain : class ≡ class_p → a.block.edits ≡ 0
  pub few : a.block.edits ≤ most_edits
  pub framed : a.block.edits_at + a.block.edits * width_of class ≤ length frame
  pub sound : Sound (mapped_length a.block.length a.block.clips) (size_of alphabet) 0 (block_edits class alphabet frame a.block)
  pub flanks : all_flanked (mapped_length a.block.length a.block.clips) (block_edits class alphabet frame a.block) ≡ true
  pub taken : a.taken ≡ taken_from (mapped_length a.block.length a.block.clips) 0 (block_edits class alphabet frame a.block)
  pub text : a.text ≡ length (ecigar_text class alphabet frame a.block)
  pub inside : a.next.at ≤ length frame

-- it is as its class has it
pub of_its_class : (class alphabet : ℕ) (frame : List ℕ) (a : AlignedBlock) → ReadyBlock class alphabet frame a → class_p ≤ class → class ≤ class_hm → OfItsClass class a.block
of_its_class class alphabet frame a r first last =
    record { first = first; last = last; clips = r.sides.bare; edits = r.plain; mapped = omega (arith, r.sides.soft) }

-- of several pieces the first can be looked at
pub block_begun : (class alphabet : ℕ) (frame : List ℕ) (a : AlignedBlock) → ReadyBlock class alphabet frame a → 2 ≤ a.splices.count → Begun class frame a.block a.splices
block_begun class alphabet frame a r h = record { lengths = omega (arith, r.splices.inside h); clip = omega (arith, r.left h); framed = r.framed }

-- the edits, where the block's other fields are accepted
pub tallied_ready : (class alphabet : ℕ) (frame : List ℕ) (s : Block) (x : Splices) (a : AlignedBlock) → edits_tallied class alphabet frame s x ≡ Ok a
    → Sides class alphabet frame s.length s.clips s.soft_at → s.rcomp ≤ most_rcomp class → PiecesReady class frame s.length s.clips x
    → (class ≡ class_p → s.edits ≡ 0) → s.edits_at ≤ length frame → ReadyBlock class alphabet frame a
unfolding edits_tallied
tallied_ready class alphabet frame s x a q sides rcomp pieces plain inside =
    by (check_of class alphabet frame s.edits_at s.edits (mapped_length s.length s.clips)) refl q
  where
    by : (y : OrRefused Extent) → check_of class alphabet frame s.edits_at s.edits (mapped_length s.length s.clips) ≡ y → after_ok y (λ e. Ok (block_whole class s x e.taken e.text)) ≡ Ok a → ReadyBlock class alphabet frame a
    by (Err n) e z = absurd (let y : ◌≡◌ {A = ℕ} 0 1 = cc in omega arith)
    by (Ok come) e z =
        let f = checked_fine class alphabet frame s.edits_at s.edits (mapped_length s.length s.clips) come.taken come.text e in
        let m : ◌≡◌ {A = AlignedBlock} (block_whole class s x come.taken come.text) a = cc in
        rw (← m)
        record {
          sides = sides;
          rcomp = rcomp;
          splices = pieces.framed;
          sum = pieces.sum;
          none_zero = pieces.none_zero;
          left = pieces.left;
          right = pieces.right;
          one_piece = pieces.one_piece;
          plain = plain;
          few = f.few;
          framed = f.framed inside;
          sound = f.sound;
          flanks = f.flanks;
          taken = f.taken;
          text = sym (checked_length class alphabet frame s come.taken come.text e);
          inside = f.framed inside;
        }

-- ---- step by step: the place stays inside the frame

-- what follows a checked field that is accepted
checked_whole : (x : Field) (f : ℕ → Cursor → OrRefused AlignedBlock) (a : AlignedBlock) {P : Type 0} → after_field Err x f ≡ Ok a → ((v : ℕ) (c : Cursor) → x ≡ Ok (v, c) → f v c ≡ Ok a → P) → P
checked_whole (Ok (v, c)) f a q go = go v c refl q
checked_whole (Err n) f a q go = absurd (let z : ◌≡◌ {A = ℕ} 0 1 = cc in omega arith)

module _ (class alphabet : ℕ) (frame : List ℕ) (readLength rcomp : ℕ) (s : Splices) (a : AlignedBlock) (strand : rcomp ≤ most_rcomp class) where
  edits_ready : (c : Clips) (softAt at : ℕ) → from_edits class alphabet frame readLength rcomp s c softAt at ≡ Ok a
      → Sides class alphabet frame readLength c softAt → PiecesReady class frame readLength c s → at ≤ length frame → ReadyBlock class alphabet frame a
  unfolding from_edits
  edits_ready c softAt at q sides pieces inside =
      by_test (eqb class class_p)
      (λ t. tallied_ready class alphabet frame (block_of readLength rcomp c softAt 0 at) s a (simp t at q) sides strand pieces (λ e. refl) inside)
      (λ t. checked_whole (count_at frame at) _ a (simp t at q)
      (λ v next e r.
      tallied_ready class alphabet frame (block_of readLength rcomp c softAt v next.at) s a r sides strand pieces (λ p. absurd (eqb-false class class_p t p)) (count_got frame at v next e).inside))

  soft_ready : (c : Clips) (at : ℕ) → from_soft class alphabet frame readLength rcomp s c at ≡ Ok a
      → ((symbols : (i : ℕ) → i < soft_bases c → get_or frame (at + i) 0 < size_of alphabet) → at + soft_bases c ≤ length frame → Sides class alphabet frame readLength c at)
      → PiecesReady class frame readLength c s → at ≤ length frame → ReadyBlock class alphabet frame a
  unfolding from_soft
  soft_ready c at q sides pieces inside =
      checked_whole (symbols_from alphabet frame (soft_bases c) (soft_bases c) at) _ a q
      (λ v next e r.
      let g = symbols_got alphabet frame (soft_bases c) (soft_bases c) at v next e inside in
      edits_ready c at next.at r (sides (symbols_in alphabet frame (soft_bases c) (soft_bases c) at v next e) g.1) pieces (omega (arith, g.0, g.1)))

  -- the pieces, where the clips are within them
  pieces_ready : (c : Clips) → LengthsFramed frame s → (class_i ≤ class → sum_of (lengths_in frame s) ≡ readLength)
      → (class_i ≤ class → (i : ℕ) → i < s.count → 1 ≤ big_at 2 frame (s.lengths_at + 2 * i)) → (class < class_i → s ≡ unspliced) → ClipsWithin frame readLength s c → PiecesReady class frame readLength c s
  pieces_ready c framed sum each one_piece w =
      record {
        framed = framed;
        sum = sum;
        none_zero = λ h. words_none_zero frame s.count s.lengths_at (each h);
        left = w.left;
        right = w.right;
        one_piece = one_piece;
      }

  -- in every case the soft clips leave the read a base
  soft_below : (c : Clips) → sum_of (lengths_in frame s) ≡ readLength → ClipsWithin frame readLength s c → soft_bases c < readLength
  soft_below c sum w =
      by_test (ltb s.count 2) (λ t. w.one (ltb-true _ _ t))
      (λ t. let h = ltb-false s.count 2 t in omega (arith, sum, w.left h, w.right h, ends_below frame s.count s.lengths_at h))

  clips_ready : (at : ℕ) → from_clips class alphabet frame readLength rcomp s at ≡ Ok a → 1 ≤ readLength → readLength ≤ most_read
      → (class_i ≤ class → sum_of (lengths_in frame s) ≡ readLength) → ((c : Clips) → ClipsWithin frame readLength s c → PiecesReady class frame readLength c s) → (class < class_i → s ≡ unspliced)
      → at ≤ length frame → ReadyBlock class alphabet frame a
  unfolding from_clips
  clips_ready at q one most sum pieces one_piece inside =
      by_test (ltb class class_i)
      (λ t.
      let few : s.count ≡ 1 = ap (λ (x : Splices). x.count) (one_piece (ltb-true class class_i t)) in
      edits_ready no_clips at at (simp t at q)
      record { least = one; most = most; soft = omega arith; fit = λ bytes. none_fit; bare = λ e. refl; symbols = λ i h. absurd (omega arith); clipped = omega arith }
      (pieces no_clips record { one = λ h. omega arith; left = λ h. absurd (omega arith); right = λ h. absurd (omega arith) })
      inside)
      (λ t. by (ltb-false class class_i t) (clips_at frame readLength s at) refl (simp t at q))
    where
      by : class_i ≤ class → (x : OrRefused (Cursor × Clips)) → clips_at frame readLength s at ≡ x → after_ok x (λ read. from_soft class alphabet frame readLength rcomp s read.1 read.0.at) ≡ Ok a → ReadyBlock class alphabet frame a
      by clipped (Err n) e z = absurd (let y : ◌≡◌ {A = ℕ} 0 1 = cc in omega arith)
      by clipped (Ok (next, c)) e z =
          let g = clips_got frame readLength s at c next e in
          soft_ready c next.at z
          (λ symbols room. record { least = one; most = most; soft = soft_below c (sum clipped) g.clips_within; fit = g.fit; bare = λ e. absurd (omega arith); symbols = symbols; clipped = room })
          (pieces c g.clips_within)
          g.inside

-- behind a head that was accepted
pub block_ready : (class alphabet : ℕ) (frame : List ℕ) (h : BlockHead) (a : AlignedBlock) → ReadyHead class frame h → aligned_at class alphabet frame h ≡ Ok a → ReadyBlock class alphabet frame a
unfolding aligned_at
block_ready class alphabet frame h a r q =
    clips_ready class alphabet frame h.length h.rcomp h.splices a r.rcomp h.next.at q r.least r.most r.sum
    (λ c w. pieces_ready class alphabet frame h.length h.rcomp h.splices a r.rcomp c r.splices r.sum r.none_zero r.one_piece w)
    r.one_piece r.inside

-- ---- what its head said

pub record OfItsHead (h : BlockHead) (a : AlignedBlock) : Type 0 where
  pub length : a.block.length ≡ h.length
  pub rcomp : a.block.rcomp ≡ h.rcomp
  pub splices : a.splices ≡ h.splices

tallied_head : (class alphabet : ℕ) (frame : List ℕ) (s : Block) (h : BlockHead) (a : AlignedBlock) → s.length ≡ h.length → s.rcomp ≡ h.rcomp → edits_tallied class alphabet frame s h.splices ≡ Ok a → OfItsHead h a
unfolding edits_tallied
tallied_head class alphabet frame s h a k r q = by (check_of class alphabet frame s.edits_at s.edits (mapped_length s.length s.clips)) q
  where
    by : (y : OrRefused Extent) → after_ok y (λ e. Ok (block_whole class s h.splices e.taken e.text)) ≡ Ok a → OfItsHead h a
    by (Err n) z = absurd (let y : ◌≡◌ {A = ℕ} 0 1 = cc in omega arith)
    by (Ok come) z =
        let m : ◌≡◌ {A = AlignedBlock} (block_whole class s h.splices come.taken come.text) a = cc in
        rw (← m) record { length = k; rcomp = r; splices = refl }

pub block_head : (class alphabet : ℕ) (frame : List ℕ) (h : BlockHead) (a : AlignedBlock) → aligned_at class alphabet frame h ≡ Ok a → OfItsHead h a
unfolding aligned_at from_clips from_soft from_edits
block_head class alphabet frame h a q =
    by_test (ltb class class_i) (λ t. past_edits no_clips h.next.at h.next.at (simp t at q))
    (λ t. by (clips_at frame h.length h.splices h.next.at) (simp t at q))
  where
    past_edits : (c : Clips) (softAt at : ℕ) → from_edits class alphabet frame h.length h.rcomp h.splices c softAt at ≡ Ok a → OfItsHead h a
    past_edits c softAt at q =
        by_test (eqb class class_p) (λ t. tallied_head class alphabet frame (block_of h.length h.rcomp c softAt 0 at) h a refl refl (simp t at q))
        (λ t. checked_whole (count_at frame at) _ a (simp t at q)
        (λ v next e r. tallied_head class alphabet frame (block_of h.length h.rcomp c softAt v next.at) h a refl refl r))

    by : (x : OrRefused (Cursor × Clips)) → after_ok x (λ read. from_soft class alphabet frame h.length h.rcomp h.splices read.1 read.0.at) ≡ Ok a → OfItsHead h a
    by (Err n) z = absurd (let y : ◌≡◌ {A = ℕ} 0 1 = cc in omega arith)
    by (Ok (next, c)) z =
        checked_whole (symbols_from alphabet frame (soft_bases c) (soft_bases c) next.at) _ a z (λ v behind e r. past_edits c next.at behind.at r)

-- ---- every head that is accepted

checked_ends : (P : BlockHead → Type 0) (x : Field) (f : ℕ → Cursor → Steps BlockHead) → ((v : ℕ) (c : Cursor) → x ≡ Ok (v, c) → Ends Any P (f v c)) → Ends Any P (after_field refuses x f)
checked_ends P (Ok (v, c)) f h = h v c refl
checked_ends P (Err n) f h = tt

-- what does not depend on the end holds of every end
every_end : {A : Type 0} {P : Type 0} (p : Steps A) → P → Ends Any (λ a. P) p
every_end (sets a) h = h
every_end (takes s go_on) h = λ v e. every_end (go_on v) h
every_end (refuses n) h = tt
every_end (marks go_on) h = λ here. every_end (go_on here) h

module _ (class : ℕ) (frame : List ℕ) (position readLength rcomp : ℕ) (one : 1 ≤ readLength) (most : readLength ≤ most_read) (strand : rcomp ≤ most_rcomp class) where
  lengths_ready : (count at : ℕ) → class_i ≤ class → 1 ≤ count → count ≤ most_pieces → at ≤ length frame → Ends Any (ReadyHead class frame) (from_lengths frame position readLength rcomp count at)
  unfolding from_lengths splice_steps
  lengths_ready count at late least few inside =
      checked_ends (ReadyHead class frame) (lengths_from frame readLength 0 count at) _
      (λ sum behind e.
      let g = lengths_got frame readLength 0 count at sum behind e in
      let room = g.inside inside in
      λ here. then_ends Any (ReadyHead class frame) (spliced_seg_mapping_pos (straight position) (words_at count frame at)) _
      (every_end (spliced_seg_mapping_pos (straight position) (words_at count frame at))
      record {
        least = one;
        most = most;
        rcomp = strand;
        inside = room;
        splices = record { least = least; most = few; inside = λ h. omega (arith, g.place) };
        sum = λ h. omega (arith, g.adds);
        none_zero = λ h. g.each;
        one_piece = λ h. absurd (omega arith);
      }))

  pieces_head_ready : (at : ℕ) → at ≤ length frame → Ends Any (ReadyHead class frame) (from_pieces class frame position readLength rcomp at)
  unfolding from_pieces
  pieces_head_ready at inside =
      by_test (ltb class class_i)
      (λ t. rw t
      record {
        least = one;
        most = most;
        rcomp = strand;
        inside = inside;
        splices = record { least = omega arith; most = omega arith; inside = λ h. absurd (omega arith) };
        sum = λ h. absurd (omega (arith, ltb-true class class_i t));
        none_zero = λ h. absurd (omega (arith, ltb-true class class_i t));
        one_piece = λ h. refl;
      })
      (λ t. rw t
      (checked_ends (ReadyHead class frame) (number_at frame at) _
      (λ count next e. let g = number_got frame at count next e in lengths_ready count next.at (ltb-false class class_i t) g.above g.below g.inside)))

pub head_ready : (class : ℕ) (frame : List ℕ) (position at : ℕ) → Ends Any (ReadyHead class frame) (head_at class frame position at)
unfolding head_at from_rcomp
head_ready class frame position at =
    checked_ends (ReadyHead class frame) (length_at frame at) _
    (λ readLength next e.
    let g = length_got frame at readLength next e in
    checked_ends (ReadyHead class frame) (rcomp_at class frame next.at) _
    (λ rcomp last f.
    let k = rcomp_got class frame next.at rcomp last f in
    pieces_head_ready class frame position readLength rcomp g.above g.below k.below last.at k.inside))
