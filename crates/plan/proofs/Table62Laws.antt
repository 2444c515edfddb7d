-- The laws of an accepted record's pieces: in I and HM each aligned segment takes its symbols by Table 62 from the state before its block, and its pieces stand where that comes to.
-- Assumes nothing.
use mathlib.Core.Path.{◌≡◌, refl, sym, ap, ◌∙◌}
use mathlib.Core.List.{List}
use Prim.Native.Nat.{ℕ, ◌≤◌}
use native.Mathlib.Omega.{arith}
use borrow.Author.Tests.{ltb-true, ltb-false, eqb-true, eqb-false}
use lib.Dec.{ltb, eqb}
use Rattle.std.specs.Prelude.{Ok, Err}
use Rattle.refusal.specs.Answers.{OrRefused}
use Rattle.refusal.proofs.AnswerLaws.{past_ok, past_checked, ok_pair}
use Rattle.frame.specs.declared.field.Cursor.{Cursor}
use Rattle.frame.proofs.HexLaws.{by_test}
use Rattle.unit.specs.Unit.{class_i, class_hm, class_u}
use Rattle.unit.specs.declared.Unit.{Unit}
use Rattle.state.specs.State.{Shaped}
use Rattle.state.specs.declared.State.{State}
use Rattle.taking.specs.Steps.{came, decode}
use Rattle.taking.proofs.Decoding.{decode_follows, then_came}
use Rattle.pairing.specs.Table60.{mapping_pos}
use Rattle.pairing.specs.Pairing.{pair_steps}
use Rattle.pairing.proofs.Laws.{pair_came}
use Rattle.edits.specs.Pieces.{pieces_of}
use Rattle.splices.specs.Located.{positions_from, first_mapping, pieces_in}
use Rattle.pieces.specs.Placed.{pieces_refusal}
use Rattle.block.specs.Aligned.{aligned_at}
use Rattle.block.specs.Head.{head_at}
use Rattle.block.specs.declared.head.BlockHead.{BlockHead}
use Rattle.block.specs.declared.aligned.AlignedBlock.{AlignedBlock}
use Rattle.block.specs.declared.unaligned.UnalignedBlock.{UnalignedBlock}
use Rattle.block.proofs.ReadyLaws.{block_head}
use Rattle.block.proofs.HeadLaws.{HeadSpliced, head_positions}
use Rattle.segment.specs.Segment.{block_pieces, placement, placed, placed_at, plain_at, edits_in, lengths_of}
use Rattle.segment.specs.Listed.{mapped_in}
use Rattle.segment.specs.declared.Placed.{Placed}
use Rattle.segment.specs.declared.Segment.{Segment}
use Rattle.segment.specs.declared.Segment.TheVariants.{Aligned, Unaligned, Absent}
use Rattle.plan.specs.Plan.{SegmentAt, segment_steps, aligned_steps, first_segment}
use Rattle.plan.specs.Said.{Second, alone, behind, Blocks, PlanTaken, Table62Of}
use Rattle.plan.specs.declared.read.Plan.{Plan}
use Rattle.plan.proofs.PlanLaws.{first_is_plain, second_is_aligned, second_is_plain}
use Rattle.plan.proofs.Steps.{first_placed, second_placed, second_plain}

-- ---- a segment that was accepted has its head's pieces, at the position that was given

module _ (u : Unit) (reference symbols frame : List ℕ) (position : ℕ) (q : Placed) (next : Cursor) where
  placed_is : (a : AlignedBlock) → placed u reference symbols frame position a ≡ Ok (Aligned q, next) → q ≡ placement u symbols frame position a
  unfolding placed
  placed_is a e =
      let f = past_checked (pieces_refusal u reference 0 (block_pieces u symbols frame position a)) _ (Aligned q, next) e in
      let w = ok_pair f.1 in cc

  placed_head : (h : BlockHead) → placed_at u reference symbols frame position h ≡ Ok (Aligned q, next) → (q.position ≡ position) × (q.splices ≡ h.splices)
  unfolding placed_at
  placed_head h e =
      let b = past_ok (aligned_at u.class u.alphabet frame h) _ (Aligned q, next) e in
      let i = placed_is b.value b.rest in
      (ap (λ (x : Placed). x.position) i, ap (λ (x : Placed). x.splices) i ∙ (block_head u.class u.alphabet frame h b.value b.accepted).splices)

-- ---- what its steps came to

module _ (u : Unit) (reference symbols counts frame : List ℕ) where
  read_came : (x : OrRefused (Segment × Cursor)) (st : State) (p : Segment) (next : Cursor) (after : State) → decode symbols counts st (segment_steps x) ≡ came record { segment = p; next = next } after
      → (x ≡ Ok (p, next)) × (after ≡ st)
  unfolding decode
  read_came (Ok (s, c)) st p next after e =
      let i : ◌≡◌ {A = SegmentAt} (record { segment = s; next = c }) (record { segment = p; next = next }) = cc in
      let a : s ≡ p = ap (λ (y : SegmentAt). y.segment) i in
      let b : c ≡ next = ap (λ (y : SegmentAt). y.next) i in
      let m : st ≡ after = cc in
      (rw (a, b) refl, sym m)
  read_came (Err n) st p next after e = absurd (let z : ◌≡◌ {A = ℕ} 0 1 = cc in omega arith)

  head_table62 : (q : Placed) (position : ℕ) (h : BlockHead) (st middle after : State) → q.position ≡ position → q.splices ≡ h.splices → after ≡ middle → Shaped st
      → HeadSpliced symbols counts frame position st h middle → Table62Of u symbols counts frame st q after
  unfolding pieces_in
  head_table62 q position h st middle after at is same shape s =
      let found : s.positions ≡ positions_from symbols (first_mapping q.splices q.position) (lengths_of frame q) = rw (at, is) (s.found shape) in
      record {
        positions = s.positions;
        came_to = rw (at, is, same) s.came_to;
        pieces = ap (pieces_of (mapped_in q) q.block.clips.left_soft (edits_in u frame q) (lengths_of frame q)) (sym found);
      }

  aligned_table62 : class_i ≤ u.class → (q : Placed) (position place : ℕ) (st after : State) (next : Cursor) → Shaped st
      → decode symbols counts st (aligned_steps u reference symbols frame position place) ≡ came record { segment = Aligned q; next = next } after → Table62Of u symbols counts frame st q after
  unfolding aligned_steps
  aligned_table62 spliced q position place st after next shape e =
      let t = then_came symbols counts (head_at u.class frame position place) (λ head. segment_steps (placed_at u reference symbols frame position head)) st _ after e in
      let r = read_came (placed_at u reference symbols frame position t.value) t.middle (Aligned q) next after t.rest in
      let w = placed_head u reference symbols frame position q next t.value r.0 in
      head_table62 q position t.value st t.middle after w.0 w.1 r.1 shape (head_positions symbols counts st t.value t.middle u.class frame position place spliced t.first)

  -- ---- those of a record

  plain_never : {P : Type 0} {q : Placed} {s : Segment} → (b : UnalignedBlock) × (s ≡ Unaligned b) → s ≡ Aligned q → P
  plain_never {P} {q} w e = absurd (let z : Aligned q ≡ Unaligned w.0 = sym e ∙ w.1 in let y : ◌≡◌ {A = ℕ} 0 1 = cc in omega arith)

  module _ (at : ℕ) (st : State) (p : Plan) (moved : State) (b : Blocks u reference symbols counts frame at st p moved) (spliced : class_i ≤ u.class) (shape : Shaped st) (q : Placed) where
    pub first_table62 : p.first ≡ Aligned q → Table62Of u symbols counts frame st q b.middle
    first_table62 e =
        by_test (eqb u.class class_u)
        (λ t. plain_never (first_is_plain u reference symbols counts frame at st p moved b (eqb-true _ _ t)) e)
        (λ t. aligned_table62 spliced q p.pos at st b.middle b.next shape
        (ap (decode symbols counts st) (first_placed u reference symbols frame p.pos at (eqb-false _ _ t)) ∙ b.first ∙ ap (λ (x : Segment). came record { segment = x; next = b.next } b.middle) e))

    pub second_table62 : p.second ≡ Aligned q → Table62Of u symbols counts frame b.middle q moved
    second_table62 e = by b.second
      where
        between : Shaped b.middle
        between = (decode_follows symbols counts (first_segment u reference symbols frame p.pos at) st _ b.middle b.first).long ∙ shape

        by : Second u reference symbols counts frame p b.next.at b.middle moved → Table62Of u symbols counts frame b.middle q moved
        by (alone few none same) = absurd (let w : Absent ≡ Aligned q = sym none ∙ e in let z : ◌≡◌ {A = ℕ} 0 1 = cc in omega arith)
        by (behind two next f) =
            by_test (ltb u.class class_hm)
            (λ t. aligned_table62 spliced q (mapping_pos p.pos p.link.mate) b.next.at b.middle moved next between
            (ap (decode symbols counts b.middle) (second_placed u reference symbols frame p.pos b.next.at p.link (ltb-true _ _ t)) ∙ f ∙ ap (λ (x : Segment). came record { segment = x; next = next } moved) e))
            (λ t. plain_never (second_is_plain u reference symbols counts frame at st p moved b two (ltb-false _ _ t)) e)

  -- a second that is not aligned takes none
  pub second_takes_none : (at : ℕ) (st : State) (p : Plan) (moved : State) (b : Blocks u reference symbols counts frame at st p moved) → ((q : Placed) → p.second ≡ Aligned q → ⊥) → moved ≡ b.middle
  second_takes_none at st p moved b none = by b.second
    where
      by : Second u reference symbols counts frame p b.next.at b.middle moved → moved ≡ b.middle
      by (alone few e same) = same
      by (behind two next f) =
          by_test (ltb u.class class_hm)
          (λ t. let w = second_is_aligned u reference symbols counts frame at st p moved b two (ltb-true _ _ t) in absurd (none w.0 w.1))
          (λ t. (read_came (plain_at u frame b.next.at) b.middle p.second next moved
          (ap (decode symbols counts b.middle) (second_plain u reference symbols frame p.pos b.next.at p.link (ltb-false _ _ t)) ∙ f)).1)

-- the state behind the pair symbols has as many indexes
pub link_shaped : (u : Unit) (reference symbols counts : List ℕ) (state : State) (line : List ℕ) (p : Plan) (moved : State) → (taken : PlanTaken u reference symbols counts state line p moved) → Shaped state → Shaped taken.paired
link_shaped u reference symbols counts state line p moved taken shape =
    let w = pair_came u symbols counts state p.link taken.paired taken.linked in
    (decode_follows symbols counts (pair_steps u) state w.decoded taken.paired w.is).long ∙ shape
