-- The laws of a record line that was accepted: it is well formed, its pair symbols gave its link and the state, and its segments are ready to be written.
-- Assumes nothing.
use mathlib.Core.Path.{◌≡◌, refl, sym, ap, ◌∙◌}
use mathlib.Core.Bool.{true, false}
use mathlib.Core.List.{List, ◌++◌, append-nil}
use mathlib.Core.Logic.{inl, inr}
use Prim.Native.Nat.{ℕ, ◌+◌, ◌^◌, ◌<◌, ◌≤◌}
use native.Mathlib.Omega.{arith}
use borrow.Author.Tests.{ltb-true, ltb-false, eqb-true, eqb-false}
use lib.Dec.{ltb, leb, eqb}
use lib.ListN.{length, get_or}
use Rattle.std.specs.Prelude.{Ok, Err}
use Rattle.refusal.specs.Answers.{OrRefused}
use Rattle.refusal.specs.declared.Refusal.{Refusal}
use Rattle.refusal.specs.declared.Refusal.TheVariants.{Misframed, PositionOut}
use Rattle.refusal.proofs.AnswerLaws.{never_refused, ok_pair}
use Rattle.limits.specs.Limits.{record_fields}
use Rattle.frame.specs.Hex.{unhex}
use Rattle.frame.specs.Line.{line_of}
use Rattle.frame.specs.Field.{big_at, field_at}
use Rattle.frame.specs.declared.field.Cursor.{Cursor}
use Rattle.frame.proofs.HexLaws.{by_test, byte_lt}
use Rattle.frame.proofs.Tests.{cond_of}
use Rattle.frame.proofs.StepLaws.{past_line}
use Rattle.unit.specs.Kinds.{kind_record}
use Rattle.unit.specs.Unit.{class_hm, class_u, most_segments}
use Rattle.unit.specs.declared.Unit.{Unit}
use Rattle.unit.proofs.ValidLaws.{UnitValid}
use Rattle.state.specs.declared.State.{State}
use Rattle.taking.specs.Steps.{Steps, sets, refuses, and_then, Came, came, stopped, decode}
use Rattle.taking.specs.Reading.{Took, taken_in}
use Rattle.taking.proofs.Reading.{taken_then, quiet_takes}
use Rattle.taking.proofs.Decoding.{Ends, Any, ends_as, then_ends, decode_ends, CameThen, then_came}
use Rattle.pairing.specs.Table60.{mapping_pos}
use Rattle.pairing.specs.Pairing.{link_of, paired as paired_of, pair_steps, pair_of, pair_takes}
use Rattle.pairing.specs.declared.Link.{Link}
use Rattle.block.specs.declared.unaligned.UnalignedBlock.{UnalignedBlock}
use Rattle.block.specs.Head.{head_at}
use Rattle.block.specs.Code.Ready.{ReadyHead}
use Rattle.block.specs.declared.head.BlockHead.{BlockHead}
use Rattle.block.proofs.ReadyLaws.{head_ready}
use Rattle.segment.specs.Segment.{placed_at, plain_at}
use Rattle.segment.specs.declared.Placed.{Placed}
use Rattle.segment.specs.declared.Segment.{Segment}
use Rattle.segment.specs.declared.Segment.TheVariants.{Aligned, Unaligned, Absent}
use Rattle.segment.proofs.SegmentLaws.{SegmentTaken, placed_taken, plain_taken, absent_taken}
use Rattle.segment.proofs.StandardLaws.{SegmentAccepted, placed_accepted, placed_aligned, plain_unaligned}
use Rattle.segment.proofs.PlaceLaws.{placed_inside}
use Rattle.plan.specs.Plan.{plan, nothing_left_over, SegmentAt, segment_steps, aligned_steps, plain_steps, first_segment, second_segment, from_second, from_first, from_pos, record_steps, reading_by, from_kind, plan_of}
use Rattle.plan.specs.Code.Ready.{ReadyPlan}
use Rattle.plan.specs.Said.{Second, alone, behind, Blocks, PlanTaken}
use Rattle.plan.specs.declared.read.Plan.{Plan}
use Rattle.plan.proofs.QuietLaws.{pos_quiet}
use Rattle.plan.proofs.Steps.{first_plain, first_placed, second_placed, second_plain, one_segment, two_segments, pos_short, pos_out, pos_in, kind_short, kind_other, kind_right, left_over, none_left_over}

-- ---- the steps of an accepted record

never : {n : Refusal} {p : Plan} {st : State} → stopped n ≡ came p st → ⊥
never e = let z : ◌≡◌ {A = ℕ} 0 1 = cc in omega arith

field_there : (k : ℕ) (frame : List ℕ) (at : ℕ) → leb (at + k) (length frame) ≡ true → field_at k frame at ≡ Ok (big_at k frame at, record { at = at + k })
unfolding field_at
field_there k frame at t = rw t refl

field_short : (k : ℕ) (frame : List ℕ) (at : ℕ) → leb (at + k) (length frame) ≡ false → field_at k frame at ≡ Err Misframed
unfolding field_at
field_short k frame at t = rw t refl

module _ (u : Unit) (reference symbols counts frame : List ℕ) (p : Plan) (moved : State) where
  abbrev Comes : State → Steps Plan → Type 0
  Comes st steps = decode symbols counts st steps ≡ came p moved

  -- by steps that are the same
  as_steps : (st : State) (a b : Steps Plan) → a ≡ b → Comes st b → Comes st a
  as_steps st a b e q = ap (decode symbols counts st) e ∙ q

  refuses_never : (st : State) (n : Refusal) (b : Steps Plan) → refuses n ≡ b → Comes st b → ⊥
  unfolding decode
  refuses_never st n b e q = never (as_steps st (refuses n) b e q)

  finished_is : (st : State) (q : Plan) (at : ℕ) → Comes st (nothing_left_over frame q at) → (p ≡ q) × (moved ≡ st)
  unfolding decode
  finished_is st q at e =
      by_test (ltb at (length frame))
      (λ t. absurd (refuses_never st Misframed _ (left_over frame q at (ltb-true _ _ t)) e))
      (λ t. let w : came q st ≡ came p moved = as_steps st (sets q) _ (none_left_over frame q at (ltb-false _ _ t)) e in (cc, cc))

  -- what is so of the record's link, position and blocks
  record BlocksOf (link : Link) (pos at : ℕ) (st : State) : Type 0 where
    link_is : p.link ≡ link
    pos_is : p.pos ≡ pos
    blocks : Blocks u reference symbols counts frame at st p moved

  module _ (link : Link) (pos : ℕ) where
    alone_blocks : (first : Segment) (at : ℕ) (next : Cursor) (st middle : State) → decode symbols counts st (first_segment u reference symbols frame pos at) ≡ came record { segment = first; next = next } middle
        → link.segments < most_segments → (p ≡ plan link pos first Absent) × (moved ≡ middle) → BlocksOf link pos at st
    alone_blocks first at next st middle f few w =
        let i : p ≡ plan link pos first Absent = w.0 in
        rw i record { link_is = refl; pos_is = refl; blocks = record { next = next; middle = middle; first = f; second = alone few refl w.1 } }

    both_blocks : (first : Segment) (at : ℕ) (next : Cursor) (st middle : State) → decode symbols counts st (first_segment u reference symbols frame pos at) ≡ came record { segment = first; next = next } middle
        → most_segments ≤ link.segments → (second : Segment) (last : Cursor) → decode symbols counts middle (second_segment u reference symbols frame link pos next.at) ≡ came record { segment = second; next = last } moved
        → p ≡ plan link pos first second → BlocksOf link pos at st
    both_blocks first at next st middle f two second last g i =
        rw i record { link_is = refl; pos_is = refl; blocks = record { next = next; middle = middle; first = f; second = behind two last g } }

    second_blocks : (first : Segment) (at : ℕ) (next : Cursor) (st middle : State) → decode symbols counts st (first_segment u reference symbols frame pos at) ≡ came record { segment = first; next = next } middle
        → Comes middle (from_second u reference symbols frame link pos first next.at) → BlocksOf link pos at st
    second_blocks first at next st middle f q =
        by_test (ltb link.segments most_segments)
        (λ t.
        alone_blocks first at next st middle f (ltb-true _ _ t)
        (finished_is middle (plan link pos first Absent) next.at (as_steps middle _ _ (one_segment u reference symbols frame pos next.at link first (ltb-true _ _ t)) q)))
        (λ t.
        let two : most_segments ≤ link.segments = ltb-false _ _ t in
        let d = then_came symbols counts (second_segment u reference symbols frame link pos next.at) (λ s. nothing_left_over frame (plan link pos first s.segment) s.next.at) middle p moved (as_steps middle _ _ (two_segments u reference symbols frame pos next.at link first two) q) in
        let w = finished_is d.middle (plan link pos first d.value.segment) d.value.next.at d.rest in
        both_blocks first at next st middle f two d.value.segment d.value.next (d.first ∙ ap (came d.value) (sym w.1)) w.0)

    first_blocks : (at : ℕ) (st : State) → Comes st (from_first u reference symbols frame link pos at) → BlocksOf link pos at st
    unfolding from_first
    first_blocks at st q =
        let d = then_came symbols counts (first_segment u reference symbols frame pos at) (λ s. from_second u reference symbols frame link pos s.segment s.next.at) st p moved q in
        second_blocks d.value.segment at d.value.next st d.middle d.first d.rest

  pos_blocks : (link : Link) (at : ℕ) (st : State) → Comes st (from_pos u reference symbols frame link at) → BlocksOf link (big_at 4 frame at) (at + 4) st
  pos_blocks link at st q =
      by_test (leb (at + 4) (length frame))
      (λ t.
      let f = field_there 4 frame at t in
      by_test (eqb u.class class_u)
      (λ h.
      by_test (eqb (big_at 4 frame at) 0)
      (λ z. first_blocks link _ (at + 4) st (as_steps st _ _ (pos_in u reference symbols frame link at _ _ f (inr (eqb-true _ _ h, eqb-true _ _ z))) q))
      (λ z. absurd (refuses_never st PositionOut _ (pos_out u reference symbols frame link at _ _ f (eqb-true _ _ h) (eqb-false _ _ z)) q)))
      (λ h. first_blocks link _ (at + 4) st (as_steps st _ _ (pos_in u reference symbols frame link at _ _ f (inl (eqb-false _ _ h))) q)))
      (λ t. absurd (refuses_never st Misframed _ (pos_short u reference symbols frame link at (field_short 4 frame at t)) q))

  -- the pair symbols first
  record PairThen (st : State) : Type 0 where
    kind : big_at 1 frame 0 ≡ kind_record
    right : and_then (pair_steps u) (λ d. from_pos u reference symbols frame (link_of d) 1) ≡ record_steps u reference symbols frame
    pairs : CameThen symbols counts (pair_steps u) (λ d. from_pos u reference symbols frame (link_of d) 1) st p moved

  kind_blocks : (st : State) → Comes st (record_steps u reference symbols frame) → PairThen st
  kind_blocks st q =
      by_test (leb (0 + 1) (length frame))
      (λ t.
      let f = field_there 1 frame 0 t in
      by_test (eqb (big_at 1 frame 0) kind_record)
      (λ k. record { kind = eqb-true _ _ k; right = kind_right u reference symbols frame _ _ f (eqb-true _ _ k); pairs = then_came symbols counts (pair_steps u) (λ d. from_pos u reference symbols frame (link_of d) 1) st p moved (as_steps st _ _ (kind_right u reference symbols frame _ _ f (eqb-true _ _ k)) q) })
      (λ k. absurd (refuses_never st Misframed _ (kind_other u reference symbols frame _ _ f (eqb-false _ _ k)) q)))
      (λ t. absurd (refuses_never st Misframed _ (kind_short u reference symbols frame (field_short 1 frame 0 t)) q))

-- ---- what is so of every segment that is read

read_ends : (P : SegmentAt → Type 0) (x : OrRefused (Segment × Cursor)) → ((p : Segment) (next : Cursor) → x ≡ Ok (p, next) → P record { segment = p; next = next }) → Ends Any P (segment_steps x)
read_ends P (Ok (p, next)) h = h p next refl
read_ends P (Err n) h = tt

-- of an aligned one, behind a head that was accepted
aligned_ends : (u : Unit) (reference symbols frame : List ℕ) (position at : ℕ) (P : SegmentAt → Type 0)
    → ((h : BlockHead) (p : Segment) (next : Cursor) → ReadyHead u.class frame h → placed_at u reference symbols frame position h ≡ Ok (p, next) → P record { segment = p; next = next })
    → Ends Any P (aligned_steps u reference symbols frame position at)
unfolding aligned_steps
aligned_ends u reference symbols frame position at P f =
    then_ends Any P (head_at u.class frame position at) (λ h. segment_steps (placed_at u reference symbols frame position h))
    (ends_as Any (ReadyHead u.class frame) (λ h. Ends Any P (segment_steps (placed_at u reference symbols frame position h))) (head_at u.class frame position at)
    (λ h r. read_ends P (placed_at u reference symbols frame position h) (λ p next e. f h p next r e))
    (head_ready u.class frame position at))

-- ---- they are ready to be written

module _ (u : Unit) (reference symbols frame : List ℕ) (bytes : (i : ℕ) → get_or frame i 0 < 256) (valid : UnitValid u) (fits : u.end < 2 ^ 32) where
  abbrev Taken : SegmentAt → Type 0
  Taken s = SegmentTaken u reference symbols frame s.segment s.next.at

  -- of either segment, what holds of every aligned and of every plain one
  first_taken : (pos at : ℕ) → Ends Any Taken (first_segment u reference symbols frame pos at)
  unfolding first_segment
  first_taken pos at =
      cond_of (λ (x : Steps SegmentAt). Ends Any Taken x) (eqb u.class class_u) _ _
      (λ t. read_ends Taken (plain_at u frame at) (λ p next e. plain_taken u reference symbols frame at p next e))
      (λ t. aligned_ends u reference symbols frame pos at Taken
      (λ h p next r e. placed_taken u reference symbols frame pos p next valid.class_least (omega (arith, valid.class_most, eqb-false u.class class_u t)) fits h r bytes e))

  second_taken : (link : Link) (pos at : ℕ) → Ends Any Taken (second_segment u reference symbols frame link pos at)
  unfolding second_segment
  second_taken link pos at =
      cond_of (λ (x : Steps SegmentAt). Ends Any Taken x) (ltb u.class class_hm) _ _
      (λ t. aligned_ends u reference symbols frame (mapping_pos pos link.mate) at Taken
      (λ h p next r e. placed_taken u reference symbols frame (mapping_pos pos link.mate) p next valid.class_least (omega (arith, ltb-true u.class class_hm t)) fits h r bytes e))
      (λ t. read_ends Taken (plain_at u frame at) (λ p next e. plain_taken u reference symbols frame at p next e))

  both_ready : (p : Plan) (a b : ℕ) → SegmentTaken u reference symbols frame p.first a → SegmentTaken u reference symbols frame p.second b → ReadyPlan u reference symbols frame p
  both_ready p a b f s =
      record { first = f.ready; second = s.ready; first_long = f.long; second_long = s.long; first_most = f.most; second_most = s.most }

  module _ (counts : List ℕ) (at : ℕ) (st : State) (p : Plan) (moved : State) where
    pub blocks_ready : Blocks u reference symbols counts frame at st p moved → ReadyPlan u reference symbols frame p
    blocks_ready b = by b.second
      where
        first : SegmentTaken u reference symbols frame p.first b.next.at
        first = decode_ends symbols counts Any Taken (λ i. refl) (first_segment u reference symbols frame p.pos at) st (first_taken p.pos at) _ b.middle b.first

        by : Second u reference symbols counts frame p b.next.at b.middle moved → ReadyPlan u reference symbols frame p
        by (alone few e same) = both_ready p _ 0 first (rw e (absent_taken u reference symbols frame))
        by (behind two next e) =
            both_ready p _ _ first (decode_ends symbols counts Any Taken (λ i. refl) (second_segment u reference symbols frame p.link p.pos b.next.at) b.middle (second_taken p.link p.pos b.next.at) _ moved e)

-- ---- the whole line

module _ (u : Unit) (reference symbols counts : List ℕ) (state : State) (line : List ℕ) (p : Plan) (moved : State) where
  reading_came : (x : Came Plan) → reading_by x ≡ Ok (p, moved) → x ≡ came p moved
  reading_came (came q next) e = let w = ok_pair e in rw (w.0, w.1) refl
  reading_came (stopped n) e = never_refused e

  -- what the steps came to
  steps_taken : (size : ℕ) → line_of line ≡ Ok size → decode symbols counts state (record_steps u reference symbols (unhex line)) ≡ came p moved → PlanTaken u reference symbols counts state line p moved
  unfolding pair_of
  steps_taken size w q =
      let k = kind_blocks u reference symbols counts (unhex line) p moved state q in
      let d = k.pairs in
      let b = pos_blocks u reference symbols counts (unhex line) p moved (link_of d.value) 1 d.middle d.rest in
      record {
        size = size;
        well_formed = w;
        kind = k.kind;
        paired = d.middle;
        linked = ap paired_of d.first ∙ ap (λ (x : Link). Ok (x, d.middle)) (sym b.link_is);
        pos_is = b.pos_is;
        blocks = b.blocks;
        steps = q;
        takes = both k ∙ ap (λ (x : Link). pair_takes u symbols state ++ taken_in symbols d.middle (blocks_of x)) (sym b.link_is);
        takes_pair =
            λ spliceless.
            both k
            ∙ ap (λ (l : List Took). pair_takes u symbols state ++ l) (quiet_takes symbols d.middle _ (pos_quiet u reference symbols (unhex line) spliceless (link_of d.value) 1))
            ∙ append-nil (pair_takes u symbols state);
      }
    where
      -- what stands behind the pair symbols
      blocks_of : Link → Steps Plan
      blocks_of link = from_pos u reference symbols (unhex line) link 1

      both : (k : PairThen u reference symbols counts (unhex line) p moved state) → taken_in symbols state (record_steps u reference symbols (unhex line)) ≡ pair_takes u symbols state ++ taken_in symbols k.pairs.middle (blocks_of (link_of k.pairs.value))
      both k = ap (taken_in symbols state) (sym k.right) ∙ taken_then symbols counts (pair_steps u) (λ x. blocks_of (link_of x)) state k.pairs.value k.pairs.middle k.pairs.first

  pub plan_taken : plan_of u reference symbols counts state line ≡ Ok (p, moved) → PlanTaken u reference symbols counts state line p moved
  unfolding plan_of from_kind
  plan_taken q =
      let l = past_line Err (λ n z. never_refused z) (line_of line) _ q in
      steps_taken l.bytes l.frame (reading_came (decode symbols counts state (record_steps u reference symbols (unhex line))) l.rest)

  pub plan_ready : UnitValid u → u.end < 2 ^ 32 → PlanTaken u reference symbols counts state line p moved → ReadyPlan u reference symbols (unhex line) p
  plan_ready valid fits t = blocks_ready u reference symbols (unhex line) (byte_lt line) valid fits counts record_fields _ p moved t.blocks

-- ---- which of its segments are aligned (10.4.10): all in P, N, M and I, the first in HM, none in U

never_plain : {P : Type 0} {q : Placed} → (s : UnalignedBlock) × (Aligned q ≡ Unaligned s) → P
never_plain w = let e = w.1 in absurd (let z : ◌≡◌ {A = ℕ} 0 1 = cc in omega arith)

module _ (u : Unit) (reference symbols counts frame : List ℕ) where
  abbrev Reaches : State → Steps SegmentAt → Segment → Type 0
  Reaches st steps p = (next : Cursor) × ((after : State) × (decode symbols counts st steps ≡ came record { segment = p; next = next } after))

  -- what every end of the steps has, the segment has
  reached : (P : Segment → Type 0) (st : State) (steps : Steps SegmentAt) (p : Segment) → Ends Any (λ s. P s.segment) steps → Reaches st steps p → P p
  reached P st steps p ends r = decode_ends symbols counts Any (λ s. P s.segment) (λ i. refl) steps st ends _ _ r.1.1

  abbrev IsAligned : Segment → Type 0
  IsAligned p = (q : Placed) × (p ≡ Aligned q)

  abbrev IsPlain : Segment → Type 0
  IsPlain p = (s : UnalignedBlock) × (p ≡ Unaligned s)

  plain_is : (at : ℕ) → Ends Any (λ s. IsPlain s.segment) (plain_steps u frame at)
  plain_is at = read_ends (λ s. IsPlain s.segment) (plain_at u frame at) (λ p next e. plain_unaligned u frame p next at e)

  aligned_is : (position at : ℕ) → Ends Any (λ s. IsAligned s.segment) (aligned_steps u reference symbols frame position at)
  aligned_is position at = aligned_ends u reference symbols frame position at _ (λ h p next r e. placed_aligned u frame p next reference symbols position h e)

  module _ (at : ℕ) (st : State) (p : Plan) (moved : State) (b : Blocks u reference symbols counts frame at st p moved) where
    -- the steps of the first, by the class
    first_by : (steps : Steps SegmentAt) → steps ≡ first_segment u reference symbols frame p.pos at → Reaches st steps p.first
    first_by steps e = (b.next, (b.middle, ap (decode symbols counts st) e ∙ b.first))

    -- and of the second, where there is one
    second_by : most_segments ≤ p.link.segments → (steps : Steps SegmentAt) → steps ≡ second_segment u reference symbols frame p.link p.pos b.next.at → Reaches b.middle steps p.second
    second_by two steps e = by b.second
      where
        by : Second u reference symbols counts frame p b.next.at b.middle moved → Reaches b.middle steps p.second
        by (alone few none same) = absurd (omega arith)
        by (behind _ next f) = (next, (moved, ap (decode symbols counts b.middle) e ∙ f))

    pub first_is_aligned : (u.class ≡ class_u → ⊥) → IsAligned p.first
    first_is_aligned h = reached IsAligned st _ p.first (aligned_is p.pos at) (first_by _ (first_placed u reference symbols frame p.pos at h))

    pub first_is_plain : u.class ≡ class_u → IsPlain p.first
    first_is_plain h = reached IsPlain st _ p.first (plain_is at) (first_by _ (first_plain u reference symbols frame p.pos at h))

    pub second_is_aligned : most_segments ≤ p.link.segments → u.class < class_hm → IsAligned p.second
    second_is_aligned two h = reached IsAligned b.middle _ p.second (aligned_is (mapping_pos p.pos p.link.mate) b.next.at) (second_by two _ (second_placed u reference symbols frame p.pos b.next.at p.link h))

    pub second_is_plain : most_segments ≤ p.link.segments → class_hm ≤ u.class → IsPlain p.second
    second_is_plain two h = reached IsPlain b.middle _ p.second (plain_is b.next.at) (second_by two _ (second_plain u reference symbols frame p.pos b.next.at p.link h))

    pub second_is_absent : p.link.segments < most_segments → p.second ≡ Absent
    second_is_absent few = by b.second
      where
        by : Second u reference symbols counts frame p b.next.at b.middle moved → p.second ≡ Absent
        by (alone _ none same) = none
        by (behind two next f) = absurd (omega arith)

    -- a mate that is aligned stands inside the unit
    pub second_inside : most_segments ≤ p.link.segments → u.class < class_hm → (u.start ≤ mapping_pos p.pos p.link.mate) × (mapping_pos p.pos p.link.mate ≤ u.end)
    second_inside two h =
        reached (λ _. (u.start ≤ mapping_pos p.pos p.link.mate) × (mapping_pos p.pos p.link.mate ≤ u.end)) b.middle _ p.second
        (aligned_ends u reference symbols frame (mapping_pos p.pos p.link.mate) b.next.at _ (λ h s next r e. placed_inside u reference symbols frame (mapping_pos p.pos p.link.mate) h s next r e)) (second_by two _ (second_placed u reference symbols frame p.pos b.next.at p.link h))

    -- ---- its aligned segments are accepted ones

    module _ (valid : UnitValid u) (q : Placed) where
      abbrev At : ℕ → Segment → Type 0
      At position s = s ≡ Aligned q → SegmentAccepted u reference symbols frame q × (q.position ≡ position)

      all_at : (position place : ℕ) → u.class ≤ class_hm → Ends Any (λ s. At position s.segment) (aligned_steps u reference symbols frame position place)
      all_at position place last =
          aligned_ends u reference symbols frame position place _
          (λ h s next r e i. placed_accepted u reference symbols frame position q next h r valid.class_least last (e ∙ ap (λ (x : Segment). Ok (x, next)) i))

      not_plain : {position : ℕ} {s : Segment} → IsPlain s → At position s
      not_plain w e = absurd (let z : Aligned q ≡ Unaligned w.0 = sym e ∙ w.1 in let y : ◌≡◌ {A = ℕ} 0 1 = cc in omega arith)

      -- in every class but U the first stands at pos
      pub first_aligned : At p.pos p.first
      first_aligned =
          by_test (eqb u.class class_u)
          (λ t. not_plain (first_is_plain (eqb-true _ _ t)))
          (λ t. let h = eqb-false u.class class_u t in
          reached (At p.pos) st _ p.first (all_at p.pos at (omega (arith, valid.class_most, h)))
          (first_by _ (first_placed u reference symbols frame p.pos at h)))

      -- in the classes before HM the second stands at the mate's position
      pub second_aligned : At (mapping_pos p.pos p.link.mate) p.second
      second_aligned =
          by_test (ltb p.link.segments most_segments)
          (λ t e. absurd (let w : Absent ≡ Aligned q = sym (second_is_absent (ltb-true _ _ t)) ∙ e in let z : ◌≡◌ {A = ℕ} 0 1 = cc in omega arith))
          (λ t.
          let two : most_segments ≤ p.link.segments = ltb-false _ _ t in
          by_test (ltb u.class class_hm)
          (λ h. let l = ltb-true u.class class_hm h in
          reached (At (mapping_pos p.pos p.link.mate)) b.middle _ p.second (all_at (mapping_pos p.pos p.link.mate) b.next.at (omega arith))
          (second_by two _ (second_placed u reference symbols frame p.pos b.next.at p.link l)))
          (λ h. not_plain (second_is_plain two (ltb-false _ _ h))))
