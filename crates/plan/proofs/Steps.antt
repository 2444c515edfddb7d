-- The steps of a record: which of them a test picks, and what reading them hands back.
-- Assumes nothing.
use mathlib.Core.Path.{◌≡◌, refl, sym, ap, ◌∙◌}
use mathlib.Core.List.{List}
use mathlib.Core.Logic.{◌⊎◌, ⊎_elim}
use Prim.Native.Nat.{ℕ, ◌<◌, ◌≤◌}
use lib.Dec.{ltb}
use lib.ListN.{length}
use Rattle.frame.proofs.Tests.{by_test}
use Rattle.plan.specs.Code.Ended.{ended_at}
use borrow.Author.Tests.{lt-ltb, le-ltb, eq-eqb, ne_eqb}
use Rattle.std.specs.Prelude.{Ok, Err}
use Rattle.refusal.specs.Answers.{OrRefused}
use Rattle.refusal.specs.declared.Refusal.{Refusal}
use Rattle.refusal.specs.declared.Refusal.TheVariants.{Misframed, PositionOut}
use Rattle.refusal.proofs.AnswerLaws.{never_accepted, never_refused}
use Rattle.frame.specs.declared.field.Cursor.{Cursor}
use Rattle.frame.specs.Field.{field_at}
use Rattle.unit.specs.Kinds.{kind_record}
use Rattle.unit.specs.Unit.{class_hm, class_u, most_segments}
use Rattle.unit.specs.declared.Unit.{Unit}
use Rattle.state.specs.declared.State.{State}
use Rattle.taking.specs.Steps.{Steps, sets, refuses, and_then, Came, came, stopped, decode}
use Rattle.taking.proofs.Decoding.{then_goes, then_stops}
use Rattle.pairing.specs.Table60.{mapping_pos}
use Rattle.pairing.specs.Pairing.{link_of, pair_steps}
use Rattle.pairing.specs.declared.Link.{Link}
use Rattle.block.specs.Head.{head_at}
use Rattle.block.specs.declared.head.BlockHead.{BlockHead}
use Rattle.segment.specs.Segment.{placed_at, plain_at}
use Rattle.segment.specs.declared.Segment.{Segment}
use Rattle.segment.specs.declared.Segment.TheVariants.{Absent}
use Rattle.plan.specs.Plan.{plan, nothing_left_over, SegmentAt, segment_steps, aligned_steps, plain_steps, segment_moved, first_segment, second_segment, from_second, from_first, from_pos, record_steps, reading_by}
use Rattle.plan.specs.declared.read.Plan.{Plan}

-- ---- which steps

module _ (u : Unit) (reference symbols frame : List ℕ) where
  module _ (pos at : ℕ) where
    pub first_plain : u.class ≡ class_u → plain_steps u frame at ≡ first_segment u reference symbols frame pos at
    unfolding first_segment
    first_plain h = rw (eq-eqb _ _ h) refl

    pub first_placed : (u.class ≡ class_u → ⊥) → aligned_steps u reference symbols frame pos at ≡ first_segment u reference symbols frame pos at
    unfolding first_segment
    first_placed h = rw (ne_eqb _ _ h) refl

    module _ (link : Link) where
      pub second_placed : u.class < class_hm → aligned_steps u reference symbols frame (mapping_pos pos link.mate) at ≡ second_segment u reference symbols frame link pos at
      unfolding second_segment
      second_placed h = rw (lt-ltb _ _ h) refl

      pub second_plain : class_hm ≤ u.class → plain_steps u frame at ≡ second_segment u reference symbols frame link pos at
      unfolding second_segment
      second_plain h = rw (le-ltb _ _ h) refl

      module _ (first : Segment) where
        pub one_segment : link.segments < most_segments → nothing_left_over frame (plan link pos first Absent) at ≡ from_second u reference symbols frame link pos first at
        unfolding from_second
        one_segment h = rw (lt-ltb _ _ h) refl

        pub two_segments : most_segments ≤ link.segments → and_then (second_segment u reference symbols frame link pos at) (λ s. nothing_left_over frame (plan link pos first s.segment) s.next.at) ≡ from_second u reference symbols frame link pos first at
        unfolding from_second
        two_segments h = rw (le-ltb _ _ h) refl

  module _ (link : Link) (at : ℕ) where
    pub pos_short : field_at 4 frame at ≡ Err Misframed → refuses Misframed ≡ from_pos u reference symbols frame link at
    unfolding from_pos
    pos_short e = rw e refl

    module _ (pos : ℕ) (c : Cursor) (e : field_at 4 frame at ≡ Ok (pos, c)) where
      pub pos_out : u.class ≡ class_u → (pos ≡ 0 → ⊥) → refuses PositionOut ≡ from_pos u reference symbols frame link at
      unfolding from_pos
      pos_out h k = rw (e, eq-eqb u.class class_u h, ne_eqb pos 0 k) refl

      pub pos_in : (u.class ≡ class_u → ⊥) ⊎ ((u.class ≡ class_u) × (pos ≡ 0)) → from_first u reference symbols frame link pos c.at ≡ from_pos u reference symbols frame link at
      unfolding from_pos
      pos_in h = ⊎_elim (λ k. rw (e, ne_eqb u.class class_u k) refl) (λ k. rw (e, eq-eqb u.class class_u k.0, eq-eqb pos 0 k.1) refl) h

  pub kind_short : field_at 1 frame 0 ≡ Err Misframed → refuses Misframed ≡ record_steps u reference symbols frame
  unfolding record_steps
  kind_short e = rw e refl

  module _ (kind : ℕ) (c : Cursor) (e : field_at 1 frame 0 ≡ Ok (kind, c)) where
    pub kind_other : (kind ≡ kind_record → ⊥) → refuses Misframed ≡ record_steps u reference symbols frame
    unfolding record_steps
    kind_other h = rw (e, ne_eqb _ _ h) refl

    pub kind_right : kind ≡ kind_record → and_then (pair_steps u) (λ d. from_pos u reference symbols frame (link_of d) c.at) ≡ record_steps u reference symbols frame
    unfolding record_steps
    kind_right h = rw (e, eq-eqb _ _ h) refl

module _ (frame : List ℕ) (p : Plan) (at : ℕ) where
  pub left_over : at < length frame → refuses Misframed ≡ nothing_left_over frame p at
  unfolding nothing_left_over
  left_over h = rw (lt-ltb _ _ h) refl

  pub none_left_over : length frame ≤ at → sets p ≡ nothing_left_over frame p at
  unfolding nothing_left_over
  none_left_over h = rw (le-ltb _ _ h) refl

-- ---- what reading them hands back

module _ (symbols counts : List ℕ) (st : State) where
  pub moved_steps : (x : OrRefused (Segment × Cursor × State)) (p q : Steps SegmentAt) → p ≡ q → x ≡ segment_moved (decode symbols counts st p) → x ≡ segment_moved (decode symbols counts st q)
  moved_steps x p q e h = h ∙ ap (λ (r : Steps SegmentAt). segment_moved (decode symbols counts st r)) e

  module _ (u : Unit) (frame : List ℕ) (at : ℕ) where
    -- what takes no symbol
    module _ (y : OrRefused (Segment × Cursor)) (is : y ≡ plain_at u frame at) where
      pub plain_moved : (p : Segment) (c : Cursor) → y ≡ Ok (p, c) → Ok (p, c, st) ≡ segment_moved (decode symbols counts st (plain_steps u frame at))
      unfolding decode
      plain_moved p c e = rw (← is, e) refl

      pub plain_refused : (n : Refusal) → y ≡ Err n → Err n ≡ segment_moved (decode symbols counts st (plain_steps u frame at))
      unfolding decode
      plain_refused n e = rw (← is, e) refl

    -- what the head takes, and then no more
    module _ (reference : List ℕ) (position : ℕ) where
      pub headless : (n : Refusal) → decode symbols counts st (head_at u.class frame position at) ≡ stopped n → Err n ≡ segment_moved (decode symbols counts st (aligned_steps u reference symbols frame position at))
      unfolding aligned_steps
      headless n e = ap segment_moved (sym (then_stops symbols counts (head_at u.class frame position at) (λ head. segment_steps (placed_at u reference symbols frame position head)) st n e))

      module _ (h : BlockHead) (next : State) (e : decode symbols counts st (head_at u.class frame position at) ≡ came h next) (y : OrRefused (Segment × Cursor)) (is : y ≡ placed_at u reference symbols frame position h) where
        behind_head : segment_moved (decode symbols counts next (segment_steps y)) ≡ segment_moved (decode symbols counts st (aligned_steps u reference symbols frame position at))
        unfolding aligned_steps
        behind_head =
            ap (λ (r : OrRefused (Segment × Cursor)). segment_moved (decode symbols counts next (segment_steps r))) is
            ∙ ap segment_moved (sym (then_goes symbols counts (head_at u.class frame position at) (λ head. segment_steps (placed_at u reference symbols frame position head)) st h next e))

        pub headed : (p : Segment) (c : Cursor) → y ≡ Ok (p, c) → Ok (p, c, next) ≡ segment_moved (decode symbols counts st (aligned_steps u reference symbols frame position at))
        unfolding decode
        headed p c k = rw k at behind_head

        pub headed_refused : (n : Refusal) → y ≡ Err n → Err n ≡ segment_moved (decode symbols counts st (aligned_steps u reference symbols frame position at))
        unfolding decode
        headed_refused n k = rw k at behind_head

-- what the steps of a segment came to, by what reading it handed back
module _ (x : Came SegmentAt) (m : OrRefused (Segment × Cursor × State)) (is : m ≡ segment_moved x) where
  pub segment_came : (p : Segment) (c : Cursor) (next : State) → m ≡ Ok (p, c, next) → x ≡ came record { segment = p; next = c } next
  segment_came p c next e = by x (sym is ∙ e)
    where
      by : (y : Came SegmentAt) → segment_moved y ≡ Ok (p, c, next) → y ≡ came record { segment = p; next = c } next
      by (came b after) q =
          let all : ◌≡◌ {A = Segment × Cursor × State} (b.segment, b.next, after) (p, c, next) = cc in
          rw (ap (λ (z : Segment × Cursor × State). z.0) all, ap (λ (z : Segment × Cursor × State). z.1) all, ap (λ (z : Segment × Cursor × State). z.2) all) refl
      by (stopped n) q = never_refused q

  pub segment_stopped : (n : Refusal) → m ≡ Err n → x ≡ stopped n
  segment_stopped n e = by x (sym is ∙ e)
    where
      by : (y : Came SegmentAt) → segment_moved y ≡ Err n → y ≡ stopped n
      by (came b next) q = never_accepted q
      by (stopped k) q = cc

module _ (x : OrRefused (Plan × State)) (symbols counts : List ℕ) (st : State) where
  -- by other steps that are the same
  pub same_steps : (p q : Steps Plan) → p ≡ q → x ≡ reading_by (decode symbols counts st p) → x ≡ reading_by (decode symbols counts st q)
  same_steps p q e h = h ∙ ap (λ (r : Steps Plan). reading_by (decode symbols counts st r)) e

  pub refused_steps : (n : Refusal) (q : Steps Plan) → refuses n ≡ q → x ≡ Err n → x ≡ reading_by (decode symbols counts st q)
  unfolding decode
  refused_steps n q e h = same_steps (refuses n) q e h

  -- one after the other
  module _ {A : Type 0} (m : Steps A) (f : A → Steps Plan) where
    pub steps_go_on : (a : A) (next : State) → decode symbols counts st m ≡ came a next → x ≡ reading_by (decode symbols counts next (f a)) → x ≡ reading_by (decode symbols counts st (and_then m f))
    steps_go_on a next e h = h ∙ ap reading_by (sym (then_goes symbols counts m f st a next e))

    pub steps_stop : (n : Refusal) → decode symbols counts st m ≡ stopped n → x ≡ Err n → x ≡ reading_by (decode symbols counts st (and_then m f))
    steps_stop n e h = h ∙ ap reading_by (sym (then_stops symbols counts m f st n e))

-- the end of a record, and the state behind it
module _ (frame : List ℕ) (p : Plan) (at : ℕ) (y : OrRefused Plan) (is : y ≡ ended_at frame p at) (symbols counts : List ℕ) (st : State) where
  pub record_ends : (q : Plan) → y ≡ Ok q → Ok (q, st) ≡ reading_by (decode symbols counts st (nothing_left_over frame p at))
  unfolding decode nothing_left_over
  record_ends q e = by_test (ltb at (length frame)) (λ t. never_refused (sym (simp t at is) ∙ e)) (λ t. let w : ◌≡◌ {A = OrRefused Plan} (Ok p) (Ok q) = sym (simp t at is) ∙ e in let same : p ≡ q = cc in rw (t, same) refl)

  pub ending_refused : (n : Refusal) → y ≡ Err n → Err n ≡ reading_by (decode symbols counts st (nothing_left_over frame p at))
  unfolding decode nothing_left_over
  ending_refused n e = by_test (ltb at (length frame)) (λ t. let w : ◌≡◌ {A = OrRefused Plan} (Err Misframed) (Err n) = sym (simp t at is) ∙ e in let same : Misframed ≡ n = cc in rw (t, same) refl) (λ t. never_accepted (sym (simp t at is) ∙ e))
