-- In P, N, M and U a record takes no symbol behind its pair symbols: no block asks for one.
-- Assumes nothing.
use mathlib.Core.Path.{◌≡◌}
use mathlib.Core.Logic.{◌⊎◌, ⊎_elim}
use mathlib.Core.List.{List}
use Prim.Native.Nat.{ℕ, ◌<◌}
use native.Mathlib.Omega.{arith}
use borrow.Author.Tests.{ltb-true, eqb-false}
use lib.Dec.{ltb, eqb}
use lib.ListN.{length}
use Rattle.frame.proofs.Tests.{one_of, cond_of}
use Rattle.frame.proofs.StepLaws.{by_field}
use Rattle.unit.specs.Unit.{class_i, class_hm, class_u, most_segments}
use Rattle.unit.specs.declared.Unit.{Unit as UnitOf}
use Rattle.taking.specs.Steps.{Steps}
use Rattle.taking.proofs.Reading.{Quiet, then_quiet}
use Rattle.pairing.specs.declared.Link.{Link}
use Rattle.block.specs.Head.{head_at}
use Rattle.block.proofs.Steps.{head_quiet}
use Rattle.segment.specs.Segment.{placed_at, plain_at}
use Rattle.segment.specs.declared.Segment.{Segment}
use Rattle.segment.specs.declared.Segment.TheVariants.{Absent}
use Rattle.std.specs.Prelude.{Ok, Err}
use Rattle.refusal.specs.Answers.{OrRefused}
use Rattle.frame.specs.declared.field.Cursor.{Cursor}
use Rattle.plan.specs.Plan.{plan, nothing_left_over, SegmentAt, segment_steps, aligned_steps, first_segment, second_segment, from_second, from_first, from_pos}
use Rattle.plan.specs.declared.read.Plan.{Plan}

abbrev QuietSegment : Steps SegmentAt → Type 0
QuietSegment p = Quiet p

abbrev QuietPlan : Steps Plan → Type 0
QuietPlan p = Quiet p

read_quiet : (x : OrRefused (Segment × Cursor)) → QuietSegment (segment_steps x)
read_quiet (Ok (p, next)) = tt
read_quiet (Err n) = tt

module _ (u : UnitOf) (reference symbols frame : List ℕ) (spliceless : (u.class < class_i) ⊎ (u.class ≡ class_u)) where
  aligned_quiet : u.class < class_i → (position at : ℕ) → QuietSegment (aligned_steps u reference symbols frame position at)
  unfolding aligned_steps
  aligned_quiet before position at = then_quiet (head_at u.class frame position at) (λ head. segment_steps (placed_at u reference symbols frame position head)) (head_quiet u.class frame position at before) (λ head. read_quiet (placed_at u reference symbols frame position head))

  first_quiet : (pos at : ℕ) → QuietSegment (first_segment u reference symbols frame pos at)
  unfolding first_segment
  first_quiet pos at =
      cond_of QuietSegment (eqb u.class class_u) _ _ (λ t. read_quiet (plain_at u frame at))
      (λ t. aligned_quiet (⊎_elim (λ l. l) (λ e. absurd (eqb-false u.class class_u t e)) spliceless) pos at)

  second_quiet : (link : Link) (pos at : ℕ) → QuietSegment (second_segment u reference symbols frame link pos at)
  unfolding second_segment
  second_quiet link pos at =
      cond_of QuietSegment (ltb u.class class_hm) _ _
      (λ t. aligned_quiet (⊎_elim (λ l. l) (λ e. absurd (omega (arith, e, ltb-true u.class class_hm t))) spliceless) _ at) (λ t. read_quiet (plain_at u frame at))

  finished_quiet : (p : Plan) (at : ℕ) → QuietPlan (nothing_left_over frame p at)
  unfolding nothing_left_over
  finished_quiet p at = one_of QuietPlan (ltb at (length frame)) _ _ tt tt

  module _ (link : Link) where
    from_second_quiet : (pos : ℕ) (first : Segment) (at : ℕ) → QuietPlan (from_second u reference symbols frame link pos first at)
    unfolding from_second
    from_second_quiet pos first at =
        one_of QuietPlan (ltb link.segments most_segments) _ _ (finished_quiet (plan link pos first Absent) at)
        (then_quiet (second_segment u reference symbols frame link pos at) _ (second_quiet link pos at) (λ s. finished_quiet (plan link pos first s.segment) s.next.at))

    from_first_quiet : (pos at : ℕ) → QuietPlan (from_first u reference symbols frame link pos at)
    unfolding from_first
    from_first_quiet pos at = then_quiet (first_segment u reference symbols frame pos at) _ (first_quiet pos at) (λ s. from_second_quiet pos s.segment s.next.at)

    pub pos_quiet : (at : ℕ) → QuietPlan (from_pos u reference symbols frame link at)
    unfolding from_pos
    pos_quiet at =
        by_field QuietPlan 4 frame at _ _ tt
        (λ pos next. one_of QuietPlan (eqb u.class class_u) _ _
        (one_of QuietPlan (eqb pos 0) _ _ (from_first_quiet pos next.at) tt)
        (from_first_quiet pos next.at))
