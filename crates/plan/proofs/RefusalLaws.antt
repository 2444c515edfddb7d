-- The laws of the refusal numbers: whatever is lent and whatever a record line says, a refusal is a number of the table but 17.
-- Assumes nothing.
use mathlib.Core.Path.{◌≡◌, refl}
use mathlib.Core.Logic.{⊎_elim}
use mathlib.Core.List.{List}
use Prim.Native.Nat.{ℕ}
use lib.Dec.{ltb, leb, eqb}
use lib.ListN.{length}
use Rattle.std.specs.Prelude.{Ok, Err}
use Rattle.refusal.specs.Answers.{OrRefused}
use Rattle.refusal.specs.declared.Refusal.{Refusal}
use Rattle.refusal.specs.declared.Refusal.TheVariants.{Malformed, Misframed, CountOut, UsedUp, CodeOut, ValueOut, PositionOut, Missing}
use Rattle.refusal.proofs.RefusalLaws.{EarlyRefusal, EarlyAnswer, early, checked_early}
use Rattle.frame.specs.declared.field.Cursor.{Cursor}
use Rattle.frame.specs.Hex.{unhex}
use Rattle.frame.specs.Line.{line_digits}
use Rattle.frame.proofs.Tests.{one_of}
use Rattle.frame.proofs.StepLaws.{by_line, by_field}
use Rattle.unit.specs.Kinds.{kind_record}
use Rattle.unit.specs.Pairs.{subsequences, table_length}
use Rattle.state.specs.State.{within}
use Rattle.unit.specs.Unit.{class_hm, class_u, most_segments, most_reference, unit_refusal}
use Rattle.unit.specs.declared.Unit.{Unit as UnitOf}
use Rattle.state.specs.declared.State.{State}
use Rattle.unit.proofs.RefusalLaws.{unit_early}
use Rattle.taking.specs.Steps.{Came, came, stopped, decode}
use Rattle.taking.proofs.Decoding.{Tells, tells_as, then_tells, decode_tells}
use Rattle.pairing.specs.Pairing.{link_of, pair_steps}
use Rattle.pairing.proofs.Cases.{Told}
use Rattle.pairing.specs.declared.Link.{Link}
use Rattle.pairing.proofs.Laws.{pair_tells}
use Rattle.segment.specs.declared.Segment.{Segment}
use Rattle.segment.specs.declared.Segment.TheVariants.{Absent}
use Rattle.segment.proofs.RefusalLaws.{placed_early, plain_early}
use Rattle.segment.specs.Segment.{placed_at, plain_at}
use Rattle.block.specs.Head.{head_at}
use Rattle.block.proofs.RefusalLaws.{head_early}
use Rattle.plan.specs.Lent.{counts_out, state_refusal, lent_refusal}
use Rattle.plan.specs.Plan.{plan, nothing_left_over, segment_steps, aligned_steps, plain_steps, first_segment, second_segment, from_second, from_first, from_pos, record_steps, reading_by, from_kind, plan_of}
use Rattle.plan.specs.declared.read.Plan.{Plan}

-- ---- what a record line says

module _ (u : UnitOf) (reference symbols frame : List ℕ) where
  finished_early : (p : Plan) (at : ℕ) → Tells EarlyRefusal (nothing_left_over frame p at)
  unfolding nothing_left_over
  finished_early p at = one_of (Tells EarlyRefusal) (ltb at (length frame)) _ _ (early Misframed tt) tt

  steps_early : (x : OrRefused (Segment × Cursor)) → EarlyAnswer x → Tells EarlyRefusal (segment_steps x)
  steps_early (Ok (p, next)) h = tt
  steps_early (Err n) h = h

  unaligned_early : (at : ℕ) → Tells EarlyRefusal (plain_steps u frame at)
  unaligned_early at = steps_early (plain_at u frame at) (plain_early u frame at)

  aligned_early : (position at : ℕ) → Tells EarlyRefusal (aligned_steps u reference symbols frame position at)
  unfolding aligned_steps
  aligned_early position at =
      then_tells EarlyRefusal (head_at u.class frame position at) (λ head. segment_steps (placed_at u reference symbols frame position head)) (head_early u.class frame position at)
      (λ head. steps_early (placed_at u reference symbols frame position head) (placed_early u reference symbols frame position head))

  first_early : (pos at : ℕ) → Tells EarlyRefusal (first_segment u reference symbols frame pos at)
  unfolding first_segment
  first_early pos at = one_of (Tells EarlyRefusal) (eqb u.class class_u) _ _ (unaligned_early at) (aligned_early pos at)

  second_early : (link : Link) (pos at : ℕ) → Tells EarlyRefusal (second_segment u reference symbols frame link pos at)
  unfolding second_segment
  second_early link pos at = one_of (Tells EarlyRefusal) (ltb u.class class_hm) _ _ (aligned_early _ at) (unaligned_early at)

  module _ (link : Link) where
    from_second_early : (pos : ℕ) (first : Segment) (at : ℕ) → Tells EarlyRefusal (from_second u reference symbols frame link pos first at)
    unfolding from_second
    from_second_early pos first at =
        one_of (Tells EarlyRefusal) (ltb link.segments most_segments) _ _ (finished_early (plan link pos first Absent) at)
        (then_tells EarlyRefusal (second_segment u reference symbols frame link pos at) _ (second_early link pos at) (λ s. finished_early (plan link pos first s.segment) s.next.at))

    from_first_early : (pos at : ℕ) → Tells EarlyRefusal (from_first u reference symbols frame link pos at)
    unfolding from_first
    from_first_early pos at = then_tells EarlyRefusal (first_segment u reference symbols frame pos at) _ (first_early pos at) (λ s. from_second_early pos s.segment s.next.at)

    pos_early : (at : ℕ) → Tells EarlyRefusal (from_pos u reference symbols frame link at)
    unfolding from_pos
    pos_early at =
        by_field (Tells EarlyRefusal) 4 frame at _ _ (early Misframed tt)
        (λ pos next. one_of (Tells EarlyRefusal) (eqb u.class class_u) _ _
        (one_of (Tells EarlyRefusal) (eqb pos 0) _ _ (from_first_early pos next.at) (early PositionOut tt))
        (from_first_early pos next.at))

  -- every refusal of its steps
  pub record_early : Tells EarlyRefusal (record_steps u reference symbols frame)
  unfolding record_steps
  record_early =
      by_field (Tells EarlyRefusal) 1 frame 0 _ _ (early Misframed tt)
      (λ kind c. one_of (Tells EarlyRefusal) (eqb kind kind_record) _ _
      (then_tells EarlyRefusal (pair_steps u) _ (tells_as Told EarlyRefusal (pair_steps u) told_early (pair_tells u)) (λ d. pos_early (link_of d) c.at))
      (early Misframed tt))
    where
      told_early : (n : Refusal) → Told n → EarlyRefusal n
      told_early n h = ⊎_elim (λ a. rw a (early UsedUp tt)) (⊎_elim (λ b. rw b (early CodeOut tt)) (λ c. rw c (early ValueOut tt))) h

pub plan_early : (u : UnitOf) (reference symbols counts : List ℕ) (state : State) (line : List ℕ) → EarlyAnswer (plan_of u reference symbols counts state line)
unfolding plan_of from_kind
plan_early u reference symbols counts state line = by_line (λ (x : OrRefused (Plan × State)). EarlyAnswer x) line_digits line _ _ (early Malformed tt) (by (decode symbols counts state (record_steps u reference symbols (unhex line))) refl)
  where
    by : (x : Came Plan) → decode symbols counts state (record_steps u reference symbols (unhex line)) ≡ x → EarlyAnswer (reading_by x)
    by (came p next) e = tt
    by (stopped n) e = decode_tells symbols counts EarlyRefusal (record_steps u reference symbols (unhex line)) state (record_early u reference symbols (unhex line)) n e

-- ---- what is lent

state_early : (u : UnitOf) (counts : List ℕ) (state : State) → EarlyAnswer (state_refusal u counts state)
unfolding state_refusal
state_early u counts state =
    one_of EarlyAnswer (leb u.records state.number) _ _ (early Missing tt) (one_of EarlyAnswer (within state counts) _ _ tt (early Missing tt))

pub lent_early : (u : UnitOf) (bases places : ℕ) (counts : List ℕ) (state : State) → EarlyAnswer (lent_refusal u bases places counts state)
unfolding lent_refusal
lent_early u bases places counts state =
    checked_early (unit_refusal u) _ (unit_early u)
    (one_of EarlyAnswer (ltb most_reference bases) _ _ (early Misframed tt)
    (one_of EarlyAnswer (eqb places table_length) _ _
    (one_of EarlyAnswer (eqb (length counts) subsequences) _ _
    (one_of EarlyAnswer (counts_out counts) _ _ (early CountOut tt) (state_early u counts state))
    (early CountOut tt)) (early CountOut tt)))
