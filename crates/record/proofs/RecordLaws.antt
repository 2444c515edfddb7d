-- The laws of the record call: its refusals are numbers of the table but 17, and what an accepted line says of the 04 line and the next state.
-- Assumes nothing.
use mathlib.Core.Path.{◌≡◌, refl, sym, ap, ◌∙◌}
use mathlib.Core.Logic.{⊎_elim}
use mathlib.Core.List.{List, ◌++◌}
use Prim.Native.Nat.{ℕ, ◌+◌, ◌-◌, ◌*◌, ◌^◌, ◌<◌, ◌≤◌}
use native.Mathlib.Omega.{arith}
use borrow.Author.Tests.{lt-ltb}
use lib.ListN.{length, take, get_or}
use lib.Seq.{length-take-le}
use Rattle.std.specs.Prelude.{⊤, Ok, Err}
use Rattle.refusal.specs.Answers.{OrRefused}
use Rattle.refusal.specs.declared.Refusal.{Refusal}
use Rattle.refusal.specs.declared.Refusal.TheVariants.{Malformed}
use Rattle.refusal.proofs.RefusalLaws.{EarlyRefusal, EarlyAnswer}
use Rattle.refusal.proofs.AnswerLaws.{never_refused, ok_pair}
use Rattle.limits.specs.Limits.{record_fields}
use Rattle.frame.specs.Hex.{Bytes, unhex}
use Rattle.frame.specs.Line.{line_digits, line_end, line_of}
use Rattle.frame.specs.Field.{big_at}
use Rattle.frame.proofs.LineLaws.{line_too_long, line_unended}
use Rattle.state.specs.Listed.{most_listed, least_listed, listed_head, Step, refused, accepted}
use Rattle.unit.specs.declared.Unit.{Unit as UnitOf}
use Rattle.state.specs.declared.State.{State}
use Rattle.pairing.specs.Table60.{mapping_pos}
use Rattle.taking.proofs.Decoding.{decode_follows, follows_within}
use Rattle.segment.specs.declared.Placed.{Placed}
use Rattle.segment.specs.declared.Segment.TheVariants.{Aligned}
use Rattle.segment.proofs.StandardLaws.{SegmentAccepted}
use Rattle.plan.specs.Lent.{lent_refusal}
use Rattle.plan.specs.Plan.{record_steps, plan_of}
use Rattle.plan.specs.Said.{PlanTaken, AlignedIn}
use Rattle.plan.specs.declared.read.Plan.{Plan}
use Rattle.plan.proofs.PlanLaws.{plan_taken, plan_ready, first_aligned, second_aligned}
use Rattle.plan.proofs.RefusalLaws.{lent_early, plan_early}
use Rattle.plan.proofs.StateLaws.{LentTaken, lent_taken}
use Rattle.record.specs.Record.{listed_bytes, step_by, after_lent, step_of, with_room, record_of}
use Rattle.state.specs.State.{after, Shaped}
use Rattle.record.proofs.BytesLaws.{tail_bytes, listed_head_lem, bytes_listed, length_listed}

-- ---- a refusal

abbrev EarlyStep : Step → Type 0
EarlyStep (refused n) = EarlyRefusal n
EarlyStep (accepted frame next) = Unit

module _ (u : UnitOf) (reference symbols counts : List ℕ) (state : State) (line : List ℕ) where
  step_early : EarlyStep (step_of u reference symbols counts state line)
  unfolding step_of
  step_early =
      lent (lent_refusal u (length reference) (length symbols) counts state) (lent_early u (length reference) (length symbols) counts state) _
      (by (plan_of u reference symbols counts state line) (plan_early u reference symbols counts state line))
    where
      by : (x : OrRefused (Plan × State)) → EarlyAnswer x → EarlyStep (step_by u reference symbols (unhex line) state x)
      by (Ok (p, moved)) h = tt
      by (Err n) h = h

      lent : (x : OrRefused ⊤) → EarlyAnswer x → (go_on : Step) → EarlyStep go_on → EarlyStep (after_lent x go_on)
      lent (Ok t) h go_on k = k
      lent (Err n) h go_on k = h

  -- every refusal is one of the table but 17
  pub step_refusal : (n : Refusal) → step_of u reference symbols counts state line ≡ refused n → EarlyRefusal n
  step_refusal n e = rw e at step_early

-- ---- an accepted line

-- what was lent, what the line said, and that the call answers with its 04 line and the next record's state
pub record StepTaken (u : UnitOf) (reference symbols counts : List ℕ) (state : State) (line frame : List ℕ) (next : State) : Type 0 where
  pub lent : LentTaken u (length reference) (length symbols) counts state
  pub plan : Plan
  pub moved : State
  pub said : plan_of u reference symbols counts state line ≡ Ok (plan, moved)
  pub taken : PlanTaken u reference symbols counts state line plan moved
  pub frame_is : frame ≡ listed_bytes u reference symbols (unhex line) state.number (after state moved) plan
  pub next_is : next ≡ after state moved

-- the facts that a listing asks of it
pub record Listed (u : UnitOf) (counts : List ℕ) (state : State) (line frame : List ℕ) (next : State) : Type 0 where
  pub size : ℕ
  pub well_formed : line_of line ≡ Ok size
  pub tail : List ℕ
  pub head : frame ≡ listed_head state.number next ++ tail
  pub bytes : Bytes frame
  pub least : least_listed ≤ length frame
  pub most : 2 * length frame ≤ most_listed
  pub in_count : state.number < u.records
  pub number : next.number ≡ state.number + 1
  pub indexes : Shaped next
  pub in_counts : (i : ℕ) → get_or next.index i 0 ≤ get_or counts i 0

module _ (u : UnitOf) (reference symbols counts : List ℕ) (state : State) (line frame : List ℕ) (next : State) where
  pub step_taken : step_of u reference symbols counts state line ≡ accepted frame next → StepTaken u reference symbols counts state line frame next
  unfolding step_of
  step_taken q = lent (lent_refusal u (length reference) (length symbols) counts state) refl q
    where
      by : LentTaken u (length reference) (length symbols) counts state → (x : OrRefused (Plan × State)) → plan_of u reference symbols counts state line ≡ x
          → step_by u reference symbols (unhex line) state x ≡ accepted frame next → StepTaken u reference symbols counts state line frame next
      by l (Err n) e z = absurd (let y : ◌≡◌ {A = ℕ} 0 1 = cc in omega arith)
      by l (Ok (p, moved)) e z =
          record {
            lent = l;
            plan = p;
            moved = moved;
            said = e;
            taken = plan_taken u reference symbols counts state line p moved e;
            frame_is = cc;
            next_is = cc;
          }

      lent : (x : OrRefused ⊤) → lent_refusal u (length reference) (length symbols) counts state ≡ x
          → after_lent x (step_by u reference symbols (unhex line) state (plan_of u reference symbols counts state line)) ≡ accepted frame next → StepTaken u reference symbols counts state line frame next
      lent (Err n) e z = absurd (let y : ◌≡◌ {A = ℕ} 0 1 = cc in omega arith)
      lent (Ok t) e z = by (lent_taken u (length reference) (length symbols) counts state e) (plan_of u reference symbols counts state line) refl z

  listed : (p : Plan) (moved : State) → LentTaken u (length reference) (length symbols) counts state → PlanTaken u reference symbols counts state line p moved
      → frame ≡ listed_bytes u reference symbols (unhex line) state.number (after state moved) p → next ≡ after state moved → u.end < 2 ^ 32 → Shaped state → Listed u counts state line frame next
  listed p moved lent taken f n fits shaped =
      let follows = decode_follows symbols counts (record_steps u reference symbols (unhex line)) state p moved taken.steps in
      let shaped-after : Shaped moved = follows.long ∙ shaped in
      let ready = plan_ready u reference symbols counts state line p moved lent.unit fits taken in
      let long = length_listed u reference symbols (unhex line) state.number (after state moved) p shaped-after ready in
      rw (f, n)
      record {
        size = taken.size;
        well_formed = taken.well_formed;
        tail = tail_bytes u reference symbols (unhex line) p;
        head = listed_head_lem u reference symbols (unhex line) state.number (after state moved) p;
        bytes = bytes_listed u reference symbols (unhex line) state.number (after state moved) p ready;
        least = omega (arith, long);
        most = omega (arith, long, ready.first_most, ready.second_most);
        in_count = lent.in_count;
        number = refl;
        indexes = shaped-after;
        in_counts = follows_within follows lent.within;
      }

  pub step_accepted : step_of u reference symbols counts state line ≡ accepted frame next → u.end < 2 ^ 32 → Shaped state → Listed u counts state line frame next
  step_accepted q fits shaped = let s = step_taken q in listed s.plan s.moved s.lent s.taken s.frame_is s.next_is fits shaped

  -- the next state has as many indexes
  pub step_shaped : step_of u reference symbols counts state line ≡ accepted frame next → Shaped state → Shaped next
  step_shaped q shaped =
      let s = step_taken q in
      rw s.next_is ((decode_follows symbols counts (record_steps u reference symbols (unhex line)) state s.plan s.moved s.taken.steps).long ∙ shaped)

-- ---- what the line said is listed, and its aligned segments are accepted ones

module _ (u : UnitOf) (reference symbols counts : List ℕ) (state : State) (line frame : List ℕ) (next : State) (call : step_of u reference symbols counts state line ≡ accepted frame next)
    (p : Plan) (moved : State) (said : plan_of u reference symbols counts state line ≡ Ok (p, moved)) where
  taken : StepTaken u reference symbols counts state line frame next
  taken = step_taken u reference symbols counts state line frame next call

  plan_is : taken.plan ≡ p
  plan_is = (ok_pair (sym taken.said ∙ said)).0

  pub said_listed : frame ≡ listed_bytes u reference symbols (unhex line) state.number next p
  said_listed =
      taken.frame_is
      ∙ ap (λ (x : State). listed_bytes u reference symbols (unhex line) state.number x taken.plan) (sym taken.next_is)
      ∙ ap (listed_bytes u reference symbols (unhex line) state.number next) plan_is

  pub said_taken : PlanTaken u reference symbols counts state line p moved
  said_taken = plan_taken u reference symbols counts state line p moved said

  module _ (q : Placed) where
    pub said_first : p.first ≡ Aligned q → SegmentAccepted u reference symbols (unhex line) q × (q.position ≡ big_at 4 (unhex line) 1)
    said_first e =
        let a = first_aligned u reference symbols counts (unhex line) record_fields _ p _ said_taken.blocks taken.lent.unit q e in
        (a.0, a.1 ∙ said_taken.pos_is)

    pub said_second : p.second ≡ Aligned q → SegmentAccepted u reference symbols (unhex line) q × (q.position ≡ mapping_pos (big_at 4 (unhex line) 1) p.link.mate)
    said_second e =
        let a = second_aligned u reference symbols counts (unhex line) record_fields _ p _ said_taken.blocks taken.lent.unit q e in
        (a.0, a.1 ∙ ap (λ (pos : ℕ). mapping_pos pos p.link.mate) said_taken.pos_is)

    pub said_aligned : AlignedIn p q → SegmentAccepted u reference symbols (unhex line) q
    said_aligned i = ⊎_elim (λ e. (said_first e).0) (λ e. (said_second e).0) i

-- ---- room for the longest line

-- it is enough for every line: 17 is not answered
pub record_roomy : (u : UnitOf) (reference symbols counts : List ℕ) (state : State) (line : List ℕ) (room : ℕ) → u.end < 2 ^ 32 → Shaped state → most_listed < room
    → record_of u reference symbols counts state line room ≡ step_of u reference symbols counts state line
unfolding record_of
record_roomy u reference symbols counts state line room fits shaped h = by (step_of u reference symbols counts state line) refl
  where
    by : (x : Step) → step_of u reference symbols counts state line ≡ x → with_room room x ≡ x
    by (refused n) e = refl
    by (accepted frame next) e =
        let most = (step_accepted u reference symbols counts state line frame next e fits shaped).most in
        rw (lt-ltb (2 * length frame) room (omega (arith, most)))

-- ---- lines that are not well formed

module _ (u : UnitOf) (reference symbols counts : List ℕ) (state : State) where
  -- of a line that is not well formed nothing more is looked at
  pub malformed_same : (line other : List ℕ) → line_of line ≡ Err Malformed → line_of other ≡ Err Malformed → step_of u reference symbols counts state line ≡ step_of u reference symbols counts state other
  unfolding step_of plan_of
  malformed_same line other e f = simp (e, f)

  -- a line past the limit answers as its first bytes do, one more than the limit and the 0A
  pub long_line : (line : List ℕ) → line_digits + 1 < length line → step_of u reference symbols counts state line ≡ step_of u reference symbols counts state (take (line_digits + 2) line)
  long_line line h =
      let cut : length (take (line_digits + 2) line) ≡ line_digits + 2 = length-take-le (line_digits + 2) line (omega arith) in
      malformed_same line (take (line_digits + 2) line) (line_too_long line_digits line h) (line_too_long line_digits _ (omega (arith, cut)))

  -- a line without its 0A, as an empty one, is never accepted
  pub no_end : (line frame : List ℕ) (next : State) → (get_or line (length line - 1) 0 ≡ line_end → ⊥) → step_of u reference symbols counts state line ≡ accepted frame next → ⊥
  no_end line frame next h q =
      let t = (step_taken u reference symbols counts state line frame next q).taken in
      never_refused (sym (line_unended line_digits line h) ∙ t.well_formed)
