-- The laws of the record call's tests: what is lent comes first, then the line; and what both leave for the writing.
-- Assumes nothing.
use mathlib.Core.Path.{◌≡◌, refl, sym, ◌∙◌}
use mathlib.Core.List.{List}
use Prim.Native.Nat.{ℕ, ◌^◌, ◌<◌}
use native.Mathlib.Omega.{arith}
use lib.ListN.{length}
use Rattle.std.specs.Prelude.{⊤, Ok, Err}
use Rattle.refusal.specs.Answers.{OrRefused, no_refusal}
use Rattle.refusal.specs.declared.Refusal.{Refusal}
use Rattle.frame.specs.Hex.{unhex}
use Rattle.frame.specs.Line.{line_of}
use Rattle.unit.specs.Unit.{most_records}
use Rattle.state.specs.Listed.{refused}
use Rattle.unit.specs.declared.Unit.{Unit}
use Rattle.state.specs.declared.State.{State}
use Rattle.plan.specs.Lent.{lent_refusal}
use Rattle.plan.specs.Plan.{plan_of, from_kind}
use Rattle.plan.specs.Code.Ready.{ReadyPlan}
use Rattle.plan.specs.declared.read.Plan.{Plan}
use Rattle.plan.proofs.PlanLaws.{plan_taken, plan_ready}
use Rattle.plan.proofs.StateLaws.{lent_taken}
use Rattle.record.specs.Record.{step_by, with_room, step_of, record_of}
use Rattle.record.specs.Code.Frame.{FrameOf, read_step}

-- ---- a line and its frame

module _ (u : Unit) (reference symbols counts : List ℕ) (state : State) where
  -- a well-formed line says what its frame says
  pub frame_reads : (line frame : List ℕ) → FrameOf line frame → from_kind u reference symbols counts state frame ≡ plan_of u reference symbols counts state line
  unfolding plan_of
  frame_reads line frame f = rw (f.bytes, f.well_formed)

  -- what was read of a frame, as a step
  pub read_step_lem : (frame : List ℕ) {r : OrRefused (Plan × State)} → r ≡ from_kind u reference symbols counts state frame → read_step u reference symbols counts state frame ≡ step_by u reference symbols frame state r
  unfolding read_step
  read_step_lem frame e = rw (← e)

-- ---- which test decides

module _ (u : Unit) (reference symbols counts : List ℕ) (state : State) {r : OrRefused ⊤} (e : r ≡ lent_refusal u (length reference) (length symbols) counts state) where
  -- what is lent is refused
  pub lent_refused : (line : List ℕ) (room : ℕ) (n : Refusal) → r ≡ Err n → record_of u reference symbols counts state line room ≡ refused n
  unfolding record_of step_of
  lent_refused line room n h = rw (← e, h) refl

  -- it is accepted: a line that is not well formed is refused as such
  pub call_malformed : (line : List ℕ) (room : ℕ) (n : Refusal) → r ≡ no_refusal → line_of line ≡ Err n → record_of u reference symbols counts state line room ≡ refused n
  unfolding record_of step_of plan_of
  call_malformed line room n h w = rw (← e, h, w) refl

  -- of another its frame and the room decide
  pub call_framed : (line : List ℕ) (room : ℕ) {size : ℕ} → r ≡ no_refusal → line_of line ≡ Ok size → record_of u reference symbols counts state line room ≡ with_room room (read_step u reference symbols counts state (unhex line))
  unfolding record_of step_of plan_of read_step
  call_framed line room h w = rw (← e, h, w) refl

  -- ---- what is left for the writing

  -- the next record's number does not wrap
  pub number_fits : r ≡ no_refusal → state.number < most_records
  number_fits h = let l = lent_taken u (length reference) (length symbols) counts state (sym e ∙ h) in omega (arith, l.in_count, l.unit.records)

  -- a frame that was accepted is ready to be written
  pub frame_ready : (line frame : List ℕ) {answer : OrRefused (Plan × State)} {p : Plan} {moved : State} → r ≡ no_refusal → u.end < 2 ^ 32 → FrameOf line frame → answer ≡ from_kind u reference symbols counts state frame → answer ≡ Ok (p, moved) → ReadyPlan u reference symbols frame p
  frame_ready line frame {answer} {p} {moved} h fits f q g =
      let l = lent_taken u (length reference) (length symbols) counts state (sym e ∙ h) in
      rw f.bytes
      (plan_ready u reference symbols counts state line p moved l.unit fits
      (plan_taken u reference symbols counts state line p moved (sym (q ∙ frame_reads u reference symbols counts state line frame f) ∙ g)))
