-- The laws of the record call as C makes it: each way that it ends, and that an accepted call was lent nine numbers of state.
-- Assumes nothing.
use mathlib.Core.Path.{◌≡◌, refl, sym, ap, ◌∙◌}
use mathlib.Core.List.{List, [], ◌∷◌}
use Prim.Native.Nat.{ℕ, ◌+◌, ◌*◌, ◌^◌, ◌<◌}
use native.Mathlib.Omega.{arith}
use lib.Dec.{eqb, ltb}
use lib.IntN.{ℤ, pos}
use lib.ListN.{length}
use borrow.Author.Tests.{ltb-true, eqb-true, eq-eqb}
use Rattle.std.specs.Prelude.{⊤, Ok, Err}
use Rattle.refusal.specs.declared.Refusal.{Refusal}
use Rattle.refusal.specs.Numbers.{number_of}
use Rattle.refusal.specs.Answers.{OrRefused, no_refusal}
use Rattle.refusal.proofs.AnswerLaws.{never_accepted}
use Rattle.frame.proofs.HexLaws.{by_test}
use Rattle.unit.specs.Unit.{most_records}
use Rattle.state.specs.Listed.{Step, refused, accepted}
use Rattle.unit.specs.declared.Unit.{Unit}
use Rattle.state.specs.declared.State.{State}
use Rattle.plan.specs.Lent.{lent_refusal}
use Rattle.record.specs.Record.{with_room, step_of, record_of, recorded, output}
use Rattle.record.specs.declared.Recorded.{Recorded}
use Rattle.record.proofs.CallLaws.{lent_refused, number_fits}
use Rattle.lampbuckle.specs.Answer.{minus, outcome}
use Rattle.lampbuckle.specs.Numbers.{unit_length, unit_of}
use Rattle.state.specs.Numbers.{state_length, state_of, state_numbers}
use Rattle.lampbuckle.specs.Call.{record_answered, record_call}

-- ---- a step, by the code's answer

differs : {n : Refusal} {frame : List ℕ} {next : State} → refused n ≡ accepted frame next → ⊥
differs e = let z : ◌≡◌ {A = ℕ} 0 1 = cc in omega arith

-- an accepted step, of so many bytes
record Is (n : ℕ) (x : Step) : Type 0 where
  frame : List ℕ
  next : State
  step : x ≡ accepted frame next
  long : n ≡ 2 * length frame + 1

module _ (given : State) {r : Recorded} where
  step_refused : (x : Step) (state out : List ℕ) {after : List ℕ} {n : Refusal} {a : ℤ} → r ≡ recorded given x → after ≡ output out x → r.answer ≡ Err n → a ≡ minus (number_of n)
      → outcome a (state ∷ after ∷ []) ≡ record_answered x state out
  step_refused (refused m) state out {after} {n} e o h s =
      let f : ◌≡◌ {A = OrRefused ℕ} (Err m) (Err n) = sym (ap (λ (q : Recorded). q.answer) e) ∙ h in
      let g : m ≡ n = cc in
      rw (s, o, g)
  step_refused (accepted frame next) state out e o h s = never_accepted (sym (ap (λ (q : Recorded). q.answer) e) ∙ h)

  step_listed : (x : Step) (state out : List ℕ) {after lent : List ℕ} {n : ℕ} {a : ℤ} → r ≡ recorded given x → after ≡ output out x → r.answer ≡ Ok n → lent ≡ state_numbers r.state → a ≡ pos n
      → outcome a (lent ∷ after ∷ []) ≡ record_answered x state out
  step_listed (refused m) state out e o h l s = never_accepted (sym h ∙ ap (λ (q : Recorded). q.answer) e)
  step_listed (accepted frame next) state out {after} {lent} {n} e o h l s =
      let f : ◌≡◌ {A = OrRefused ℕ} (Ok (2 * length frame + 1)) (Ok n) = sym (ap (λ (q : Recorded). q.answer) e) ∙ h in
      let g : 2 * length frame + 1 ≡ n = cc in
      let k : lent ≡ state_numbers next = l ∙ ap (λ (q : Recorded). state_numbers q.state) e in
      rw (s, o, ← g, k)

  listed_is : (x : Step) {n : ℕ} → r ≡ recorded given x → r.answer ≡ Ok n → Is n x
  listed_is (refused m) e h = never_accepted (sym h ∙ ap (λ (q : Recorded). q.answer) e)
  listed_is (accepted frame next) {n} e h =
      let f : ◌≡◌ {A = OrRefused ℕ} (Ok (2 * length frame + 1)) (Ok n) = sym (ap (λ (q : Recorded). q.answer) e) ∙ h in
      record { frame = frame; next = next; step = refl; long = cc }

-- ---- what an accepted call says of what is lent

-- the line has room
room_taken : (x : Step) (room : ℕ) (frame : List ℕ) (next : State) → with_room room x ≡ accepted frame next → 2 * length frame < room
room_taken (refused n) room frame next e = absurd (differs e)
room_taken (accepted g s) room frame next e =
    by_test (ltb (2 * length g) room)
    (λ t. let f : accepted g s ≡ accepted frame next = simp t at e in
    let q : g ≡ frame = cc in
    rw (← q) (ltb-true (2 * length g) room t))
    (λ t. absurd (differs (simp t at e)))

module _ (u : Unit) (reference symbols counts state line : List ℕ) (room : ℕ) {frame : List ℕ} {next : State}
    (e : record_of u reference symbols counts (state_of state) line room ≡ accepted frame next) where
  -- what is lent is accepted
  lent_fine : lent_refusal u (length reference) (length symbols) counts (state_of state) ≡ no_refusal
  lent_fine = by (lent_refusal u (length reference) (length symbols) counts (state_of state)) refl
    where
      by : (r : OrRefused ⊤) → lent_refusal u (length reference) (length symbols) counts (state_of state) ≡ r → lent_refusal u (length reference) (length symbols) counts (state_of state) ≡ no_refusal
      by (Ok t) q = q
      by (Err n) q = absurd (differs (sym (lent_refused u reference symbols counts (state_of state) refl line room n q) ∙ e))

  -- so the state is nine numbers: others are a state that no unit has
  state_nine : length state ≡ state_length
  unfolding state_of
  state_nine =
      let h : (state_of state).number < most_records = number_fits u reference symbols counts (state_of state) refl lent_fine in
      by_test (eqb (length state) state_length)
      (λ t. eqb-true _ _ t)
      (λ t. let s : (state_of state).number ≡ most_records = rw t in absurd (omega (arith, h, s)))

-- ---- the call

module _ (unit reference symbols counts state line out : List ℕ) where
  module _ {u : Unit} {given : State} (is-unit : u ≡ unit_of unit) (is_state : given ≡ state_of state) {r : Recorded} {after : List ℕ}
      (is : (r ≡ recorded given (record_of u reference symbols counts given line (length out))) × (after ≡ output out (record_of u reference symbols counts given line (length out)))) where
    pub record_refused : {n : Refusal} {a : ℤ} → length unit ≡ unit_length → r.answer ≡ Err n → a ≡ minus (number_of n) → outcome a (state ∷ after ∷ []) ≡ record_call unit reference symbols counts state line out
    unfolding record_call
    record_refused shape h e = rw (eq-eqb _ _ shape, ← is-unit, ← is_state) (step_refused given (record_of u reference symbols counts given line (length out)) state out is.0 is.1 h e)

    pub record_listed : {n : ℕ} {a : ℤ} {lent : List ℕ} → length unit ≡ unit_length → r.answer ≡ Ok n → lent ≡ state_numbers r.state → a ≡ pos n
        → outcome a (lent ∷ after ∷ []) ≡ record_call unit reference symbols counts state line out
    unfolding record_call
    record_listed shape h l e = rw (eq-eqb _ _ shape, ← is-unit, ← is_state) (step_listed given (record_of u reference symbols counts given line (length out)) state out is.0 is.1 h l e)

    -- a line has fewer bytes than are lent
    pub record_counted : {n : ℕ} → r.answer ≡ Ok n → length out < 2 ^ 63 → n < 2 ^ 63
    unfolding record_of
    record_counted h k =
        let w = listed_is given (record_of u reference symbols counts given line (length out)) is.0 h in
        omega (arith, w.long, room_taken (step_of u reference symbols counts given line) (length out) w.frame w.next w.step)

    pub record_nine : {n : ℕ} → r.answer ≡ Ok n → length state ≡ state_length
    record_nine h =
        let w = listed_is given (record_of u reference symbols counts given line (length out)) is.0 h in
        state_nine u reference symbols counts state line (length out) {frame = w.frame} {next = w.next} (rw (← is_state) w.step)
