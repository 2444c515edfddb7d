-- The laws of a turn's code: what was written at the front is what the turn prints, and the record call has room.
-- Assumes nothing.
use Prim.Native.Nat.{ℕ, ◌+◌, ◌*◌, ◌^◌, ◌<◌, ◌≤◌}
use native.Mathlib.Omega.{arith}
use mathlib.Core.Path.{◌≡◌, ap, ◌∙◌}
use mathlib.Core.Bool.{Bool, true, false}
use mathlib.Core.List.{List, []}
use mathlib.Core.Option.{Option, none, some}
use lib.ListN.{length}
use borrow.Author.Tests.{lt-ltb, le-ltb, eq-eqb, ne_eqb}
use Rattle.std.specs.Prelude.{Ok, Err}
use Rattle.refusal.specs.Answers.{OrRefused}
use Rattle.refusal.specs.declared.Refusal.{Refusal}
use Rattle.refusal.specs.Numbers.{number_of, missing}
use Rattle.frame.specs.Hex.{be}
use Rattle.writing.specs.Whole.{wrote_of, line_into}
use Rattle.frame.proofs.LineLaws.{line_of_bytes, length_line}
use Rattle.state.specs.Listed.{most_listed, Step, refused, accepted}
use Rattle.unit.specs.declared.Unit.{Unit}
use Rattle.state.specs.declared.State.{State}
use Rattle.record.specs.Record.{step_of, record_of, recorded, output}
use Rattle.record.specs.declared.Recorded.{Recorded}
use Rattle.record.proofs.RecordLaws.{record_roomy}
use Rattle.listing.specs.Listing.{frame05, line05, frame06, line06, last_line}
use Rattle.listing.specs.Turn.{Turn, stop, step_turn, record_turn, last_turn, turn}
use Rattle.writing.proofs.WholeLaws.{front_line}
use Rattle.decoder.specs.Turned.{lent_line, turn_of, turned, printed_into, stopped_by, turned_of, output_of}
use Rattle.decoder.specs.Decoder.{setup_of}
use Rattle.decoder.specs.declared.Turned.{Turned}
use Rattle.decoder.specs.declared.Added.TheVariants.{Go, NoRoom}
use Rattle.state.specs.State.{Shaped, all_taken}

-- what a caller sees of a turn: the answer r, and e in what was lent
abbrev pub Seen : State → List ℕ → Turn → Turned → List ℕ → Type 0
Seen state out t r e = (r ≡ turned state t) × (e ≡ printed_into out t)

-- ---- a line at the front of what is lent

-- a last line: what the writer answered and wrote is what a stop prints
stop_told : (out bs : List ℕ) (state : State) → 2 * length bs < length out → {w : OrRefused ℕ} {r : Turned} {e : List ℕ} → (w ≡ wrote_of out bs) × (e ≡ line_into out bs) → r ≡ stopped_by w state
    → Seen state out (stop (line_of_bytes bs)) r e
unfolding wrote_of line_into
stop_told out bs state room f q =
    let t = lt-ltb (2 * length bs) (length out) room in
    (q ∙ simp (f.0, t, length_line bs), f.1 ∙ rw t (front_line out bs))

-- the longest line has room, so the last lines have
pub refuse_told : (out : List ℕ) (number refusal : ℕ) (state : State) → most_listed < length out → {w : OrRefused ℕ} {r : Turned} {e : List ℕ}
    → (w ≡ wrote_of out (frame05 number refusal)) × (e ≡ line_into out (frame05 number refusal)) → r ≡ stopped_by w state
    → Seen state out (stop (line05 number refusal)) r e
unfolding line05 be
refuse_told out number refusal state room = stop_told out (frame05 number refusal) state (omega arith)

pub finish_told : (out : List ℕ) (count : ℕ) (state : State) → most_listed < length out → {w : OrRefused ℕ} {r : Turned} {e : List ℕ}
    → (w ≡ wrote_of out (frame06 count)) × (e ≡ line_into out (frame06 count)) → r ≡ stopped_by w state
    → Seen state out (stop (line06 count)) r e
unfolding line06 be
finish_told out count state room = stop_told out (frame06 count) state (omega arith)

-- ---- the record call

-- an accepted record: its line is printed, and the listing goes on
listed_step : (state : State) (out : List ℕ) (n : ℕ) (t : Step) (r : Recorded) (e : List ℕ) → r ≡ recorded state t → e ≡ output out t → r.answer ≡ Ok n
    → Seen state out (step_turn state.number t) (record { added = Go n; state = r.state }) e
listed_step state out n (refused k) r e q f a = absurd (let z : ◌≡◌ {A = ℕ} 0 1 = cc in omega arith)
listed_step state out n (accepted frame next) r e q f a =
    let m : n ≡ 2 * length frame + 1 = cc in
    (rw (q, m, length_line frame), f ∙ front_line out frame)

-- a refused one: the output is as it was, so the 05 line stands at its front
refused_step : (state : State) (out : List ℕ) (k : Refusal) (t : Step) (r : Recorded) (e : List ℕ) → r ≡ recorded state t → e ≡ output out t → r.answer ≡ Err k → {x : Turned} {g : List ℕ}
    → Seen state e (stop (line05 state.number (number_of k))) x g → Seen state out (step_turn state.number t) x g
refused_step state out k (accepted frame next) r e q f a p = absurd (let z : ◌≡◌ {A = ℕ} 0 1 = cc in omega arith)
refused_step state out k (refused m) r e q f a p = let z : k ≡ m = cc in rw (← z, ← f) p

-- ---- a record is wanted

module _ (u : Unit) (reference symbols counts : List ℕ) (state : State) (line out : List ℕ) where
  -- the record call as the code makes it
  abbrev called : Step
  called = record_of u reference symbols counts state line (length out)

  abbrev wanted : Turn
  wanted = record_turn (setup_of u reference symbols counts [] []) state (lent_line line)

  pub record_missing : {r : Turned} {e : List ℕ} → length line ≡ 0 → Seen state out (stop (line05 state.number missing)) r e → Seen state out wanted r e
  unfolding lent_line
  record_missing h s = rw (eq-eqb (length line) 0 h) s

  module _ (some-line : length line ≡ 0 → ⊥) (fits : u.end < 2 ^ 32) (shaped : Shaped state) (room : most_listed < length out)
      {r : Recorded} {e : List ℕ} (was : (r ≡ recorded state called) × (e ≡ output out called)) where
    pub turn_listed : (n : ℕ) → r.answer ≡ Ok n → Seen state out wanted (record { added = Go n; state = r.state }) e
    unfolding lent_line
    turn_listed n a =
        let w = record_roomy u reference symbols counts state line (length out) fits shaped room in
        rw (ne_eqb (length line) 0 some-line)
        (listed_step state out n (step_of u reference symbols counts state line) r e (was.0 ∙ ap (recorded state) w) (was.1 ∙ ap (output out) w) a)

    pub turn_refused : (k : Refusal) → r.answer ≡ Err k → {x : Turned} {g : List ℕ} → Seen state e (stop (line05 state.number (number_of k))) x g → Seen state out wanted x g
    unfolding lent_line
    turn_refused k a s =
        let w = record_roomy u reference symbols counts state line (length out) fits shaped room in
        rw (ne_eqb (length line) 0 some-line)
        (refused_step state out k (step_of u reference symbols counts state line) r e (was.0 ∙ ap (recorded state) w) (was.1 ∙ ap (output out) w) a s)

-- ---- none is wanted

module _ (u : Unit) (counts : List ℕ) (state : State) (line out : List ℕ) where
  abbrev last : Turn
  last = last_turn (setup_of u [] [] counts [] []) state (lent_line line)

  -- a line behind the last record's
  pub last_behind : {r : Turned} {e : List ℕ} → (length line ≡ 0 → ⊥) → Seen state out (stop (line05 u.records missing)) r e → Seen state out last r e
  unfolding lent_line last_line
  last_behind h s = rw (ne_eqb (length line) 0 h) s

  -- the end of the file, by whether every symbol is taken
  module _ (b : Bool) (is : b ≡ all_taken state counts) (h : length line ≡ 0) {r : Turned} {e : List ℕ} where
    pub last_done : b ≡ true → Seen state out (stop (line06 u.records)) r e → Seen state out last r e
    unfolding lent_line last_line
    last_done t s = rw (eq-eqb (length line) 0 h, ← is, t) s

    pub last_left : b ≡ false → Seen state out (stop (line05 u.records missing)) r e → Seen state out last r e
    unfolding lent_line last_line
    last_left t s = rw (eq-eqb (length line) 0 h, ← is, t) s

-- ---- the turn

module _ (u : Unit) (reference symbols counts : List ℕ) (state : State) (line out : List ℕ) where
  abbrev whole : Turn
  whole = turn_of u reference symbols counts state line

  -- less is lent than the longest line needs
  pub turn_short : length out ≤ most_listed → (record { added = NoRoom; state = state } ≡ turned_of out state whole) × (out ≡ output_of out whole)
  unfolding turned_of output_of
  turn_short h = let t = le-ltb most_listed (length out) h in (simp t, simp t)

  module _ (room : most_listed < length out) {r : Turned} {e : List ℕ} where
    seen_whole : Seen state out whole r e → (r ≡ turned_of out state whole) × (e ≡ output_of out whole)
    unfolding turned_of output_of
    seen_whole s = let t = lt-ltb most_listed (length out) room in (rw t s.0, rw t s.1)

    pub turn_record : state.number < u.records → Seen state out (record_turn (setup_of u reference symbols counts [] []) state (lent_line line)) r e
        → (r ≡ turned_of out state whole) × (e ≡ output_of out whole)
    unfolding turn_of turn
    turn_record h s = seen_whole (rw (lt-ltb state.number u.records h) s)

    pub turn_last : u.records ≤ state.number → Seen state out (last_turn (setup_of u [] [] counts [] []) state (lent_line line)) r e
        → (r ≡ turned_of out state whole) × (e ≡ output_of out whole)
    unfolding turn_of turn last_line
    turn_last h s = seen_whole (rw (le-ltb state.number u.records h) (by (lent_line line) s))
      where
        -- the last line is by the record count and the symbol counts alone
        by : (l : Option (List ℕ)) → Seen state out (last_turn (setup_of u [] [] counts [] []) state l) r e → Seen state out (last_turn (setup_of u reference symbols counts [] []) state l) r e
        by none q = q
        by (some x) q = q
