-- The record call (document 01, The listing and Order): its 04 line and the next state, or a refusal.
-- Assumes nothing.
use Rattle.std.specs.Prelude.{ℕ, suc, ◌+◌, ◌*◌, List, ◌∷◌, ◌++◌, ltb, length, drop, ⊤, Ok, Err}
use Rattle.refusal.specs.Answers.{OrRefused}
use Rattle.refusal.specs.declared.Refusal.{Refusal}
use Rattle.refusal.specs.declared.Refusal.TheVariants.{NoRoom}
use Rattle.frame.specs.Hex.{hex_of, unhex, be}
use Rattle.frame.specs.Line.{line_end}
use Rattle.frame.specs.Steps.{unless}
use Rattle.state.specs.State.{after}
use Rattle.state.specs.Listed.{listed_head, Step, refused, accepted}
use Rattle.unit.specs.declared.Unit.{Unit}
use Rattle.state.specs.declared.State.{State}
use Rattle.pairing.specs.Table60.{mate_seq_id, mapping_pos}
use Rattle.pairing.specs.declared.Link.{Link}
use Rattle.segment.specs.Segment.{segment_bytes}
use Rattle.plan.specs.Lent.{lent_refusal}
use Rattle.plan.specs.Plan.{plan_of}
use Rattle.plan.specs.declared.read.Plan.{Plan}
use Rattle.record.specs.declared.Recorded.{Recorded}

-- ---- the 04 line

-- read1First, splitMate, segments in this record (a byte each), mate sequence id u16, mate position u32
unfoldable pub link_bytes : (sequence pos : ℕ) → Link → List ℕ
link_bytes sequence pos link =
    be 1 link.first ++ be 1 link.split ++ be 1 link.segments ++ be 2 (mate_seq_id sequence link.mate) ++ be 4 (mapping_pos pos link.mate)

-- kind, record number and the indexes after this record; the link; then each segment
unfoldable pub listed_bytes : Unit → (reference symbols frame : List ℕ) (number : ℕ) (next : State) → Plan → List ℕ
listed_bytes u reference symbols frame number next p =
    listed_head number next
    ++ link_bytes u.sequence p.pos p.link
    ++ segment_bytes u reference symbols frame p.first
    ++ segment_bytes u reference symbols frame p.second

-- ---- the call

-- by what the line says: its refusal, or the 04 line and the next state
abbrev pub step_by : Unit → (reference symbols frame : List ℕ) (state : State) → OrRefused (Plan × State) → Step
step_by u reference symbols frame state (Err n) = refused n
step_by u reference symbols frame state (Ok (p, moved)) = accepted (listed_bytes u reference symbols frame state.number (after state moved) p) (after state moved)

-- what follows where nothing that is lent is refused
abbrev pub after_lent : OrRefused ⊤ → Step → Step
after_lent (Err n) go_on = refused n
after_lent (Ok t) go_on = go_on

-- what is lent (3, 2, 4, 14), then what the line says (1 to 13): all but the room
unfoldable pub step_of : Unit → (reference symbols counts : List ℕ) → State → (line : List ℕ) → Step
step_of u reference symbols counts state line =
    after_lent (lent_refusal u (length reference) (length symbols) counts state)
    (step_by u reference symbols (unhex line) state (plan_of u reference symbols counts state line))

-- last 17: the line with its 0A wants one byte more than its digits
abbrev pub with_room : (room : ℕ) → Step → Step
with_room room (refused n) = refused n
with_room room (accepted frame next) = unless (ltb (2 * length frame) room) (refused NoRoom) (accepted frame next)

-- THE RECORD CALL: unit, reference, symbols and their counts, state, line with its 0A, and how much output is lent
unfoldable pub record_of : Unit → (reference symbols counts : List ℕ) → State → (line : List ℕ) (room : ℕ) → Step
record_of u reference symbols counts state line room = with_room room (step_of u reference symbols counts state line)

-- ---- what the caller sees

-- the refusal and "the state it was given"
abbrev pub refused_call : Refusal → State → Recorded
refused_call n state = record { answer = Err n; state = state }

-- how many bytes were written, and the next state
abbrev pub listed_by : (bytes : ℕ) (next : State) → Recorded
listed_by bytes next = record { answer = Ok bytes; state = next }

-- the answer and the state, by the step: the 0A is one of the bytes
abbrev pub recorded : State → Step → Recorded
recorded state (refused n) = refused_call n state
recorded state (accepted frame next) = listed_by (2 * length frame + 1) next

-- "An accepted call writes its line at the front and nothing behind it"; after a refusal "no lent byte differs".
-- `output_is_line` (proofs/RoomLaws): with room or without, this is writing's `line_into`
abbrev pub output : (out : List ℕ) → Step → List ℕ
output out (refused n) = out
output out (accepted frame next) = hex_of frame ++ line_end ∷ drop (suc (2 * length frame)) out
