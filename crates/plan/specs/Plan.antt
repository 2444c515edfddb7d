-- What a record line says (document 01, Lines: 03 record, and Order): 1; kind; the pair symbols; pos in U; the blocks; bytes left over.
-- Assumes nothing.
use Rattle.std.specs.Prelude.{ℕ, cond, List, ltb, eqb, length, Ok, Err}
use Rattle.refusal.specs.Answers.{OrRefused}
use Rattle.refusal.specs.declared.Refusal.TheVariants.{Misframed, PositionOut}
use Rattle.frame.specs.Hex.{unhex}
use Rattle.frame.specs.Line.{line_of}
use Rattle.frame.specs.Field.{with_field}
use Rattle.unit.specs.Kinds.{kind_record}
use Rattle.frame.specs.Steps.{unless, after_line}
use Rattle.unit.specs.Unit.{class_hm, class_u, most_segments}
use Rattle.unit.specs.declared.Unit.{Unit}
use Rattle.state.specs.declared.State.{State}
use Rattle.taking.specs.Steps.{Steps, sets, refuses, and_then, Came, came, stopped, decode}
use Rattle.taking.specs.Reading.{Took, taken_in}
use Rattle.pairing.specs.Table60.{mapping_pos}
use Rattle.pairing.specs.Pairing.{link_of, pair_steps}
use Rattle.pairing.specs.declared.Link.{Link}
use Rattle.block.specs.Head.{head_at}
use Rattle.segment.specs.Segment.{placed_at, plain_at}
use Rattle.frame.specs.declared.field.Cursor.{Cursor}
use Rattle.segment.specs.declared.Segment.{Segment}
use Rattle.segment.specs.declared.Segment.TheVariants.{Absent}
use Rattle.plan.specs.declared.read.Plan.{Plan}

-- what is listed of a record: its pair link, its position and its segments
abbrev pub plan : Link → (pos : ℕ) (first second : Segment) → Plan
plan link pos first second = record { link = link; pos = pos; first = first; second = second }

-- then left-over bytes (2)
unfoldable pub nothing_left_over : (frame : List ℕ) → Plan → (at : ℕ) → Steps Plan
nothing_left_over frame p at = cond (ltb at (length frame)) (refuses Misframed) (sets p)

-- a segment, and the place behind its block
pub record SegmentAt : Type 0 where
  pub segment : Segment
  pub next : Cursor

-- what takes no symbol, as steps
abbrev pub segment_steps : OrRefused (Segment × Cursor) → Steps SegmentAt
segment_steps (Err n) = refuses n
segment_steps (Ok (p, next)) = sets record { segment = p; next = next }

-- an aligned segment at a position: the head of its block, which takes the block's symbols, then what stands behind it
unfoldable pub aligned_steps : Unit → (reference symbols frame : List ℕ) (position at : ℕ) → Steps SegmentAt
aligned_steps u reference symbols frame position at =
    and_then (head_at u.class frame position at) (λ head. segment_steps (placed_at u reference symbols frame position head))

-- one that is not aligned takes no symbol
abbrev pub plain_steps : Unit → (frame : List ℕ) (at : ℕ) → Steps SegmentAt
plain_steps u frame at = segment_steps (plain_at u frame at)

-- in U the first block is not aligned; in every other class it is, at pos
unfoldable pub first_segment : Unit → (reference symbols frame : List ℕ) (pos at : ℕ) → Steps SegmentAt
first_segment u reference symbols frame pos at = cond (eqb u.class class_u) (plain_steps u frame at) (aligned_steps u reference symbols frame pos at)

-- in P, N, M and I (the classes before HM) the second block is aligned too, at the mate's position; in HM and U it is not.
-- Together: numberOfAlignedRecordSegments of 10.4.10 is 1 in HM, 0 in U, else the record's segments
unfoldable pub second_segment : Unit → (reference symbols frame : List ℕ) → Link → (pos at : ℕ) → Steps SegmentAt
second_segment u reference symbols frame link pos at =
    cond (ltb u.class class_hm) (aligned_steps u reference symbols frame (mapping_pos pos link.mate) at) (plain_steps u frame at)

-- what reading a segment hands back: the segment, the place behind its block and the state behind its symbols, or the refusal
abbrev pub segment_moved : Came SegmentAt → OrRefused (Segment × Cursor × State)
segment_moved (came s next) = Ok (s.segment, s.next, next)
segment_moved (stopped n) = Err n

-- the second block, where the record has two segments; then nothing may be left over
unfoldable pub from_second : Unit → (reference symbols frame : List ℕ) → Link → (pos : ℕ) → Segment → (at : ℕ) → Steps Plan
from_second u reference symbols frame link pos first at =
    cond (ltb link.segments most_segments) (nothing_left_over frame (plan link pos first Absent) at)
    (and_then (second_segment u reference symbols frame link pos at) (λ s. nothing_left_over frame (plan link pos first s.segment) s.next.at))

-- "one block for each segment of the record": what a block takes of the symbols is taken before the next block is read
unfoldable pub from_first : Unit → (reference symbols frame : List ℕ) → Link → (pos at : ℕ) → Steps Plan
from_first u reference symbols frame link pos at =
    and_then (first_segment u reference symbols frame pos at) (λ s. from_second u reference symbols frame link pos s.segment s.next.at)

-- pos u32 (0 in class U)
unfoldable pub from_pos : Unit → (reference symbols frame : List ℕ) → Link → (at : ℕ) → Steps Plan
from_pos u reference symbols frame link at =
    with_field refuses 4 frame at (λ pos behind.
    cond (eqb u.class class_u)
    (unless (eqb pos 0) (refuses PositionOut) (from_first u reference symbols frame link pos behind))
    (from_first u reference symbols frame link pos behind))

-- THE STEPS OF A RECORD: kind (2), then the pair symbols as they are taken, then pos and the blocks
unfoldable pub record_steps : Unit → (reference symbols frame : List ℕ) → Steps Plan
record_steps u reference symbols frame =
    with_field refuses 1 frame 0 (λ kind behind.
    unless (eqb kind kind_record) (refuses Misframed)
    (and_then (pair_steps u) (λ d. from_pos u reference symbols frame (link_of d) behind)))

-- what was read, and the state behind the record's symbols; or the refusal
abbrev pub reading_by : Came Plan → OrRefused (Plan × State)
reading_by (came p next) = Ok (p, next)
reading_by (stopped n) = Err n

-- what the frame says, from a state on
unfoldable pub from_kind : Unit → (reference symbols counts : List ℕ) → State → (frame : List ℕ) → OrRefused (Plan × State)
from_kind u reference symbols counts state frame = reading_by (decode symbols counts state (record_steps u reference symbols frame))

-- a line is lent with its 0A
unfoldable pub plan_of : Unit → (reference symbols counts : List ℕ) → State → (line : List ℕ) → OrRefused (Plan × State)
plan_of u reference symbols counts state line = after_line Err (line_of line) (from_kind u reference symbols counts state (unhex line))

-- the symbols that the next record of a unit takes, in order
abbrev pub record_takes : Unit → (reference symbols : List ℕ) → State → (line : List ℕ) → List Took
record_takes u reference symbols state line = taken_in symbols state (record_steps u reference symbols (unhex line))
