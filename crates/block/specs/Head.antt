-- The head of an aligned block (document 01, Lines: blocks; document 02, Wish 1): its first fields, each refused when it is complete, and the symbols that they ask for.
-- A block takes its symbols behind the fields that say how many, before the rest of it is read: "These symbols are taken once the frame has given the lengths."
-- Assumes nothing.
use Rattle.std.specs.Prelude.{ℕ, cond, List, ltb, Ok, Err}
use Rattle.refusal.specs.Answers.{OrRefused}
use Rattle.frame.specs.Field.{after_field}
use Rattle.frame.specs.declared.field.Cursor.{Cursor}
use Rattle.unit.specs.Unit.{class_i}
use Rattle.state.specs.State.{taken}
use Rattle.state.specs.Listed.{words_at}
use Rattle.state.specs.declared.State.{State}
use Rattle.taking.specs.Steps.{Steps, sets, refuses, marks, and_then, Came, came, stopped}
use Rattle.edits.specs.Pieces.{straight}
use Rattle.splices.specs.Table62.{spliced_seg_mapping_pos}
use Rattle.splices.specs.Located.{unspliced}
use Rattle.splices.specs.declared.Splices.{Splices}
use Rattle.block.specs.Checked.{length_at, rcomp_at, number_at, lengths_at}
use Rattle.block.specs.declared.head.BlockHead.{BlockHead}

-- how many pieces a read has, where their lengths stand, and where their symbols stand from a state on
abbrev pub splices_at : (count lengths_at : ℕ) → (here : State) → Splices
splices_at count lengths_at here = record { count = count; lengths_at = lengths_at; codes = taken here 0; deltas = taken here 1; places = taken here 3 }

-- the symbols of Table 62, for a read that maps at `position`; where its pieces map is looked up again by where their symbols stand
unfoldable pub splice_steps : (frame : List ℕ) (position length rcomp count lengths_at : ℕ) → (next : Cursor) → Steps BlockHead
splice_steps frame position length rcomp count lengths_at next =
    marks (λ here. and_then (spliced_seg_mapping_pos (straight position) (words_at count frame lengths_at))
    (λ positions. sets record { length = length; rcomp = rcomp; splices = splices_at count lengths_at here; next = next }))

-- the lengths of so many pieces, and their symbols
unfoldable pub from_lengths : (frame : List ℕ) (position length rcomp count at : ℕ) → Steps BlockHead
from_lengths frame position length rcomp count at =
    after_field refuses (lengths_at frame length count at) (λ sum behind. splice_steps frame position length rcomp count at behind)

-- in I and HM the number of pieces, their lengths and their symbols
unfoldable pub from_pieces : (class : ℕ) (frame : List ℕ) (position length rcomp at : ℕ) → Steps BlockHead
from_pieces class frame position length rcomp at =
    cond (ltb class class_i) (sets record { length = length; rcomp = rcomp; splices = unspliced; next = record { at = at } })
    (after_field refuses (number_at frame at) (λ count next. from_lengths frame position length rcomp count next.at))

-- rcomp, and the pieces
unfoldable pub from_rcomp : (class : ℕ) (frame : List ℕ) (position length at : ℕ) → Steps BlockHead
from_rcomp class frame position length at =
    after_field refuses (rcomp_at class frame at) (λ rcomp next. from_pieces class frame position length rcomp next.at)

-- read length, rcomp, and the pieces
unfoldable pub head_at : (class : ℕ) (frame : List ℕ) (position at : ℕ) → Steps BlockHead
head_at class frame position at = after_field refuses (length_at frame at) (λ length next. from_rcomp class frame position length next.at)

-- what reading it comes to: the head and the state behind its symbols, or the refusal
abbrev pub head_moved : Came BlockHead → OrRefused (BlockHead × State)
head_moved (came h next) = Ok (h, next)
head_moved (stopped refusal) = Err refusal
