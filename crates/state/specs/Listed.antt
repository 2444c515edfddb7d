-- The 04 lines of a listing: how the state is laid into their head and read back from it, how long they are, and what a record call answers (document 01, The listing and Resuming).
-- Assumes nothing.
use Rattle.std.specs.Prelude.{ℕ, zero, suc, ◌+◌, ◌*◌, cond, List, [], ◌∷◌, ◌++◌, ltb, length, Option, Some, None}
use Rattle.refusal.specs.declared.Refusal.{Refusal}
use Rattle.limits.specs.Limits.{most_segments, most_segment_bytes}
use Rattle.frame.specs.Hex.{be}
use Rattle.frame.specs.Field.{big_at}
use Rattle.unit.specs.Kinds.{kind_listed}
use Rattle.state.specs.State.{index_count, within}
use Rattle.state.specs.declared.State.{State}

-- ---- the head

-- numbers as u16 each
unfoldable pub words : List ℕ → List ℕ
words [] = []
words (x ∷ xs) = be 2 x ++ words xs

-- an 04 line begins with its kind, the record number u16 and "the eight pair indexes after this record u16 each"
unfoldable pub listed_head : ℕ → State → List ℕ
listed_head number next = be 1 kind_listed ++ be 2 number ++ words next.index

-- where the head has the record number
abbrev pub number_place : ℕ
number_place = 1

-- and its first index
abbrev pub index_place : ℕ
index_place = 3

-- its bytes
abbrev pub head_bytes : ℕ
head_bytes = index_place + 2 * index_count

-- k u16 of a frame, from byte `at` on
unfoldable pub words_at : ℕ → List ℕ → ℕ → List ℕ
words_at zero bs at = []
words_at (suc k) bs at = big_at 2 bs at ∷ words_at k bs (at + 2)

-- the state behind the record of an 04 line: the next record's number, and the indexes after this one.
-- `state_head` (proofs/HeadLaws): of the head that was laid for a state it is that state
unfoldable pub state_at : List ℕ → State
state_at bs = record { number = big_at 2 bs number_place + 1; index = words_at index_count bs index_place }

-- ---- how long a line is

-- the bytes between the head and the segments: read1First, splitMate, segments in this record (a byte each), mate sequence id u16, mate position u32
abbrev pub link_fields : ℕ
link_fields = 9

-- the fewest bytes of an 04 line, those before its segments: 28
abbrev pub least_listed : ℕ
least_listed = head_bytes + link_fields

-- the most digits of a listing line: 20,808; with its 0A an 04 line needs no more than one byte more
abbrev pub most_listed : ℕ
most_listed = 2 * (least_listed + most_segments * most_segment_bytes)

-- ---- what it says

-- "an 04 line of at least 28 bytes with a number below the record count and indexes not above the symbol counts": the state behind its record; of any other, none
unfoldable pub state_back : (count : ℕ) (counts bs : List ℕ) → Option State
state_back count counts bs =
    cond (ltb (length bs) least_listed) None
    (cond (ltb (big_at 2 bs number_place) count)
    (cond (within (state_at bs) counts) (Some (state_at bs)) None)
    None)

-- what a record call answers: its refusal, or the 04 line's bytes and the next state
pub data Step : Type 0 where
  refused : Refusal → Step
  accepted : List ℕ → State → Step
