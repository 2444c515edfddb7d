-- How the code walks over a segment's edits: Table 93's loops with the run that is open kept as state, and Table 92's clips. Nobody need read this
-- beside the standard: `ecigar_is_table92` (tables, proofs/Table92Laws) says that its text is Table 92's for every segment that is `OfItsClass` and `Sound`.
-- Assumes nothing.
use Rattle.std.specs.Prelude.{ℕ, ◌+◌, ◌-◌, ◌<◌, ◌≤◌, ◌≡◌, Bool, false, cond, not, List, [], ◌∷◌, ◌++◌, eqb, length}
use Rattle.alphabet.specs.Table35.{letter_of}
use Rattle.edits.specs.Edits.{substitution, insertion, deletion, next_offset, block_edits}
use Rattle.unit.specs.Unit.{class_p, class_i, class_hm}
use Rattle.edits.specs.Lengths.{no_clips, mapped_length}
use Rattle.edits.specs.declared.edit.Edit.{Edit}
use Rattle.edits.specs.declared.Clips.{Clips}
use Rattle.edits.specs.declared.Block.{Block}
use Rattle.ecigar.specs.declared.walk.Walk.{Walk}
use Rattle.ecigar.specs.Table90.{Operation, matched, substituted, inserted, deleted, soft_clipped, hard_clipped, print_all}

-- before the first edit of a run whose first base stands at this offset: previousOffset is that, and no run is open
abbrev pub set_out_at : (start : ℕ) → Walk
set_out_at start = record { next = start; kind = substitution; run = 0 }

-- where a read that is in one piece begins
abbrev pub set_out : Walk
set_out = set_out_at 0

-- neighbouring insertions merge when each offset is one more than the last, neighbouring deletions when offsets are equal (document 01)
unfoldable pub joins_run : Walk → Edit → Bool
joins_run w e = cond (eqb e.kind substitution) false (cond (eqb e.kind w.kind) (eqb e.offset w.next) false)

-- previousOffset, and the run that is open, after an edit
unfoldable pub past : Walk → Edit → Walk
past w e = record { next = next_offset e; kind = e.kind; run = cond (joins_run w e) (w.run + 1) 1 }

-- a match, where there is one
unfoldable pub matches : (n : ℕ) → List Operation
matches n = cond (eqb n 0) [] (matched n ∷ [])

-- the run that is open, if one is
unfoldable pub open_run : Walk → List Operation
open_run w = cond (eqb w.kind insertion) (inserted w.run ∷ []) (cond (eqb w.kind deletion) (deleted w.run ∷ []) [])

-- what stands between the last edit and this one: nothing within a run, else the run that ends here and the match
unfoldable pub gap : Walk → Edit → List Operation
gap w e = cond (joins_run w e) [] (open_run w ++ matches (e.offset - w.next))

-- the letter of a substitution
unfoldable pub mark : (alphabet : ℕ) → Edit → List Operation
mark alphabet e = cond (eqb e.kind substitution) (substituted (letter_of alphabet e.symbol) ∷ []) []

-- the run that is still open after the last edit, and the match behind it
unfoldable pub ending : (mapped : ℕ) → Walk → List Operation
ending mapped w = open_run w ++ matches (mapped - w.next)

-- the operations from a place of the walk on
unfoldable pub operations_from : (alphabet mapped : ℕ) → Walk → List Edit → List Operation
operations_from alphabet mapped w [] = ending mapped w
operations_from alphabet mapped w (e ∷ es) = (gap w e ++ mark alphabet e) ++ operations_from alphabet mapped (past w e) es

-- the operations of a list of edits, without clips
abbrev pub operations_of : (alphabet mapped : ℕ) → List Edit → List Operation
operations_of alphabet mapped es = operations_from alphabet mapped set_out es

-- decodedEcigar of Table 93: their text
unfoldable pub ecigar_of : (alphabet mapped : ℕ) → List Edit → List ℕ
ecigar_of alphabet mapped es = print_all (operations_of alphabet mapped es)

-- the clip of one side: on a side with soft clips a hard clip is not written (document 01)
unfoldable pub clip : (soft hard : ℕ) → List Operation
clip soft hard = cond (not (eqb soft 0)) (soft_clipped soft ∷ []) (cond (not (eqb hard 0)) (hard_clipped hard ∷ []) [])

abbrev pub left_clip : Clips → List Operation
left_clip c = clip c.left_soft c.left_hard

abbrev pub right_clip : Clips → List Operation
right_clip c = clip c.right_soft c.right_hard

-- the operations of a segment: left clip, edits, right clip
unfoldable pub block_operations : (class alphabet : ℕ) (frame : List ℕ) → Block → List Operation
block_operations class alphabet frame s =
    left_clip s.clips
    ++ operations_of alphabet (mapped_length s.length s.clips) (block_edits class alphabet frame s)
    ++ right_clip s.clips

-- the text of a segment
unfoldable pub ecigar_text : (class alphabet : ℕ) (frame : List ℕ) → Block → List ℕ
ecigar_text class alphabet frame s = print_all (block_operations class alphabet frame s)

-- the length of both clips
unfoldable pub clips_length : Clips → ℕ
clips_length c = length (print_all (left_clip c)) + length (print_all (right_clip c))

-- a segment as its class has it (document 01, Lines and Building a read): only I and HM have clips, P has no edits, and a base is mapped
pub record OfItsClass (class : ℕ) (s : Block) : Type 0 where
  pub first : class_p ≤ class
  pub last : class ≤ class_hm
  pub clips : class < class_i → s.clips ≡ no_clips
  pub edits : class ≡ class_p → s.edits ≡ 0
  pub mapped : 1 ≤ mapped_length s.length s.clips
