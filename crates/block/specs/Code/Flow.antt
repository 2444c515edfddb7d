-- For the code, not for the reader.
-- The fields behind a block's head as one flow for every class: a class that has no clips has none, and class P counts no edits without a field for it.
-- `clips_taken` and `edits_counted` (proofs/Steps) say that these are the steps of `from_clips` and `from_edits`.
-- Assumes nothing.
use Rattle.std.specs.Prelude.{ℕ, cond, List, ltb, eqb, Ok}
use Rattle.refusal.specs.Answers.{OrRefused}
use Rattle.frame.specs.Field.{Field}
use Rattle.frame.specs.declared.field.Cursor.{Cursor}
use Rattle.unit.specs.Unit.{class_p, class_i}
use Rattle.edits.specs.Lengths.{no_clips}
use Rattle.edits.specs.declared.Clips.{Clips}
use Rattle.splices.specs.declared.Splices.{Splices}
use Rattle.block.specs.Checked.{count_at, value_before}
use Rattle.block.specs.Clips.{clips_at}

-- the clips of a block, by its class
unfoldable pub clips_by : (class : ℕ) (frame : List ℕ) (length : ℕ) → Splices → (at : ℕ) → OrRefused (Cursor × Clips)
clips_by class frame length splices at = cond (ltb class class_i) (Ok (record { at = at }, no_clips)) (clips_at frame length splices at)

-- how many edits it has, and where they stand
unfoldable pub edit_count : (class : ℕ) (frame : List ℕ) (at : ℕ) → Field
edit_count class frame at = cond (eqb class class_p) (value_before 0 at) (count_at frame at)
