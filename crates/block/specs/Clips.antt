-- The clips of a block of class I or HM (document 01, Lines: blocks; refusal 9, also where the soft clips leave a piece no base).
-- Assumes nothing.
use Rattle.std.specs.Prelude.{ℕ, cond, List, ltb, leb, Ok, Err}
use Rattle.refusal.specs.Answers.{OrRefused}
use Rattle.refusal.specs.declared.Refusal.TheVariants.{ClipsOut}
use Rattle.frame.specs.Field.{big_at, with_field}
use Rattle.frame.specs.declared.field.Cursor.{Cursor}
use Rattle.edits.specs.declared.Clips.{Clips}
use Rattle.edits.specs.Lengths.{soft_bases}
use Rattle.edits.specs.Pieces.{last_length}
use Rattle.splices.specs.Located.{lengths_in}
use Rattle.splices.specs.declared.Splices.{Splices}

-- left soft, left hard, right soft, right hard
abbrev pub clips_of : (ls lh rs rh : ℕ) → Clips
clips_of ls lh rs rh = record { left_soft = ls; left_hard = lh; right_soft = rs; right_hard = rh }

-- of a read of one piece: 9 where soft clips reach the read length
unfoldable pub clips_in_read : Clips → (length next : ℕ) → OrRefused (Cursor × Clips)
clips_in_read clips length next = cond (leb length (soft_bases clips)) (Err ClipsOut) (Ok (record { at = next }, clips))

-- of a read over introns: 9 where the left soft clip reaches the first piece's length, or the right one the last's
unfoldable pub clips_in_pieces : Clips → (frame : List ℕ) → Splices → (next : ℕ) → OrRefused (Cursor × Clips)
clips_in_pieces clips frame splices next =
    cond (leb (big_at 2 frame splices.lengths_at) clips.left_soft) (Err ClipsOut)
    (cond (leb (last_length (lengths_in frame splices)) clips.right_soft) (Err ClipsOut) (Ok (record { at = next }, clips)))

-- 9 by how many pieces the read has
unfoldable pub clips_in : Clips → (frame : List ℕ) (length : ℕ) → Splices → (next : ℕ) → OrRefused (Cursor × Clips)
clips_in clips frame length splices next = cond (ltb splices.count 2) (clips_in_read clips length next) (clips_in_pieces clips frame splices next)

-- left soft, left hard, right soft, right hard, u16 each; the clips are checked once all four are read
unfoldable pub clips_at : (frame : List ℕ) (length : ℕ) → Splices → (at : ℕ) → OrRefused (Cursor × Clips)
clips_at frame length splices at =
    with_field Err 2 frame at (λ ls at2.
    with_field Err 2 frame at2 (λ lh at3.
    with_field Err 2 frame at3 (λ rs at4.
    with_field Err 2 frame at4 (λ rh next. clips_in (clips_of ls lh rs rh) frame length splices next))))
