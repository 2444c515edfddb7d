-- The check of a segment's edits (document 01, Refusal numbers and Order): the first refusal, or what the edits come to.
-- Assumes nothing.
use Rattle.std.specs.Prelude.{ℕ, zero, suc, ◌+◌, Bool, cond, List, ltb, length, ⊤, Ok, Err}
use Rattle.refusal.specs.Answers.{OrRefused, no_refusal, checked}
use Rattle.refusal.specs.declared.Refusal.TheVariants.{Misframed, LengthOut, FieldOut, OffsetOut}
use Rattle.alphabet.specs.Table35.{size_of}
use Rattle.edits.specs.Edits.{width_of, edit_at, edit_list_at, next_offset, edit_refusal, taken_from}
use Rattle.edits.specs.Flanks.{flank_refusal}
use Rattle.edits.specs.Lengths.{most_read, most_edits}
use Rattle.edits.specs.declared.edit.Edit.{Edit}
use Rattle.ecigar.specs.Table90.{print_all}
use Rattle.ecigar.specs.Ecigar.{set_out_at, set_out, operations_from}
use Rattle.ecigar.specs.declared.check.Extent.{Extent}

-- what edits come to that are accepted: the reference positions taken, and the length of the text without clips
abbrev pub extent : (taken text : ℕ) → Extent
extent taken text = record { taken = taken; text = text }

-- the frame ends before so many bytes from a place on
abbrev pub ends_within : (frame : List ℕ) (at width : ℕ) → Bool
ends_within frame at width = ltb (length frame) (at + width)

-- refusal 2 where it does
abbrev pub complete : (frame : List ℕ) (at width : ℕ) → OrRefused ⊤
complete frame at width = cond (ends_within frame at width) (Err Misframed) no_refusal

-- the refusal of the first of k edits that is refused: the frame ends within it, or it is refused itself.
-- `next` is the least offset that may stand here
unfoldable pub edits_refusal : (class alphabet : ℕ) (frame : List ℕ) (mapped next k at : ℕ) → OrRefused ⊤
edits_refusal class alphabet frame mapped next zero at = no_refusal
edits_refusal class alphabet frame mapped next (suc k) at =
    let e : Edit = edit_at class alphabet frame at in
    checked (complete frame at (width_of class))
    (checked (edit_refusal mapped (size_of alphabet) next e) (edits_refusal class alphabet frame mapped (next_offset e) k (at + width_of class)))

-- a refusal; or what the edits come to
unfoldable pub answered : OrRefused ⊤ → (taken text : ℕ) → OrRefused Extent
answered refused taken text = checked refused (Ok (extent taken text))

-- so many edits from a place of the frame on, of a run whose bases have the offsets from `from` on, up to and without `until`
abbrev pub piece_checked : (class alphabet : ℕ) (frame : List ℕ) (from at count until : ℕ) → OrRefused Extent
piece_checked class alphabet frame from at count until =
    answered
    (edits_refusal class alphabet frame until from count at)
    (taken_from until from (edit_list_at class alphabet frame count at))
    (length (print_all (operations_from alphabet until (set_out_at from) (edit_list_at class alphabet frame count at))))

-- the same of a whole read, whose deletions are looked at together behind the last edit: 12 where one has no match or substitution before it, or none behind it (document 02, Wish 2)
unfoldable pub edits_checked : (class alphabet : ℕ) (frame : List ℕ) (at count mapped : ℕ) → OrRefused Extent
edits_checked class alphabet frame at count mapped =
    answered
    (checked (edits_refusal class alphabet frame mapped 0 count at) (flank_refusal mapped (edit_list_at class alphabet frame count at)))
    (taken_from mapped 0 (edit_list_at class alphabet frame count at))
    (length (print_all (operations_from alphabet mapped set_out (edit_list_at class alphabet frame count at))))

-- the whole check: the count of edits before the edits (11), and no read is longer than the longest (8).
-- In a record neither is met here: the block's own fields are refused before (block's `count_in`, `length_in`)
unfoldable pub check_of : (class alphabet : ℕ) (frame : List ℕ) (at count mapped : ℕ) → OrRefused Extent
check_of class alphabet frame at count mapped =
    cond (ltb most_edits count) (Err FieldOut)
    (cond (ltb most_read mapped) (Err LengthOut)
    (edits_checked class alphabet frame at count mapped))

-- the check of one piece of a read: the same two tests, and it ends no earlier than it begins (12). A piece of an accepted read meets all three: `piece_checked_lem`. Whether its deletions are flanked is asked of the whole read alone
unfoldable pub check_piece : (class alphabet : ℕ) (frame : List ℕ) (from at count until : ℕ) → OrRefused Extent
check_piece class alphabet frame from at count until =
    cond (ltb most_edits count) (Err FieldOut)
    (cond (ltb most_read until) (Err LengthOut)
    (cond (ltb until from) (Err OffsetOut)
    (piece_checked class alphabet frame from at count until)))
