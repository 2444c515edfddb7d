-- The laws of the check's refusals: each is one of the table but 17.
-- Assumes nothing.
use mathlib.Core.List.{List}
use Prim.Native.Nat.{ℕ, zero, suc, ◌+◌}
use lib.Dec.{ltb}
use Rattle.refusal.specs.declared.Refusal.TheVariants.{Misframed, LengthOut, FieldOut, OffsetOut}
use Rattle.refusal.proofs.RefusalLaws.{EarlyAnswer, early, checked_early}
use Rattle.frame.proofs.Tests.{one_of}
use Rattle.alphabet.specs.Table35.{size_of}
use Rattle.edits.specs.Lengths.{most_read, most_edits}
use Rattle.edits.specs.Edits.{width_of, edit_at, edit_list_at, next_offset}
use Rattle.edits.specs.Flanks.{all_flanked}
use Rattle.edits.proofs.RefusalLaws.{edit_early}
use Rattle.ecigar.specs.Check.{ends_within, edits_refusal, answered, piece_checked, edits_checked, check_of, check_piece}

edits_early : (class alphabet : ℕ) (frame : List ℕ) (mapped next k at : ℕ) → EarlyAnswer (edits_refusal class alphabet frame mapped next k at)
unfolding edits_refusal
edits_early class alphabet frame mapped next zero at = tt
edits_early class alphabet frame mapped next (suc k) at =
    let e = edit_at class alphabet frame at in
    checked_early _ _ (one_of EarlyAnswer (ends_within frame at (width_of class)) _ _ (early Misframed tt) tt)
    (checked_early _ _ (edit_early mapped (size_of alphabet) next e) (edits_early class alphabet frame mapped (next_offset e) k (at + width_of class)))

piece_early : (class alphabet : ℕ) (frame : List ℕ) (from at count until : ℕ) → EarlyAnswer (piece_checked class alphabet frame from at count until)
unfolding answered
piece_early class alphabet frame from at count until = checked_early _ _ (edits_early class alphabet frame until from count at) tt

-- the deletions of a whole read, looked at together
read_early : (class alphabet : ℕ) (frame : List ℕ) (at count mapped : ℕ) → EarlyAnswer (edits_checked class alphabet frame at count mapped)
unfolding edits_checked answered
read_early class alphabet frame at count mapped =
    let es = edit_list_at class alphabet frame count at in
    checked_early _ _ (checked_early _ _ (edits_early class alphabet frame mapped 0 count at) (one_of EarlyAnswer (all_flanked mapped es) _ _ tt (early OffsetOut tt))) tt

pub check_early : (class alphabet : ℕ) (frame : List ℕ) (at count mapped : ℕ) → EarlyAnswer (check_of class alphabet frame at count mapped)
unfolding check_of
check_early class alphabet frame at count mapped =
    one_of EarlyAnswer (ltb most_edits count) _ _ (early FieldOut tt)
    (one_of EarlyAnswer (ltb most_read mapped) _ _ (early LengthOut tt)
    (read_early class alphabet frame at count mapped))

pub check_piece_early : (class alphabet : ℕ) (frame : List ℕ) (from at count until : ℕ) → EarlyAnswer (check_piece class alphabet frame from at count until)
unfolding check_piece
check_piece_early class alphabet frame from at count until =
    one_of EarlyAnswer (ltb most_edits count) _ _ (early FieldOut tt)
    (one_of EarlyAnswer (ltb most_read until) _ _ (early LengthOut tt)
    (one_of EarlyAnswer (ltb until from) _ _ (early OffsetOut tt) (piece_early class alphabet frame from at count until)))
