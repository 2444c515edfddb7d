-- A block is refused by a number of document 01's table but 17.
-- Assumes nothing.
use mathlib.Core.List.{List, [], ◌∷◌}
use Prim.Native.Nat.{ℕ, zero, suc, ◌+◌}
use lib.Dec.{ltb, leb, eqb}
use lib.ListN.{length, get_or}
use Rattle.std.specs.Prelude.{Ok, Err}
use Rattle.refusal.specs.declared.Refusal.{Refusal}
use Rattle.refusal.specs.declared.Refusal.TheVariants.{Misframed, UsedUp, CodeOut, ValueOut, LengthOut, ClipsOut, SymbolOut, FieldOut}
use Rattle.refusal.proofs.RefusalLaws.{EarlyRefusal, EarlyAnswer, early, after_early}
use Rattle.frame.specs.Field.{Field, big_at, field_at, after_field}
use Rattle.frame.specs.declared.field.Cursor.{Cursor}
use Rattle.frame.proofs.Tests.{one_of}
use Rattle.frame.proofs.StepLaws.{by_field}
use Rattle.alphabet.specs.Table35.{size_of}
use Rattle.unit.specs.Unit.{class_p, class_i}
use Rattle.limits.specs.Limits.{most_pieces}
use Rattle.taking.proofs.Decoding.{Tells, then_tells, fits_tells}
use Rattle.edits.specs.Lengths.{most_read, most_edits, soft_bases, mapped_length}
use Rattle.edits.specs.Pieces.{SignedPosition, straight, onwards, last_length}
use Rattle.edits.specs.declared.Clips.{Clips}
use Rattle.edits.specs.declared.Block.{Block}
use Rattle.state.specs.Listed.{words_at}
use Rattle.splices.specs.Table62.{same_rec_short, same_rec_long, table62, next_mapping_pos, spliced_seg_mapping_pos}
use Rattle.splices.specs.Located.{lengths_in}
use Rattle.splices.specs.declared.Splices.{Splices}
use Rattle.ecigar.proofs.RefusalLaws.{check_early}
use Rattle.block.specs.Checked.{value_within, length_at, most_rcomp, rcomp_at, number_at, lengths_from, count_at}
use Rattle.block.specs.Symbols.{symbols_from}
use Rattle.block.specs.Clips.{clips_in_read, clips_in_pieces, clips_in, clips_at}
use Rattle.block.specs.Aligned.{edits_tallied, from_edits, from_soft, from_clips, aligned_at}
use Rattle.block.specs.Head.{splice_steps, from_lengths, from_pieces, from_rcomp, head_at}
use Rattle.block.specs.Unaligned.{from_length, unaligned_at}
use Rattle.block.specs.declared.head.BlockHead.{BlockHead}

-- ---- what follows a field keeps to it where each way it can go does

by_checked : {X : Type 0} (P : X → Type 0) (stop : Refusal → X) (x : Field) (f : ℕ → Cursor → X) → ((n : Refusal) → EarlyRefusal n → P (stop n)) → EarlyAnswer x → ((v : ℕ) (c : Cursor) → P (f v c)) → P (after_field stop x f)
by_checked P stop (Ok (v, c)) f h e k = k v c
by_checked P stop (Err n) f h e k = h n e

-- ---- the fields of a block

within_limits : (k : ℕ) (frame : List ℕ) (at least most : ℕ) (refusal : Refusal) → EarlyRefusal refusal → EarlyAnswer (after_field Err (field_at k frame at) (λ v c. value_within least most refusal v c.at))
within_limits k frame at least most refusal told =
    by_field EarlyAnswer k frame at _ _ (early Misframed tt)
    (λ v c. one_of EarlyAnswer (ltb v least) _ _ told (one_of EarlyAnswer (ltb most v) _ _ told tt))

length_early : (frame : List ℕ) (at : ℕ) → EarlyAnswer (length_at frame at)
unfolding length_at
length_early frame at = within_limits 2 frame at 1 most_read LengthOut (early LengthOut tt)

rcomp_early : (class : ℕ) (frame : List ℕ) (at : ℕ) → EarlyAnswer (rcomp_at class frame at)
unfolding rcomp_at
rcomp_early class frame at = within_limits 1 frame at 0 (most_rcomp class) FieldOut (early FieldOut tt)

number_early : (frame : List ℕ) (at : ℕ) → EarlyAnswer (number_at frame at)
unfolding number_at
number_early frame at = within_limits 1 frame at 1 most_pieces LengthOut (early LengthOut tt)

count_early : (frame : List ℕ) (at : ℕ) → EarlyAnswer (count_at frame at)
unfolding count_at
count_early frame at = within_limits 2 frame at 0 most_edits FieldOut (early FieldOut tt)

lengths_early : (frame : List ℕ) (length sum k at : ℕ) → EarlyAnswer (lengths_from frame length sum k at)
unfolding lengths_from
lengths_early frame length sum zero at = one_of EarlyAnswer (eqb sum length) _ _ tt (early LengthOut tt)
lengths_early frame length sum (suc k) at =
    by_field EarlyAnswer 2 frame at _ _ (early Misframed tt)
    (λ v c. one_of EarlyAnswer (ltb v 1) _ _ (early LengthOut tt) (lengths_early frame length (sum + v) k c.at))

symbols_early : (alphabet : ℕ) (frame : List ℕ) (count k at : ℕ) → EarlyAnswer (symbols_from alphabet frame count k at)
unfolding symbols_from
symbols_early alphabet frame count zero at = tt
symbols_early alphabet frame count (suc k) at =
    one_of EarlyAnswer (leb (length frame) at) _ _ (early Misframed tt)
    (one_of EarlyAnswer (leb (size_of alphabet) (get_or frame at 0)) _ _ (early SymbolOut tt) (symbols_early alphabet frame count k (at + 1)))

within_early : (c : Clips) (frame : List ℕ) (length : ℕ) (splices : Splices) (next : ℕ) → EarlyAnswer (clips_in c frame length splices next)
unfolding clips_in clips_in_read clips_in_pieces
within_early c frame length splices next =
    one_of EarlyAnswer (ltb splices.count 2) _ _
    (one_of EarlyAnswer (leb length (soft_bases c)) _ _ (early ClipsOut tt) tt)
    (one_of EarlyAnswer (leb (big_at 2 frame splices.lengths_at) c.left_soft) _ _ (early ClipsOut tt)
    (one_of EarlyAnswer (leb (last_length (lengths_in frame splices)) c.right_soft) _ _ (early ClipsOut tt) tt))

clips_early : (frame : List ℕ) (length : ℕ) (splices : Splices) (at : ℕ) → EarlyAnswer (clips_at frame length splices at)
unfolding clips_at
clips_early frame length splices at =
    by_field EarlyAnswer 2 frame at _ _ (early Misframed tt)
    (λ ls a. by_field EarlyAnswer 2 frame a.at _ _ (early Misframed tt)
    (λ lh b. by_field EarlyAnswer 2 frame b.at _ _ (early Misframed tt)
    (λ rs c. by_field EarlyAnswer 2 frame c.at _ _ (early Misframed tt)
    (λ rh d. within_early _ frame length splices d.at))))

-- ---- a block

tallied_early : (class alphabet : ℕ) (frame : List ℕ) (s : Block) (splices : Splices) → EarlyAnswer (edits_tallied class alphabet frame s splices)
unfolding edits_tallied
tallied_early class alphabet frame s splices = after_early _ _ (check_early class alphabet frame s.edits_at s.edits (mapped_length s.length s.clips)) (λ e. tt)

module _ (class alphabet : ℕ) (frame : List ℕ) (readLength rcomp : ℕ) (splices : Splices) where
  from_edits_early : (c : Clips) (softAt at : ℕ) → EarlyAnswer (from_edits class alphabet frame readLength rcomp splices c softAt at)
  unfolding from_edits
  from_edits_early c softAt at =
      one_of EarlyAnswer (eqb class class_p) _ _ (tallied_early class alphabet frame _ splices)
      (by_checked EarlyAnswer _ (count_at frame at) _ (λ n h. h) (count_early frame at) (λ count next. tallied_early class alphabet frame _ splices))

  soft_early : (c : Clips) (at : ℕ) → EarlyAnswer (from_soft class alphabet frame readLength rcomp splices c at)
  unfolding from_soft
  soft_early c at =
      by_checked EarlyAnswer _ (symbols_from alphabet frame (soft_bases c) (soft_bases c) at) _ (λ n h. h) (symbols_early alphabet frame (soft_bases c) (soft_bases c) at)
      (λ count next. from_edits_early c at next.at)

  from_clips_early : (at : ℕ) → EarlyAnswer (from_clips class alphabet frame readLength rcomp splices at)
  unfolding from_clips
  from_clips_early at =
      one_of EarlyAnswer (ltb class class_i) _ _ (from_edits_early _ at at) (after_early _ _ (clips_early frame readLength splices at) (λ read. soft_early read.1 read.0.at))

pub aligned_early : (class alphabet : ℕ) (frame : List ℕ) (h : BlockHead) → EarlyAnswer (aligned_at class alphabet frame h)
unfolding aligned_at
aligned_early class alphabet frame h = from_clips_early class alphabet frame h.length h.rcomp h.splices h.next.at

-- ---- a head, with the symbols of Table 62

turn_early : (end : SignedPosition) → Tells EarlyRefusal (next_mapping_pos end)
unfolding next_mapping_pos table62 same_rec_short same_rec_long
turn_early end = (
  early UsedUp tt,
  λ code.
      one_of (Tells EarlyRefusal) (eqb code 0) _ _
      (early UsedUp tt, λ v. fits_tells EarlyRefusal v _ (early ValueOut tt) tt)
      (one_of (Tells EarlyRefusal) (eqb code 2) _ _ (early UsedUp tt, λ v. tt) (early CodeOut tt)),
)

pub positions_early : (position : SignedPosition) (lengths : List ℕ) → Tells EarlyRefusal (spliced_seg_mapping_pos position lengths)
unfolding spliced_seg_mapping_pos
positions_early position [] = tt
positions_early position (n ∷ []) = tt
positions_early position (n ∷ m ∷ ns) =
    then_tells EarlyRefusal (next_mapping_pos (onwards n position)) _ (turn_early (onwards n position))
    (λ next. then_tells EarlyRefusal (spliced_seg_mapping_pos next (m ∷ ns)) _ (positions_early next (m ∷ ns)) (λ rest. tt))

pub head_early : (class : ℕ) (frame : List ℕ) (position at : ℕ) → Tells EarlyRefusal (head_at class frame position at)
unfolding head_at from_rcomp from_pieces from_lengths splice_steps
head_early class frame position at =
    by_checked (Tells EarlyRefusal) _ (length_at frame at) _ (λ n h. h) (length_early frame at)
    (λ readLength a. by_checked (Tells EarlyRefusal) _ (rcomp_at class frame a.at) _ (λ n h. h) (rcomp_early class frame a.at)
    (λ rcomp b. one_of (Tells EarlyRefusal) (ltb class class_i) _ _ tt
    (by_checked (Tells EarlyRefusal) _ (number_at frame b.at) _ (λ n h. h) (number_early frame b.at)
    (λ count c. by_checked (Tells EarlyRefusal) _ (lengths_from frame readLength 0 count c.at) _ (λ n h. h) (lengths_early frame readLength 0 count c.at)
    (λ sum d here. then_tells EarlyRefusal (spliced_seg_mapping_pos (straight position) (words_at count frame c.at)) _ (positions_early (straight position) (words_at count frame c.at)) (λ positions. tt))))))

pub unaligned_early : (alphabet : ℕ) (frame : List ℕ) (at : ℕ) → EarlyAnswer (unaligned_at alphabet frame at)
unfolding unaligned_at from_length
unaligned_early alphabet frame at =
    by_checked EarlyAnswer _ (length_at frame at) _ (λ n h. h) (length_early frame at)
    (λ length next. by_checked EarlyAnswer _ (symbols_from alphabet frame length length next.at) _ (λ n h. h) (symbols_early alphabet frame length length next.at)
    (λ count last. tt))
