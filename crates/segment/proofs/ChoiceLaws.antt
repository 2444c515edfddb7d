-- The laws of the two ways in which a block is placed: of one piece as it was counted, of more piece by piece. Both come to `placed`.
-- Assumes nothing.
use Prim.Native.Nat.{ℕ, ◌+◌, ◌^◌, ◌<◌, ◌≤◌}
use mathlib.Core.Path.{◌≡◌, refl, sym, ap, ◌∙◌}
use mathlib.Core.List.{List}
use native.Mathlib.Omega.{arith}
use native.Mathlib.Nat.{zero-add}
use lib.ListN.{length}
use Rattle.std.specs.Prelude.{Ok, Err, ⊤}
use Rattle.refusal.specs.Answers.{OrRefused, no_refusal, checked}
use Rattle.refusal.specs.declared.Refusal.{Refusal}
use Rattle.refusal.proofs.AnswerLaws.{past_checked, never_accepted}
use Rattle.unit.specs.declared.Unit.{Unit}
use Rattle.alphabet.specs.Table35.{size_of}
use Rattle.state.proofs.HeadLaws.{length_words_at}
use Rattle.edits.specs.Edits.{block_edits}
use Rattle.edits.specs.Lengths.{mapped_length}
use Rattle.edits.specs.Pieces.{less_first}
use Rattle.edits.proofs.EditLaws.{length_edits}
use Rattle.splices.specs.Located.{positions_from, lengths_in, first_mapping, pieces_in}
use Rattle.ecigar.specs.Ecigar.{clips_length}
use Rattle.tables.proofs.SplicedLaws.{PositionFits, clipped_length, length_read, pieces_most, pieces_edits_lem}
use Rattle.pieces.specs.Place.{place_refusal}
use Rattle.pieces.specs.Placed.{pieces_refusal}
use Rattle.pieces.specs.Code.Checked.{text_behind, pieces_found}
use Rattle.pieces.proofs.WriteLaws.{behind_is_pieces, text_behind_lem}
use Rattle.block.specs.declared.aligned.AlignedBlock.{AlignedBlock}
use Rattle.frame.specs.declared.field.Cursor.{Cursor}
use Rattle.segment.specs.declared.Segment.{Segment}
use Rattle.segment.specs.Segment.{block_pieces, text_length, placed_segment, placed}
use Rattle.segment.specs.Code.Ready.{Tallied}
use Rattle.segment.specs.Code.Whole.{under_matches, whole_at}
use Rattle.segment.proofs.OneLaws.{only_piece_lem, only_refusal, only_text}
use Rattle.segment.proofs.PiecedLaws.{all_sound, all_span}
use Rattle.segment.proofs.PlacedLaws.{all_placed, placed_each, begins, placed_begins, pieces_few}

module _ (u : Unit) (reference symbols frame : List ℕ) (position : ℕ) (a : AlignedBlock) (t : Tallied u.class u.alphabet frame a) where
  -- ---- one piece

  pub one_placed : a.splices.count < 2
      → placed u reference symbols frame position a
      ≡ checked (place_refusal u.start u.end position a.taken) (checked (under_matches u reference frame position a.block) (Ok (whole_at a position a.text)))
  unfolding placed
  one_placed h =
      let one : a.splices.count ≡ 1 = omega (arith, t.pieced.least) in
      let only = only_piece_lem u.class u.alphabet frame symbols a.block a.splices position one in
      let text = ap length (only_text u.class u.alphabet frame a.block position) ∙ sym t.text in
      let number = only_refusal u reference frame a.block position in
      let taken = sym t.taken in
      rw (only, number, text, taken)
      (nested (place_refusal u.start u.end position a.taken) (under_matches u reference frame position a.block) _)
    where
      nested : {B : Type 0} (x y : OrRefused ⊤) (go_on : OrRefused B) → checked (checked (checked x y) no_refusal) go_on ≡ checked x (checked y go_on)
      nested (Ok t) (Ok s) go_on = refl
      nested (Ok t) (Err n) go_on = refl
      nested (Err n) y go_on = refl

  -- ---- several

  module _ (answer : OrRefused ℕ) (q : answer ≡ pieces_found u reference 0 0 (block_pieces u symbols frame position a)) where
    pub several_refused : (n : Refusal) → answer ≡ Err n → Err n ≡ placed u reference symbols frame position a
    unfolding placed pieces_found
    several_refused n h = by (pieces_refusal u reference 0 (block_pieces u symbols frame position a)) refl (sym q ∙ h)
      where
        by : (x : OrRefused ⊤) → pieces_refusal u reference 0 (block_pieces u symbols frame position a) ≡ x → ◌≡◌ {A = OrRefused ℕ} (checked x (Ok (0 + text_behind u.alphabet 0 (block_pieces u symbols frame position a)))) (Err n) → ◌≡◌ {A = OrRefused (Segment × Cursor)} (Err n) (checked x (Ok (placed_segment u symbols frame position a, a.next)))
        by (Ok t) e z = never_accepted z
        by (Err k) e z = cc

    module _ (found : ℕ) (h : answer ≡ Ok found) where
      both_is : (pieces_refusal u reference 0 (block_pieces u symbols frame position a) ≡ no_refusal) × (◌≡◌ {A = OrRefused ℕ} (Ok (0 + text_behind u.alphabet 0 (block_pieces u symbols frame position a))) (Ok found))
      unfolding pieces_found
      both_is = past_checked (pieces_refusal u reference 0 (block_pieces u symbols frame position a)) _ found (sym q ∙ h)

      fine_is : pieces_refusal u reference 0 (block_pieces u symbols frame position a) ≡ no_refusal
      fine_is = both_is.0

      text_is : found ≡ text_behind u.alphabet 0 (block_pieces u symbols frame position a)
      text_is = let e = both_is.1 in let w : 0 + text_behind u.alphabet 0 (block_pieces u symbols frame position a) ≡ found = cc in sym w ∙ zero-add _

      text_whole : found + clips_length a.block.clips ≡ text_length u symbols frame position a
      text_whole =
          let l = length_read u.alphabet a.block.rcomp a.block.clips (block_pieces u symbols frame position a) in
          let b = text_behind_lem u.alphabet a.block.rcomp 0 (block_pieces u symbols frame position a) in
          let o = rw (behind_is_pieces u.alphabet a.block.rcomp (block_pieces u symbols frame position a)) at b in
          omega (arith, text_is)

      pub several_whole : (text : ℕ) → text ≡ found + clips_length a.block.clips → Ok (whole_at a position text) ≡ placed u reference symbols frame position a
      unfolding placed
      several_whole text e = let w = text_whole in rw (fine_is, e, w) refl

      pub several_begins : position ≤ u.end
      several_begins =
          (placed_begins u reference position (block_pieces u symbols frame position a)
          (begins u.class u.alphabet frame symbols a.block a.splices position t.pieced.least)
          (all_placed u reference 0 (block_pieces u symbols frame position a) fine_is)).1

      -- it is short enough
      pub several_short : u.end < 2 ^ 32 → found ≤ 5000
      unfolding pieces_in
      several_short fits =
          let g = t.pieced in
          let lengths = lengths_in frame a.splices in
          let positions = positions_from symbols (first_mapping a.splices position) lengths in
          let es = block_edits u.class u.alphabet frame a.block in
          let left = a.block.clips.left_soft in
          let mapped = mapped_length a.block.length a.block.clips in
          let b = text_behind_lem u.alphabet 0 0 (block_pieces u symbols frame position a) in
          let o = rw (behind_is_pieces u.alphabet 0 (block_pieces u symbols frame position a)) at b in
          omega (
            arith,
            text_is,
            g.short,
            g.few,
            g.most,
            pieces_most u.alphabet 0 (size_of u.alphabet) 0 mapped (block_pieces u symbols frame position a)
                (all_span u.class u.alphabet frame symbols a.block a.splices g position)
                (all_sound u.class u.alphabet frame symbols a.block a.splices g position)
                (placed_each u reference PositionFits (λ least p h. omega (arith, h.inside.to)) 0 (block_pieces u symbols frame position a) (all_placed u reference 0 (block_pieces u symbols frame position a) fine_is)),
            length_words_at a.splices.count frame a.splices.lengths_at,
            clipped_length left lengths,
            pieces_few mapped 0 es (less_first left lengths) positions,
            length_edits u.class u.alphabet frame a.block.edits a.block.edits_at,
            pieces_edits_lem mapped 0 es (less_first left lengths) positions,
          )
