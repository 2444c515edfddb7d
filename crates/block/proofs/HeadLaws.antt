-- The laws of a head's symbols: the code takes them without looking where the read maps, and where it is accepted Table 62 came to positions.
-- Assumes nothing.
use mathlib.Core.Path.{◌≡◌, refl, sym, ap, ◌∙◌}
use mathlib.Core.List.{List}
use Prim.Native.Nat.{ℕ, ◌-◌, ◌<◌, ◌≤◌}
use native.Mathlib.Omega.{arith}
use borrow.Author.Tests.{le-ltb, lt-ltb}
use Rattle.std.specs.Prelude.{Ok, Err}
use Rattle.refusal.specs.Answers.{OrRefused}
use Rattle.refusal.specs.declared.Refusal.{Refusal}
use Rattle.frame.specs.Field.{Field, after_field}
use Rattle.frame.specs.declared.field.Cursor.{Cursor}
use Rattle.unit.specs.Unit.{class_i}
use Rattle.state.specs.State.{Shaped, taken}
use Rattle.state.specs.Listed.{words_at}
use Rattle.state.specs.declared.State.{State}
use Rattle.state.proofs.HeadLaws.{length_words_at}
use Rattle.taking.specs.Steps.{Steps, sets, refuses, Came, came, stopped, decode}
use Rattle.taking.proofs.Decoding.{then_goes, then_stops, then_came}
use Rattle.edits.specs.Pieces.{SignedPosition, straight}
use Rattle.splices.specs.Table62.{spliced_seg_mapping_pos}
use Rattle.splices.specs.Code.Taken.{symbols_moved, splice_turns}
use Rattle.splices.specs.Located.{unspliced, positions_from, lengths_in, first_mapping}
use Rattle.splices.proofs.TakenLaws.{turns_moved}
use Rattle.splices.proofs.MappingLaws.{positions_found}
use Rattle.block.specs.Checked.{length_at, rcomp_at, number_at, lengths_at}
use Rattle.block.specs.Head.{splices_at, splice_steps, from_lengths, from_pieces, from_rcomp, head_at, head_moved}
use Rattle.block.specs.declared.head.BlockHead.{BlockHead}

-- ---- the code takes so many turns, wherever the read maps

module _ (symbols counts : List ℕ) (st : State) (frame : List ℕ) (position readLength rcomp count lengths_at : ℕ) (next : Cursor) where
  abbrev position_steps : Steps (List SignedPosition)
  position_steps = spliced_seg_mapping_pos (straight position) (words_at count frame lengths_at)

  abbrev head_here : BlockHead
  head_here = record { length = readLength; rcomp = rcomp; splices = splices_at count lengths_at st; next = next }

  module _ (m : OrRefused State) (is : m ≡ symbols_moved (decode symbols counts st (splice_turns (count - 1)))) where
    same_moved : m ≡ symbols_moved (decode symbols counts st position_steps)
    same_moved =
        is
        ∙ sym (turns_moved symbols counts (straight position) (words_at count frame lengths_at) st ∙ ap (λ (k : ℕ). symbols_moved (decode symbols counts st (splice_turns (k - 1)))) (length_words_at count frame lengths_at))

    pub splices_refused : (n : Refusal) → m ≡ Err n → Err n ≡ head_moved (decode symbols counts st (splice_steps frame position readLength rcomp count lengths_at next))
    unfolding splice_steps decode
    splices_refused n z = by (decode symbols counts st position_steps) refl (sym z ∙ same_moved)
      where
        by : (x : Came (List SignedPosition)) → decode symbols counts st position_steps ≡ x → ◌≡◌ {A = OrRefused State} (Err n) (symbols_moved x)
            → Err n ≡ head_moved (decode symbols counts st (splice_steps frame position readLength rcomp count lengths_at next))
        by (came ps middle) d e = absurd (let w : ◌≡◌ {A = ℕ} 0 1 = cc in omega arith)
        by (stopped k) d e =
            let same : n ≡ k = cc in
            rw same (sym (ap head_moved (then_stops symbols counts position_steps (λ positions. sets head_here) st k d)))

    pub splices_whole : (behind : State) → m ≡ Ok behind → Ok (head_here, behind) ≡ head_moved (decode symbols counts st (splice_steps frame position readLength rcomp count lengths_at next))
    unfolding splice_steps decode
    splices_whole behind z = by (decode symbols counts st position_steps) refl (sym z ∙ same_moved)
      where
        by : (x : Came (List SignedPosition)) → decode symbols counts st position_steps ≡ x → ◌≡◌ {A = OrRefused State} (Ok behind) (symbols_moved x)
            → Ok (head_here, behind) ≡ head_moved (decode symbols counts st (splice_steps frame position readLength rcomp count lengths_at next))
        by (came ps middle) d e =
            let same : behind ≡ middle = cc in
            rw same (sym (ap head_moved (then_goes symbols counts position_steps (λ positions. sets head_here) st ps middle d)))
        by (stopped k) d e = absurd (let w : ◌≡◌ {A = ℕ} 0 1 = cc in omega arith)

-- ---- a head that is accepted

-- in I and HM: where the read's pieces map is what Table 62 came to, and it is looked up where the head says
pub record HeadSpliced (symbols counts frame : List ℕ) (position : ℕ) (st : State) (h : BlockHead) (next : State) : Type 0 where
  pub positions : List SignedPosition
  pub came_to : decode symbols counts st (spliced_seg_mapping_pos (straight position) (lengths_in frame h.splices)) ≡ came positions next
  pub codes : h.splices.codes ≡ taken st 0
  pub deltas : h.splices.deltas ≡ taken st 1
  pub places : h.splices.places ≡ taken st 3
  pub found : Shaped st → positions ≡ positions_from symbols (first_mapping h.splices position) (lengths_in frame h.splices)

module _ (symbols counts : List ℕ) (st : State) (h : BlockHead) (next : State) where
  -- what follows a checked field that is accepted
  checked_came : {P : Type 0} (x : Field) (f : ℕ → Cursor → Steps BlockHead) → decode symbols counts st (after_field refuses x f) ≡ came h next
      → ((v : ℕ) (c : Cursor) → x ≡ Ok (v, c) → decode symbols counts st (f v c) ≡ came h next → P) → P
  unfolding decode
  checked_came (Ok (v, c)) f q go = go v c refl q
  checked_came (Err n) f q go = absurd (let z : ◌≡◌ {A = ℕ} 0 1 = cc in omega arith)

  splices_came : (frame : List ℕ) (position readLength rcomp count lengths_at : ℕ) (behind : Cursor)
      → decode symbols counts st (splice_steps frame position readLength rcomp count lengths_at behind) ≡ came h next → HeadSpliced symbols counts frame position st h next
  unfolding splice_steps decode
  splices_came frame position readLength rcomp count lengths_at behind q =
      let end = head_here symbols counts st frame position readLength rcomp count lengths_at behind in
      let t = then_came symbols counts (spliced_seg_mapping_pos (straight position) (words_at count frame lengths_at)) (λ positions. sets end) st h next q in
      let is : end ≡ h = cc t.rest in
      let at : t.middle ≡ next = cc t.rest in
      rw (← is, ← at)
      record {
        positions = t.value;
        came_to = t.first;
        codes = refl;
        deltas = refl;
        places = refl;
        found = λ shape. positions_found symbols counts (straight position) (words_at count frame lengths_at) st t.value t.middle shape t.first;
      }

  pub head_positions : (class : ℕ) (frame : List ℕ) (position at : ℕ) → class_i ≤ class → decode symbols counts st (head_at class frame position at) ≡ came h next → HeadSpliced symbols counts frame position st h next
  unfolding head_at from_rcomp from_pieces from_lengths
  head_positions class frame position at l q =
      checked_came (length_at frame at) _ q
      (λ readLength a e r. checked_came (rcomp_at class frame a.at) _ r
      (λ rcomp b f s. checked_came (number_at frame b.at) _ (rw (le-ltb class class_i l) at s)
      (λ count c g t. checked_came (lengths_at frame readLength count c.at) _ t
      (λ sum d i u. splices_came frame position readLength rcomp count c.at d u))))

  -- before I it takes no symbol
  pub head_plain : (class : ℕ) (frame : List ℕ) (position at : ℕ) → class < class_i → decode symbols counts st (head_at class frame position at) ≡ came h next → (next ≡ st) × (h.splices ≡ unspliced)
  unfolding head_at from_rcomp from_pieces decode
  head_plain class frame position at l q =
      checked_came (length_at frame at) _ q
      (λ readLength a e r. checked_came (rcomp_at class frame a.at) _ r
      (λ rcomp b f s.
      let t : ◌≡◌ {A = Came BlockHead} (came (record { length = readLength; rcomp = rcomp; splices = unspliced; next = record { at = b.at } }) st) (came h next) = rw (lt-ltb class class_i l) at s in
      (cc, ap (λ (x : BlockHead). x.splices) (sym (let w : ◌≡◌ {A = BlockHead} (record { length = readLength; rcomp = rcomp; splices = unspliced; next = record { at = b.at } }) h = cc in w)))))
