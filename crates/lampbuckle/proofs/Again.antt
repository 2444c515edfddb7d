-- What one call lays, the next one reads: the numbers of a unit, of a state and of what is known of a found file, there and back.
-- Assumes nothing.
use Prim.Native.Nat.{ℕ, ◌*◌}
use native.Mathlib.Omega.{arith}
use mathlib.Core.Path.{◌≡◌, refl, ap}
use mathlib.Core.Bool.{Bool, true, false, not}
use mathlib.Core.List.{List}
use lib.Dec.{eqb, ltb}
use lib.ListN.{length}
use Rattle.refusal.specs.declared.Refusal.{Refusal}
use Rattle.frame.proofs.HexLaws.{by_test}
use Rattle.unit.specs.Pairs.{subsequences}
use Rattle.state.specs.Listed.{index_place, Step, refused, accepted, state_at}
use Rattle.unit.specs.declared.Unit.{Unit}
use Rattle.state.specs.declared.State.{State}
use Rattle.record.specs.Record.{step_of, with_room, record_of}
use Rattle.record.proofs.RecordLaws.{step_shaped}
use Rattle.frame.specs.Hex.{unhex}
use Rattle.frame.specs.Same.{same_list}
use Rattle.listing.specs.Resuming.{Last, Edges, nothing, edges, on_last, place_by}
use Rattle.listing.proofs.LastLaws.{Sorted, listed, closed05, closed06, other, sorted}
use Rattle.state.proofs.HeadLaws.{length_words_at}
use Rattle.state.proofs.NumberLaws.{state_again, length_state}
use Rattle.resuming.specs.Last.{placed_of, state_to}
use Rattle.kept.specs.declared.keep.Keep.{Keep}
use Rattle.lampbuckle.specs.Numbers.{unit_numbers, unit_of, flag, keep_numbers, keep_of}
use Rattle.state.specs.Numbers.{state_numbers, state_of}
use Rattle.state.specs.State.{index_count, Shaped}

-- the unit that `lampbuckle_unit_line` laid
pub unit_again : (u : Unit) → unit_of (unit_numbers u) ≡ u
unit_again u = refl

-- what `lampbuckle_keep` laid
pub keep_again : (k : Keep) → keep_of (keep_numbers k) ≡ k
keep_again k = ap (λ (b : Bool). record { first = k.first; last = k.last; kept = k.kept; seen = k.seen; done = b }) (flagged k.done)
  where
    flagged : (b : Bool) → not (eqb (flag b) 0) ≡ b
    flagged true = refl
    flagged false = refl

-- ---- every state that a call lays has an index for each subsequence

-- the state that `lampbuckle_record` lays
pub next_state_again : (u : Unit) (reference symbols counts numbers line : List ℕ) (room : ℕ) (frame : List ℕ) (next : State)
    → record_of u reference symbols counts (state_of numbers) line room ≡ accepted frame next → state_of (state_numbers next) ≡ next
unfolding record_of
next_state_again u reference symbols counts numbers line room frame next e = state_again next (by (step_of u reference symbols counts (state_of numbers) line) refl e)
  where
    by : (t : Step) → step_of u reference symbols counts (state_of numbers) line ≡ t → with_room room t ≡ accepted frame next → Shaped next
    by (refused n) q r = absurd (let z : ◌≡◌ {A = ℕ} 0 1 = cc in omega arith)
    by (accepted g s) q r =
        by_test (ltb (2 * length g) room)
        (λ t.
        let a : accepted g s ≡ accepted frame next = simp t at r in
        let z : s ≡ next = cc in
        rw (← z) (step_shaped u reference symbols counts (state_of numbers) line g s q (length_state numbers)))
        (λ t. absurd (differs (simp t at r)))
      where
        differs : {n : Refusal} → refused n ≡ accepted frame next → ⊥
        differs d = let z : ◌≡◌ {A = ℕ} 0 1 = cc in omega arith

-- the state that `lampbuckle_place` lays
pub place_state_again : (first : List ℕ) (count : ℕ) (counts : List ℕ) (e : Edges) → length counts ≡ subsequences
    → state_of (state_numbers (state_to (placed_of (place_by first count counts e)))) ≡ state_to (placed_of (place_by first count counts e))
unfolding placed_of state_to state_at
place_state_again first count counts e shaped = state_again (state_to (placed_of (place_by first count counts e))) (by e)
  where
    said : (z : List ℕ) {t : Last} → Sorted count counts z t → length (state_to (placed_of (on_last t))).index ≡ index_count
    said z (listed w) = length_words_at index_count (unhex z) index_place
    said z (closed05 w) = refl
    said z (closed06 w) = refl
    said z (other a b d) = refl

    by : (e : Edges) → length (state_to (placed_of (place_by first count counts e))).index ≡ index_count
    by nothing = refl
    by (edges a z) =
        by_test (same_list a first)
        (λ t. rw t (by_test (same_list z first) (λ u. rw u refl) (λ u. rw u (said z (sorted count counts z shaped)))))
        (λ t. rw t refl)
