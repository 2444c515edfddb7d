-- The laws of taking a block's symbols: how far they go does not depend on where a piece maps, so the code may take them before it looks that up.
-- Assumes nothing.
use mathlib.Core.Path.{◌≡◌, refl, sym, ap, ◌∙◌}
use mathlib.Core.List.{List, [], ◌∷◌}
use Prim.Native.Nat.{ℕ, zero, suc, ◌-◌, ◌<◌, ◌≤◌}
use native.Mathlib.Omega.{arith}
use lib.Dec.{ltb, eqb}
use lib.ListN.{length}
use Rattle.std.specs.Prelude.{Ok, Err}
use Rattle.refusal.specs.Answers.{OrRefused}
use Rattle.refusal.specs.declared.Refusal.{Refusal}
use Rattle.frame.proofs.Tests.{by_test}
use Rattle.state.specs.declared.State.{State}
use Rattle.state.specs.State.{raised}
use Rattle.unit.specs.Unit.{largest16}
use Rattle.taking.specs.Take.{symbol_of}
use Rattle.taking.specs.Steps.{Steps, sets, within16, and_then, Came, came, stopped, with_symbol, decode, after_came}
use Rattle.taking.proofs.Taking.{take_cases}
use Rattle.taking.proofs.Decoding.{decode_then}
use Rattle.edits.specs.Pieces.{SignedPosition, straight, onwards}
use Rattle.splices.specs.Table62.{by_delta, same_rec_short, table62, next_mapping_pos, spliced_seg_mapping_pos}
use Rattle.splices.specs.Code.Taken.{symbols_moved, splice_turns}

-- what follows a turn, where only the state is looked at
abbrev on_state : {A : Type 0} → Came A → (State → OrRefused State) → OrRefused State
on_state (came a next) f = f next
on_state (stopped n) f = Err n

module _ (symbols counts : List ℕ) where
  -- one turn goes as far from one position as from another
  turn_alike : (p q : SignedPosition) (st : State) (f : State → OrRefused State)
      → on_state (decode symbols counts st (next_mapping_pos p)) f ≡ on_state (decode symbols counts st (next_mapping_pos q)) f
  unfolding next_mapping_pos same_rec_short table62 decode
  turn_alike p q st f =
      take_cases symbols counts st 0
      (λ t. on_state (with_symbol t (λ v next. decode symbols counts next (table62 p v))) f ≡ on_state (with_symbol t (λ v next. decode symbols counts next (table62 q v))) f)
      refl
      (λ there. by_code (symbol_of symbols st 0) (raised st 0))
    where
      short : (next : State) → on_state (decode symbols counts next (same_rec_short p)) f ≡ on_state (decode symbols counts next (same_rec_short q)) f
      short next =
          take_cases symbols counts next 1
          (λ t. on_state (with_symbol t (λ v m. decode symbols counts m (within16 v (sets (by_delta p v))))) f ≡ on_state (with_symbol t (λ v m. decode symbols counts m (within16 v (sets (by_delta q v))))) f)
          refl
          (λ there. by_test (ltb largest16 (symbol_of symbols next 1)) (λ h. rw h refl) (λ h. rw h refl))

      by_code : (code : ℕ) (next : State) → on_state (decode symbols counts next (table62 p code)) f ≡ on_state (decode symbols counts next (table62 q code)) f
      by_code code next =
          by_test (eqb code 0) (λ h. rw h (short next))
          (λ h. rw h refl)

  -- what comes of a turn and of what follows it, where only the state is looked at
  then_moved : {A B : Type 0} (m : Steps A) (g : A → Steps B) (st : State) (f : State → OrRefused State) → ((a : A) (next : State) → symbols_moved (decode symbols counts next (g a)) ≡ f next)
      → symbols_moved (decode symbols counts st (and_then m g)) ≡ on_state (decode symbols counts st m) f
  then_moved {A} {B} m g st f h = ap symbols_moved (decode_then symbols counts m g st) ∙ by (decode symbols counts st m)
    where
      by : (x : Came A) → symbols_moved (after_came x (λ a next. decode symbols counts next (g a))) ≡ on_state x f
      by (came a next) = h a next
      by (stopped n) = refl

  -- the positions come last, and move nothing
  kept_moved : {A B : Type 0} (m : Steps A) (g : A → B) (st : State) → symbols_moved (decode symbols counts st (and_then m (λ a. sets (g a)))) ≡ symbols_moved (decode symbols counts st m)
  unfolding decode
  kept_moved {A} {B} m g st = ap symbols_moved (decode_then symbols counts m (λ a. sets (g a)) st) ∙ by (decode symbols counts st m)
    where
      by : (x : Came A) → symbols_moved (after_came x (λ a next. decode symbols counts next (sets (g a)))) ≡ symbols_moved x
      by (came a next) = refl
      by (stopped n) = refl

  pub turns_moved : (position : SignedPosition) (lengths : List ℕ) (st : State)
      → symbols_moved (decode symbols counts st (spliced_seg_mapping_pos position lengths)) ≡ symbols_moved (decode symbols counts st (splice_turns (length lengths - 1)))
  unfolding spliced_seg_mapping_pos splice_turns decode
  turns_moved position [] st = refl
  turns_moved position (n ∷ []) st = refl
  turns_moved position (n ∷ m ∷ ns) st =
      let more : State → OrRefused State = λ next. symbols_moved (decode symbols counts next (splice_turns (length (m ∷ ns) - 1))) in
      let count : length (n ∷ m ∷ ns) - 1 ≡ suc (length (m ∷ ns) - 1) = omega arith in
      then_moved (next_mapping_pos (onwards n position)) (λ next. and_then (spliced_seg_mapping_pos next (m ∷ ns)) (λ rest. sets (position ∷ rest))) st more
      (λ p next. kept_moved (spliced_seg_mapping_pos p (m ∷ ns)) (λ rest. position ∷ rest) next ∙ turns_moved p (m ∷ ns) next)
      ∙ turn_alike (onwards n position) (straight 0) st more
      ∙ sym (ap (λ (k : ℕ). symbols_moved (decode symbols counts st (splice_turns k))) count ∙ then_moved (next_mapping_pos (straight 0)) (λ next. splice_turns (length (m ∷ ns) - 1)) st more (λ p next. refl))

  -- ---- a turn of the code's loop

  -- what so many turns come to, one of them first
  turn_then : (st : State) (k : ℕ) → symbols_moved (decode symbols counts st (splice_turns (suc k))) ≡ on_state (decode symbols counts st (next_mapping_pos (straight 0))) (λ next. symbols_moved (decode symbols counts next (splice_turns k)))
  unfolding splice_turns
  turn_then st k = then_moved (next_mapping_pos (straight 0)) (λ next. splice_turns k) st _ (λ p next. refl)

  -- refused within it
  pub splice_refused : (st : State) (k : ℕ) (r : OrRefused State) → ((end : SignedPosition) → r ≡ symbols_moved (decode symbols counts st (next_mapping_pos end))) → 0 < k
      → (n : Refusal) → r ≡ Err n → Err n ≡ symbols_moved (decode symbols counts st (splice_turns k))
  splice_refused st zero r q h n z = absurd (omega arith)
  splice_refused st (suc k) r q h n z = by (decode symbols counts st (next_mapping_pos (straight 0))) (sym z ∙ q (straight 0)) ∙ sym (turn_then st k)
    where
      by : (x : Came SignedPosition) → ◌≡◌ {A = OrRefused State} (Err n) (symbols_moved x) → ◌≡◌ {A = OrRefused State} (Err n) (on_state x (λ next. symbols_moved (decode symbols counts next (splice_turns k))))
      by (came a next) e = absurd (let w : ◌≡◌ {A = ℕ} 0 1 = cc in omega arith)
      by (stopped m) e = e

  -- or gone on with
  pub splice_gone : (st : State) (k : ℕ) (r : OrRefused State) → ((end : SignedPosition) → r ≡ symbols_moved (decode symbols counts st (next_mapping_pos end))) → 0 < k
      → (next : State) → r ≡ Ok next → symbols_moved (decode symbols counts next (splice_turns (k - 1))) ≡ symbols_moved (decode symbols counts st (splice_turns k))
  splice_gone st zero r q h next z = absurd (omega arith)
  splice_gone st (suc k) r q h next z =
      let one : suc k - 1 ≡ k = omega arith in
      rw one (by (decode symbols counts st (next_mapping_pos (straight 0))) (sym z ∙ q (straight 0)) ∙ sym (turn_then st k))
    where
      by : (x : Came SignedPosition) → ◌≡◌ {A = OrRefused State} (Ok next) (symbols_moved x)
          → symbols_moved (decode symbols counts next (splice_turns k)) ≡ on_state x (λ m. symbols_moved (decode symbols counts m (splice_turns k)))
      by (came a m) e = let is : next ≡ m = cc in rw is refl
      by (stopped m) e = absurd (let w : ◌≡◌ {A = ℕ} 0 1 = cc in omega arith)

  -- where no turn is left
  pub turns_done : (st : State) (k : ℕ) → k ≤ 0 → symbols_moved (decode symbols counts st (splice_turns k)) ≡ Ok st
  unfolding splice_turns decode
  turns_done st zero h = refl
  turns_done st (suc k) h = absurd (omega arith)
