-- The laws of a state as numbers: what was laid is read back as the state, and how they are read and laid.
-- Assumes nothing.
use Prim.Native.Nat.{ℕ, suc, ◌-◌}
use native.Mathlib.Omega.{arith}
use mathlib.Core.Path.{◌≡◌, refl, ap}
use mathlib.Core.List.{List, [], ◌∷◌, append-nil}
use lib.Dec.{eqb}
use lib.ListN.{length, get_or, drop, set, length-drop, drop_of_length-le}
use borrow.Author.Tests.{eq-eqb, ne_eqb, eqb-true}
use borrow.Rule.Slice.PartMut.{put_mid}
use Rattle.frame.proofs.HexLaws.{by_test}
use Rattle.state.specs.State.{index_count, Shaped}
use Rattle.state.specs.Numbers.{state_length, state_numbers, no_state, state_of, state_into}
use Rattle.state.specs.declared.State.{State}

-- ---- there and back

-- a state that has all its indexes
pub state_again : (s : State) → Shaped s → state_of (state_numbers s) ≡ s
unfolding state_of
state_again s e = rw (eq-eqb (suc (length s.index)) state_length (ap suc e))

-- as every state has that is lent
pub length_state : (numbers : List ℕ) → length (state_of numbers).index ≡ index_count
unfolding state_of
length_state numbers =
    by_test (eqb (length numbers) state_length)
    (λ t. rw t (let q = length-drop 1 numbers in omega (arith, q, eqb-true (length numbers) state_length t)))
    (λ t. rw t refl)

-- laid into as many numbers as a state is
pub state_into_lem : (n : List ℕ) (s : State) → length n ≡ state_length → state_into n s ≡ state_numbers s
unfolding state_into
state_into_lem n s e = rw (eq-eqb _ _ e)

-- ---- numbers of another shape

pub read_misshapen : (n : List ℕ) {s : State} → (length n ≡ state_length → ⊥) → s ≡ no_state → s ≡ state_of n
unfolding state_of
read_misshapen n h e = rw (ne_eqb _ _ h) e

pub lay_misshapen : (n : List ℕ) (s : State) → (length n ≡ state_length → ⊥) → n ≡ state_into n s
unfolding state_into
lay_misshapen n s h = rw (ne_eqb _ _ h)

-- ---- read and laid at once

-- all indexes stand behind the number
pub read_copied : (n : List ℕ) → length n ≡ state_length → {index : List ℕ} → index ≡ drop 1 n → record { number = get_or n 0 0; index = index } ≡ state_of n
unfolding state_of
read_copied n shape e = rw (eq-eqb _ _ shape, e)

pub lay_copied : (n : List ℕ) (s : State) → length n ≡ state_length → {ys : List ℕ} {k : ℕ} → ys ≡ s.index → k ≡ length (set n 0 s.number) - 1 → put_mid 1 k (set n 0 s.number) ys ≡ state_into n s
unfolding state_into
lay_copied [] s shape e h = absurd (omega arith)
lay_copied (x ∷ n) s shape {ys} {k} e h =
    let size : k ≡ length n = omega arith in
    rw (eq-eqb (length (x ∷ n)) state_length shape, e, size, drop_of_length-le n {i = length n} (omega arith), append-nil)
