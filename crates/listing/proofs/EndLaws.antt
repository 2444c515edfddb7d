-- Why a listing ends where it does: its last line is by the call that is refused, by the lines that run out, or, behind every record, by what is left over.
-- Assumes nothing.
use Prim.Native.Nat.{ℕ, zero, suc, ◌+◌, ◌<◌, ◌≤◌}
use native.Mathlib.Omega.{arith}
use mathlib.Core.Path.{◌≡◌, refl, ap}
use mathlib.Core.List.{List, [], ◌∷◌}
use lib.ListN.{length, get_or, drop}
use Rattle.refusal.specs.declared.Refusal.{Refusal}
use Rattle.refusal.specs.Numbers.{number_of, missing}
use Rattle.frame.proofs.LineLaws.{line_of_bytes}
use Rattle.state.specs.declared.State.{State}
use Rattle.state.specs.Listed.{Step, refused, accepted}
use Rattle.listing.specs.Record.{Setup, Accepted, Lawful}
use Rattle.listing.specs.Listing.{line05, last_line, records, state_behind}
use Rattle.listing.specs.Resuming.{last_from}
use Rattle.state.specs.State.{Shaped}

-- the last line behind i accepted records, of k, from the state `before` behind them
pub data LastBy (E : Setup) (k : ℕ) (ls : List (List ℕ)) (i : ℕ) (before : State) : List ℕ → Type 0 where
  by_call : (n : Refusal) → i < k → i < length ls → E.step before (get_or ls i []) ≡ refused n → LastBy E k ls i before (line05 before.number (number_of n))
  by_end : i < k → length ls ≡ i → LastBy E k ls i before (line05 before.number missing)
  by_rest : i ≡ k → k ≤ length ls → LastBy E k ls i before (last_line E before (drop k ls))

pub record Ended (E : Setup) (k : ℕ) (s : State) (ls : List (List ℕ)) (z : List ℕ) : Type 0 where
  pub count : ℕ
  pub lines : length (records E k s ls) ≡ suc count
  pub number : (state_behind E count s ls).number ≡ s.number + count
  pub last : LastBy E k ls count (state_behind E count s ls) (last_from z (records E k s ls))

-- a record more in front of them
later : {E : Setup} {k : ℕ} {ls : List (List ℕ)} {i : ℕ} {before : State} {z : List ℕ} (l : List ℕ) → LastBy E k ls i before z → LastBy E (suc k) (l ∷ ls) (suc i) before z
later l (by_call n h j e) = by_call n (omega arith) (omega arith) e
later l (by_end h e) = by_end (omega arith) (ap suc e)
later l (by_rest e h) = by_rest (ap suc e) (omega arith)

module _ {E : Setup} (w : Lawful E) where
  pub records_ended : (k : ℕ) (s : State) (ls : List (List ℕ)) (z : List ℕ) → Shaped s → Ended E k s ls z
  unfolding records last_from state_behind
  records_ended zero s ls z x = record { count = 0; lines = refl; number = omega arith; last = by_rest refl (omega arith) }
  records_ended (suc k) s [] z x = record { count = 0; lines = refl; number = omega arith; last = by_end (omega arith) refl }
  records_ended (suc k) s (l ∷ ls) z x = by (E.step s l) refl (λ next y. records_ended k next ls y)
    where
      by : (t : Step) → E.step s l ≡ t → ((next : State) (y : List ℕ) → Shaped next → Ended E k next ls y) → Ended E (suc k) s (l ∷ ls) z
      by (refused n) e go = record { count = 0; lines = rw e; number = omega arith; last = rw e (by_call n (omega arith) (omega arith) e) }
      by (accepted frame next) e go =
          let a : Accepted E s l frame next = w.acceptance s l frame next x e in
          let m = go next (line_of_bytes frame) a.indexes in
          record {
            count = suc m.count;
            lines = rw e (ap suc m.lines);
            number = rw e (omega (arith, m.number, a.number));
            last = rw e (later l m.last);
          }
