-- The public promise admits one outcome: two answers that meet it are the same.
-- Assumes nothing.
use mathlib.Core.Path.{◌≡◌}
use mathlib.Core.List.{List}
use Prim.Native.Nat.{ℕ}
use Rattle.frame.proofs.Unique.{once}
use Rattle.state.specs.declared.State.{State}
use Rattle.taking.specs.Take.{take_of, narrow_of}
use Rattle.refusal.specs.Answers.{OrRefused}

pub take_once : (symbols counts : List ℕ) (st : State) (s : ℕ) {x y : OrRefused (ℕ × State)} → x ≡ take_of symbols counts st s → y ≡ take_of symbols counts st s → x ≡ y
take_once symbols counts st s p q = once p q

pub take_narrow_once : (symbols counts : List ℕ) (st : State) (s : ℕ) {x y : OrRefused (ℕ × State)} → x ≡ narrow_of symbols counts st s → y ≡ narrow_of symbols counts st s → x ≡ y
take_narrow_once symbols counts st s p q = once p q
