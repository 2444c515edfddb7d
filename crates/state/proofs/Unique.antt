-- Each public function's promise admits one outcome: two outcomes that keep it are the same.
-- Assumes nothing.
use mathlib.Core.Path.{◌≡◌}
use mathlib.Core.Bool.{Bool}
use mathlib.Core.List.{List}
use Prim.Native.Nat.{ℕ}
use Rattle.frame.specs.Hex.{unhex}
use Rattle.frame.proofs.Unique.{once}
use Rattle.state.specs.State.{fresh_state, within, all_taken}
use Rattle.state.specs.Listed.{listed_head, state_back}
use Rattle.state.specs.Numbers.{state_of, state_into}
use Rattle.std.specs.Prelude.{Option}
use Rattle.state.specs.declared.State.{State}

pub fresh_once : {r r' : State} → r ≡ fresh_state → r' ≡ fresh_state → r ≡ r'
fresh_once = once

pub within_once : (s : State) (counts : List ℕ) {r r' : Bool} → r ≡ within s counts → r' ≡ within s counts → r ≡ r'
within_once s counts = once

pub all_taken_once : (s : State) (counts : List ℕ) {r r' : Bool} → r ≡ all_taken s counts → r' ≡ all_taken s counts → r ≡ r'
all_taken_once s counts = once

pub head_bytes_once : (number : ℕ) (next : State) {r r' : List ℕ} → r ≡ listed_head number next → r' ≡ listed_head number next → r ≡ r'
head_bytes_once number next = once

pub behind_once : (line : List ℕ) (count : ℕ) (counts : List ℕ) {r r' : Option State} → r ≡ state_back count counts (unhex line) → r' ≡ state_back count counts (unhex line) → r ≡ r'
behind_once line count counts = once

pub state_read_once : (numbers : List ℕ) {r r' : State} → r ≡ state_of numbers → r' ≡ state_of numbers → r ≡ r'
state_read_once numbers = once

pub state_laid_once : (numbers : List ℕ) (s : State) {e e' : List ℕ} → e ≡ state_into numbers s → e' ≡ state_into numbers s → e ≡ e'
state_laid_once numbers s = once
