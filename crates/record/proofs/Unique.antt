-- The record call's promise admits one outcome: two outcomes that keep it are the same.
-- Assumes nothing.
use mathlib.Core.Path.{◌≡◌}
use mathlib.Core.List.{List}
use Prim.Native.Nat.{ℕ}
use lib.ListN.{length}
use Rattle.frame.proofs.Unique.{once}
use Rattle.unit.specs.declared.Unit.{Unit}
use Rattle.state.specs.declared.State.{State}
use Rattle.record.specs.Record.{record_of, recorded, output}
use Rattle.record.specs.declared.Recorded.{Recorded}

-- the answer with the state after it, and the lent output
module _ (u : Unit) (reference symbols counts : List ℕ) (state : State) (line out : List ℕ) where
  pub record_once : {r r' : Recorded} → r ≡ recorded state (record_of u reference symbols counts state line (length out)) → r' ≡ recorded state (record_of u reference symbols counts state line (length out)) → r ≡ r'
  record_once p q = once p q

  pub output_once : {e e' : List ℕ} → e ≡ output out (record_of u reference symbols counts state line (length out)) → e' ≡ output out (record_of u reference symbols counts state line (length out)) → e ≡ e'
  output_once p q = once p q
