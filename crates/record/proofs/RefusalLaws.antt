-- The law of the record call's refusals: each is a number of document 01's table, 17 among them.
-- Assumes nothing.
use mathlib.Core.Path.{◌≡◌, refl}
use mathlib.Core.List.{List}
use Prim.Native.Nat.{ℕ, ◌*◌}
use lib.Dec.{ltb}
use lib.ListN.{length}
use Rattle.refusal.specs.Numbers.{number_of, InTable}
use Rattle.refusal.specs.declared.Refusal.{Refusal}
use Rattle.refusal.specs.declared.Refusal.TheVariants.{NoRoom}
use Rattle.refusal.proofs.RefusalLaws.{in_table}
use Rattle.frame.proofs.Tests.{one_of}
use Rattle.state.specs.Listed.{Step, refused, accepted}
use Rattle.unit.specs.declared.Unit.{Unit as UnitOf}
use Rattle.state.specs.declared.State.{State}
use Rattle.record.specs.Record.{step_of, with_room, record_of}

abbrev Numbered : Step → Type 0
Numbered (refused n) = InTable (number_of n)
Numbered (accepted frame next) = Unit

module _ (u : UnitOf) (reference symbols counts : List ℕ) (state : State) (line : List ℕ) (room : ℕ) where
  record_numbered : Numbered (record_of u reference symbols counts state line room)
  unfolding record_of
  record_numbered = by (step_of u reference symbols counts state line) refl
    where
      by : (x : Step) → step_of u reference symbols counts state line ≡ x → Numbered (with_room room x)
      by (refused n) e = in_table n
      by (accepted frame next) e = one_of Numbered (ltb (2 * length frame) room) _ _ tt (in_table NoRoom)

  pub record_refusal : (n : Refusal) → record_of u reference symbols counts state line room ≡ refused n → InTable (number_of n)
  record_refusal n e = rw e at record_numbered
