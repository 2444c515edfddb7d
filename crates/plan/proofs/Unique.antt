-- Each public promise admits one outcome: two answers that meet it are the same.
-- Assumes nothing.
use mathlib.Core.Path.{◌≡◌}
use mathlib.Core.List.{List}
use Prim.Native.Nat.{ℕ}
use lib.ListN.{length}
use Rattle.frame.proofs.Unique.{once}
use Rattle.state.specs.declared.State.{State}
use Rattle.unit.specs.declared.Unit.{Unit}
use Rattle.plan.specs.Lent.{lent_refusal}
use Rattle.plan.specs.Plan.{from_kind}
use Rattle.std.specs.Prelude.{⊤}
use Rattle.refusal.specs.Answers.{OrRefused}
use Rattle.plan.specs.declared.read.Plan.{Plan}

pub refusal_of_once : (u : Unit) (reference symbols counts : List ℕ) (state : State) {x y : OrRefused ⊤} → x ≡ lent_refusal u (length reference) (length symbols) counts state → y ≡ lent_refusal u (length reference) (length symbols) counts state → x ≡ y
refusal_of_once u reference symbols counts state p q = once p q

pub read_once : (u : Unit) (reference symbols counts : List ℕ) (state : State) (frame : List ℕ) {x y : OrRefused (Plan × State)} → x ≡ from_kind u reference symbols counts state frame → y ≡ from_kind u reference symbols counts state frame → x ≡ y
read_once u reference symbols counts state frame p q = once p q
