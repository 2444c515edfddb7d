-- Each public function's promise admits one outcome: two outcomes that keep it are the same.
-- Assumes nothing.
use mathlib.Core.Path.{◌≡◌}
use Prim.Native.Nat.{ℕ}
use Rattle.std.specs.Prelude.{⊤}
use Rattle.refusal.specs.Answers.{OrRefused}
use Rattle.frame.proofs.Unique.{once}
use Rattle.unit.specs.Unit.{least_segments, unit_refusal}
use Rattle.unit.specs.declared.Unit.{Unit}

pub least_segments_once : (class : ℕ) {r r' : ℕ} → r ≡ least_segments class → r' ≡ least_segments class → r ≡ r'
least_segments_once class = once

pub refusal_once : (u : Unit) {r r' : OrRefused ⊤} → r ≡ unit_refusal u → r' ≡ unit_refusal u → r ≡ r'
refusal_once u = once
