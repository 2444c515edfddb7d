-- A unit within its values is what `unit_refusal` lets pass, and nothing else is.
-- Assumes nothing.
use mathlib.Core.Path.{◌≡◌}
use Prim.Native.Nat.{◌≤◌}
use borrow.Author.Tests.{le-ltb}
use Rattle.std.specs.Prelude.{⊤, Err}
use Rattle.refusal.specs.Answers.{OrRefused, no_refusal}
use Rattle.refusal.specs.declared.Refusal.TheVariants.{UnitOut}
use Rattle.frame.proofs.StepLaws.{past_refusal}
use Rattle.unit.specs.Unit.{class_p, class_u, last_alphabet, most_segments, most_records, most_sequence, least_segments, unit_refusal}
use Rattle.unit.specs.declared.Unit.{Unit}

-- what `unit_refusal` lets pass
pub record UnitValid (u : Unit) : Type 0 where
  pub class_least : class_p ≤ u.class
  pub class_most : u.class ≤ class_u
  pub alphabet : u.alphabet ≤ last_alphabet
  pub segments_most : u.segments ≤ most_segments
  pub segments_least : least_segments u.class ≤ u.segments
  pub order : u.start ≤ u.end
  pub records : u.records ≤ most_records
  pub sequence : u.sequence ≤ most_sequence

pub valid_is : (u : Unit) → unit_refusal u ≡ no_refusal → UnitValid u
unfolding unit_refusal
valid_is u e =
    let out : ◌≡◌ {A = OrRefused ⊤} (Err UnitOut) no_refusal → ⊥ = λ z. cc in
    let a = past_refusal _ out u.class class_p _ e in
    let b = past_refusal _ out class_u u.class _ a.1 in
    let d = past_refusal _ out last_alphabet u.alphabet _ b.1 in
    let f = past_refusal _ out most_segments u.segments _ d.1 in
    let g = past_refusal _ out u.segments (least_segments u.class) _ f.1 in
    let h = past_refusal _ out u.end u.start _ g.1 in
    let k = past_refusal _ out most_records u.records _ h.1 in
    let l = past_refusal _ out most_sequence u.sequence _ k.1 in
    record { class_least = a.0; class_most = b.0; alphabet = d.0; segments_most = f.0; segments_least = g.0; order = h.0; records = k.0; sequence = l.0 }

-- and back: each field within its values
pub valid_unit : (u : Unit) → class_p ≤ u.class → u.class ≤ class_u → u.alphabet ≤ last_alphabet → u.segments ≤ most_segments → least_segments u.class ≤ u.segments
    → u.start ≤ u.end → u.records ≤ most_records → u.sequence ≤ most_sequence → unit_refusal u ≡ no_refusal
unfolding unit_refusal
valid_unit u a b d e f g h i = simp (le-ltb _ _ a, le-ltb _ _ b, le-ltb _ _ d, le-ltb _ _ e, le-ltb _ _ f, le-ltb _ _ g, le-ltb _ _ h, le-ltb _ _ i)
