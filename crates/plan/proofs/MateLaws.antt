-- The laws of an accepted record's mate: its position has 32 bits where the AU end and the symbols have. By a delta it stands inside the unit, as the record's second segment; any other is a symbol.
-- Assumes nothing.
use mathlib.Core.Path.{◌≡◌, refl}
use mathlib.Core.Logic.{inl, inr}
use mathlib.Core.List.{List}
use Prim.Native.Nat.{ℕ, ◌+◌, ◌^◌, ◌<◌, ◌≤◌}
use native.Mathlib.Omega.{arith}
use lib.Dec.{lit<}
use lib.ListN.{get_or}
use Rattle.limits.specs.Limits.{record_fields}
use Rattle.frame.specs.Hex.{unhex}
use Rattle.unit.specs.Unit.{class_hm, class_u, most_segments}
use Rattle.unit.specs.declared.Unit.{Unit as UnitOf}
use Rattle.state.specs.declared.State.{State}
use Rattle.unit.proofs.ValidLaws.{UnitValid}
use Rattle.pairing.specs.Table60.{mapping_pos}
use Rattle.pairing.specs.declared.Mate.{Mate}
use Rattle.pairing.specs.declared.Mate.TheVariants.{Unpaired, Near, Far}
use Rattle.pairing.proofs.Cases.{MateWithin}
use Rattle.pairing.proofs.Laws.{link_within, link_alone}
use Rattle.plan.proofs.PlanLaws.{second_inside}
use Rattle.pairing.proofs.MateLaws.{link_together}
use Rattle.plan.specs.declared.read.Plan.{Plan}
use Rattle.plan.specs.Said.{PlanTaken}

-- ---- the mate's position

module _ (u : UnitOf) (reference symbols counts : List ℕ) (state : State) (line : List ℕ) (p : Plan) (moved : State) where
  -- a record with an aligned mate is of no class U or HM
  aligned_class : UnitValid u → PlanTaken u reference symbols counts state line p moved → (p.link.mate ≡ Unpaired → ⊥) → u.class < class_hm
  aligned_class valid taken h =
      let not-u : u.class ≡ class_u → ⊥ = λ e. h (link_alone u symbols counts state (inl e) p.link taken.paired taken.linked) in
      let not-hm : u.class ≡ class_hm → ⊥ = λ e. h (link_alone u symbols counts state (inr e) p.link taken.paired taken.linked) in
      omega (arith, valid.class_most, not-u, not-hm)

  -- a mate at a delta is the second segment, and stands inside the unit
  near_inside : UnitValid u → PlanTaken u reference symbols counts state line p moved → (delta : ℕ) → p.link.mate ≡ Near delta → p.pos + delta ≤ u.end
  near_inside valid taken delta e =
      let two : p.link.segments ≡ most_segments = rw e at (link_together u symbols counts state p.link taken.paired taken.linked) in
      let class : u.class < class_hm = aligned_class valid taken (λ z. let y : ◌≡◌ {A = ℕ} 0 1 = cc in omega arith) in
      rw e at (second_inside u reference symbols counts (unhex line) record_fields _ p moved taken.blocks (omega arith) class).1

  pub mate_fits : UnitValid u → u.end < 2 ^ 32 → ((at : ℕ) → get_or symbols at 0 < 2 ^ 32) → PlanTaken u reference symbols counts state line p moved → mapping_pos p.pos p.link.mate < 2 ^ 32
  mate_fits valid end every taken = by p.link.mate refl (link_within u symbols counts state (2 ^ 32) valid.sequence every p.link taken.paired taken.linked).mate
    where
      by : (m : Mate) → p.link.mate ≡ m → MateWithin (2 ^ 32) m → mapping_pos p.pos m < 2 ^ 32
      by Unpaired e w = lit< tt
      by (Near delta) e w = omega (arith, end, near_inside valid taken delta e)
      by (Far sequence position) e w = w.1
