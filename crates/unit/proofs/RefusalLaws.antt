-- The law of a unit's refusal: nothing, or one of the table but 17.
-- Assumes nothing.
use lib.Dec.{ltb}
use Rattle.refusal.specs.declared.Refusal.TheVariants.{UnitOut}
use Rattle.refusal.proofs.RefusalLaws.{EarlyAnswer, early}
use Rattle.frame.proofs.Tests.{one_of}
use Rattle.unit.specs.Unit.{class_p, class_u, last_alphabet, most_segments, least_segments, most_records, most_sequence, unit_refusal}
use Rattle.unit.specs.declared.Unit.{Unit}

pub unit_early : (u : Unit) → EarlyAnswer (unit_refusal u)
unfolding unit_refusal
unit_early u =
    one_of EarlyAnswer (ltb u.class class_p) _ _ (early UnitOut tt)
    (one_of EarlyAnswer (ltb class_u u.class) _ _ (early UnitOut tt)
    (one_of EarlyAnswer (ltb last_alphabet u.alphabet) _ _ (early UnitOut tt)
    (one_of EarlyAnswer (ltb most_segments u.segments) _ _ (early UnitOut tt)
    (one_of EarlyAnswer (ltb u.segments (least_segments u.class)) _ _ (early UnitOut tt)
    (one_of EarlyAnswer (ltb u.end u.start) _ _ (early UnitOut tt)
    (one_of EarlyAnswer (ltb most_records u.records) _ _ (early UnitOut tt)
    (one_of EarlyAnswer (ltb most_sequence u.sequence) _ _ (early UnitOut tt) tt)))))))
