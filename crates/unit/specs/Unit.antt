-- The unit's values (document 01, Lines: 01 unit) and refusal 3.
-- Assumes nothing.
use Rattle.std.specs.Prelude.{ℕ, cond, eqb, ltb, ⊤, Err}
use Rattle.refusal.specs.Answers.{OrRefused, no_refusal}
use Rattle.refusal.specs.declared.Refusal.TheVariants.{UnitOut}
use Rattle.unit.specs.declared.Unit.{Unit}
pub use Rattle.limits.specs.Limits.{most_segments}

-- the classes, as the unit line numbers them: 1 P
abbrev pub class_p : ℕ
class_p = 1

-- 2 N
abbrev pub class_n : ℕ
class_n = 2

-- 3 M
abbrev pub class_m : ℕ
class_m = 3

-- 4 I
abbrev pub class_i : ℕ
class_i = 4

-- 5 HM
abbrev pub class_hm : ℕ
class_hm = 5

-- 6 U
abbrev pub class_u : ℕ
class_u = 6

-- the alphabets are 0 and this
abbrev pub last_alphabet : ℕ
last_alphabet = 1

-- the largest value of 16 bits
abbrev pub largest16 : ℕ
largest16 = 65535

-- the largest sequence id, a u16
abbrev pub most_sequence : ℕ
most_sequence = largest16

-- the most records of a unit
abbrev pub most_records : ℕ
most_records = 1024

-- the most lent reference bases
abbrev pub most_reference : ℕ
most_reference = 32768

-- template segments are 1 or 2; HM needs 2
unfoldable pub least_segments : ℕ → ℕ
least_segments class = cond (eqb class class_hm) most_segments 1

-- each field within its values, and AU end not below AU start
unfoldable pub unit_refusal : Unit → OrRefused ⊤
unit_refusal u =
    cond (ltb u.class class_p) (Err UnitOut)
    (cond (ltb class_u u.class) (Err UnitOut)
    (cond (ltb last_alphabet u.alphabet) (Err UnitOut)
    (cond (ltb most_segments u.segments) (Err UnitOut)
    (cond (ltb u.segments (least_segments u.class)) (Err UnitOut)
    (cond (ltb u.end u.start) (Err UnitOut)
    (cond (ltb most_records u.records) (Err UnitOut)
    (cond (ltb most_sequence u.sequence) (Err UnitOut) no_refusal)))))))
