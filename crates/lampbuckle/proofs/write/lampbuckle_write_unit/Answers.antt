-- `lampbuckle::write::lampbuckle_write_unit` meets its contract, by the tests of the unit. Assumes nothing.
use native.Mathlib.Omega.{arith}
use Rattle.lampbuckle.specs.Numbers.{unit_numbers_refusal}
use Rattle.lampbuckle.specs.Write.{unit_written}
use Rattle.lampbuckle.proofs.AnswerLaws.{told}
use Rattle.lampbuckle.proofs.WriteLaws.{line_counted, unit_written_refused, unit_written_lem}
use borrow.Author.Tests.{ne_eqb}
use borrow.Author.Rules.{rules}
use Rattle.lampbuckle.proofs.write.lampbuckle_write_unit.Goals as goal

pub returns-then-unit-ne-UNIT : goal.returns-then-unit-ne-UNIT
unfolding unit_written unit_numbers_refusal
returns-then-unit-ne-UNIT c = rw (ne_eqb _ _ c.if-unit-ne-UNIT.true, told c.refused.type_inv c.refused.ensures)

pub returns-in-Err : goal.returns-in-Err
returns-in-Err c = unit_written_refused _ _ c.if-unit-ne-UNIT.false c.read_unit-u.ensures c.check.ensures c.in-Err.is (told c.refused-in-Err.type_inv c.refused-in-Err.ensures)

pub answered-requires : goal.answered-requires
answered-requires c = line_counted _ _ (c.write.ensures.value, c.write.ensures.out_after) (omega arith)

pub returns : goal.returns
returns c =
    unit_written_lem _ _ c.if-unit-ne-UNIT.false c.read_unit-u.ensures c.check.ensures (search rules) (c.write.ensures.value, c.write.ensures.out_after) (told c.answered.type_inv c.answered.ensures)
