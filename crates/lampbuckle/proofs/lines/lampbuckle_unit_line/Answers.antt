-- `lampbuckle::lines::lampbuckle_unit_line` meets its contract, by the test of the shape and by what the reader answered. Assumes nothing.
use Rattle.lampbuckle.proofs.LineLaws.{unit_call_refused, unit_call_read}
use Rattle.lampbuckle.specs.Lines.{unit_call}
use Rattle.lampbuckle.proofs.AnswerLaws.{told}
use borrow.Author.Tests.{ne_eqb}
use Rattle.lampbuckle.proofs.lines.lampbuckle_unit_line.Goals as goal

pub returns-then-unit-ne-UNIT : goal.returns-then-unit-ne-UNIT
unfolding unit_call
returns-then-unit-ne-UNIT c = rw (ne_eqb _ _ c.if-unit-ne-UNIT.true, told c.refused.type_inv c.refused.ensures)

pub returns-in-Err : goal.returns-in-Err
returns-in-Err c = unit_call_refused _ _ c.if-unit-ne-UNIT.false c.read.ensures c.in-Err.is (told c.refused-in-Err.type_inv c.refused-in-Err.ensures)

pub returns-in-Ok : goal.returns-in-Ok
returns-in-Ok c =
    unit_call_read _ _ c.if-unit-ne-UNIT.false c.read.ensures c.in-Ok.is c.lay_unit.ensures (told c.counted.type_inv c.counted.ensures)
