-- `lampbuckle::call::lampbuckle_record` meets its contract, by the test of the shape and by what the record call answered. Assumes nothing.
use native.Mathlib.Omega.{arith}
use mathlib.Core.Path.{◌∙◌}
use Rattle.state.proofs.NumberLaws.{state_into_lem}
use Rattle.lampbuckle.specs.Call.{record_call}
use Rattle.lampbuckle.proofs.AnswerLaws.{told}
use Rattle.lampbuckle.proofs.CallLaws.{record_refused, record_listed, record_counted, record_nine}
use borrow.Author.Tests.{ne_eqb}
use Rattle.lampbuckle.proofs.call.lampbuckle_record.Goals as goal

pub returns-then-unit-ne-UNIT : goal.returns-then-unit-ne-UNIT
unfolding record_call
returns-then-unit-ne-UNIT c = rw (ne_eqb _ _ c.if-unit-ne-UNIT.true, told c.refused.type_inv c.refused.ensures)

pub counted-requires : goal.counted-requires
counted-requires c =
    record_counted c.args.unit.now _ _ _ c.args.state.now _ c.args.out.now c.read_unit-u.ensures c.read-before.ensures (c.record-r.ensures.value, c.record-r.ensures.out_after) c.in-Ok.is (omega (arith))

pub returns-in-Err : goal.returns-in-Err
returns-in-Err c =
    record_refused _ _ _ _ _ _ _ c.read_unit-u.ensures c.read-before.ensures (c.record-r.ensures.value, c.record-r.ensures.out_after) c.if-unit-ne-UNIT.false c.in-Err.is (told c.refused-in-Err.type_inv c.refused-in-Err.ensures)

pub returns-in-Ok : goal.returns-in-Ok
returns-in-Ok c =
    let a = c.args in
    let nine = record_nine a.unit.now _ _ _ a.state.now _ a.out.now c.read_unit-u.ensures c.read-before.ensures (c.record-r.ensures.value, c.record-r.ensures.out_after) c.in-Ok.is in
    record_listed _ _ _ _ _ _ _ c.read_unit-u.ensures c.read-before.ensures (c.record-r.ensures.value, c.record-r.ensures.out_after) c.if-unit-ne-UNIT.false c.in-Ok.is (c.lay.ensures ∙ state_into_lem _ _ nine) (told c.counted.type_inv c.counted.ensures)
