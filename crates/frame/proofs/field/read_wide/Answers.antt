-- `frame::field::read_wide` meets its contract. The loop's invariant: v is the number that the first j bytes stand for, and fits into as many. Assumes nothing.
use Rattle.std.proofs.Common.{◌≡◌, refl, ◌∙◌, arith, lit<}
use Rattle.frame.specs.Field.{big_at}
use Rattle.frame.proofs.FieldLaws.{field_short, field_value, big_more, big_room, room_more}
use Rattle.frame.proofs.field.read_wide.Goals as goal

pub returns-then-n-k : goal.returns-then-n-k
returns-then-n-k g c = (field_short _ _ _ (omega arith), tt)

pub returns-then-n-k-2 : goal.returns-then-n-k-2
returns-then-n-k-2 g c = (field_short _ _ _ (omega arith), tt)

pub loop-j-init : goal.loop-j-init
unfolding big_at
loop-j-init g c = (refl, lit< tt)

pub overflow_mul-v : goal.overflow_mul-v
overflow_mul-v g c = omega (arith, big_room _ c.loop-j.invariant.1 (omega arith))

pub overflow_add-v : goal.overflow_add-v
overflow_add-v g c = omega (arith, big_room _ c.loop-j.invariant.1 (omega arith))

pub loop-j-preserved : goal.loop-j-preserved
loop-j-preserved g c = (big_more _ _ _ _ _ c.loop-j.invariant.0 (c.from.ensures ∙ c.byte.ensures), room_more _ c.loop-j.invariant.1 (omega arith))

pub returns : goal.returns
returns g c =
    let e : c.loop-j.j ≡ c.args.k = omega arith in
    (field_value _ _ _ _ (omega arith) (rw e at c.loop-j.invariant.0), rw e at c.loop-j.invariant.1)
