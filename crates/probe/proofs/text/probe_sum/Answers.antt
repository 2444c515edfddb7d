-- `probe::text::probe_sum` meets its contract. The loop's invariant: the first i fields are summed. Assumes nothing.
use Rattle.std.proofs.Common.{◌≡◌, refl, ap, ◌∙◌, arith}
use Rattle.probe.specs.Text.{value_of, sum_to}
use Rattle.probe.proofs.TextLaws.{sum_more}
use Rattle.probe.proofs.text.probe_sum.Goals as goal

pub loop-i-init : goal.loop-i-init
unfolding sum_to
loop-i-init c = refl

pub overflow_mul-at : goal.overflow_mul-at
overflow_mul-at c = omega arith

pub loop-i-preserved : goal.loop-i-preserved
loop-i-preserved c = sum_more _ _ c.loop-i.invariant (c.value-v.ensures ∙ ap value_of c.read_u16.ensures.0)

pub returns : goal.returns
returns c = let e : c.loop-i.i ≡ c.args.fields = omega arith in rw (← e) c.loop-i.invariant
