-- `splices::mapping::by_delta` meets its contract: the low bit is the sign. Assumes nothing.
use Rattle.splices.specs.Table62.{by_delta}
use borrow.Author.Tests.{eq-eqb, ne_eqb}
use native.Mathlib.Omega.{arith}
use Rattle.splices.proofs.mapping.by_delta.Goals as goal

pub returns-then-v-eq1 : goal.returns-then-v-eq1
unfolding by_delta
returns-then-v-eq1 c = (simp (eq-eqb _ 1 c.if-v-eq1.true), λ left n h. record { above = omega (arith, h.above); below = omega (arith, h.below); codes = omega (arith, h.codes); deltas = omega (arith, h.deltas); places = omega (arith, h.places) })

pub returns : goal.returns
unfolding by_delta
returns c = (simp (ne_eqb _ 1 c.if-v-eq1.false), λ left n h. record { above = omega (arith, h.above); below = omega (arith, h.below); codes = omega (arith, h.codes); deltas = omega (arith, h.deltas); places = omega (arith, h.places) })
