-- `splices::mapping::following_piece` meets its contract: the code picks the case. Assumes nothing.
use mathlib.Core.Path.{refl}
use native.Mathlib.Omega.{arith}
use Rattle.splices.specs.Located.{following}
use borrow.Author.Tests.{eq-eqb, ne_eqb}
use Rattle.splices.proofs.mapping.following_piece.Goals as goal

pub returns-then-symbol_at-eq0 : goal.returns-then-symbol_at-eq0
unfolding following
returns-then-symbol_at-eq0 c = (rw (← c.symbol_at.ensures.0, eq-eqb _ _ c.if-symbol_at-eq0.true, ← c.symbol_at-v.ensures.0) c.by_delta.ensures.0, c.by_delta.ensures.1)

pub returns : goal.returns
unfolding following
returns c = (rw (← c.symbol_at.ensures.0, ne_eqb _ _ c.if-symbol_at-eq0.false, ← c.symbol_at-2.ensures.0) refl, λ left n h. record { above = omega (arith, h.above, c.symbol_at-2.ensures.1); below = omega (arith, h.below); codes = omega (arith, h.codes); deltas = omega (arith, h.deltas); places = omega (arith, h.places) })
