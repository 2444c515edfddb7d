-- `resuming::place::place` meets its contract: the tests on the way pick the case. Assumes nothing.
use mathlib.Core.Path.{◌≡◌}
use mathlib.Core.Bool.{true, false}
use borrow.Author.Tests.{eq-eqb, ne_eqb}
use Rattle.std.proofs.Common.{rules}
use Rattle.frame.specs.Same.{same_list}
use Rattle.listing.specs.Resuming.{edges_from}
use Rattle.state.proofs.StateLaws.{same_pointwise}
use Rattle.resuming.specs.Last.{placed_of}
use Rattle.resuming.proofs.place.place.Goals as goal

pub returns-then-first-eq0 : goal.returns-then-first-eq0
unfolding edges_from placed_of
returns-then-first-eq0 c = simp (eq-eqb _ _ c.if-first-eq0.true)

pub returns-then-ne : goal.returns-then-ne
unfolding edges_from placed_of
returns-then-ne c =
    let other : same_list c.args.first.now c.args.listed.now ≡ false = search (rules, same_pointwise) in
    simp (ne_eqb _ _ c.if-first-eq0.false, other)

pub returns-then-eq : goal.returns-then-eq
unfolding edges_from placed_of
returns-then-eq c =
    let same : same_list c.args.first.now c.args.listed.now ≡ true = search (rules, same_pointwise) in
    let last : same_list c.args.last.now c.args.listed.now ≡ true = search (rules, same_pointwise) in
    simp (ne_eqb _ _ c.if-first-eq0.false, same, last)

pub returns : goal.returns
unfolding edges_from placed_of
returns c =
    let same : same_list c.args.first.now c.args.listed.now ≡ true = search (rules, same_pointwise) in
    let last : same_list c.args.last.now c.args.listed.now ≡ false = search (rules, same_pointwise) in
    simp (ne_eqb _ _ c.if-first-eq0.false, same, last) c.behind.ensures
