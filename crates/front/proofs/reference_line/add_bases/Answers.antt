-- `front::reference_line::add_bases` meets its contract: the tests on the way pick the case. Assumes nothing.
use Rattle.front.specs.ReferenceLine.{added_bases}
use Prim.Native.Nat.{◌+◌}
use native.Mathlib.Omega.{arith}
use borrow.Author.Tests.{lt-ltb, le-ltb}
use Rattle.unit.specs.Unit.{most_reference}
use Rattle.frame.proofs.StepLaws.{steps}
use Rattle.front.proofs.reference_line.add_bases.Goals as goal

pub returns-then-n-lt1 : goal.returns-then-n-lt1
unfolding added_bases
returns-then-n-lt1 c = search steps depth 7 fits 5000

pub returns-then-n-gt-BASES : goal.returns-then-n-gt-BASES
unfolding added_bases
returns-then-n-gt-BASES c = search steps depth 7 fits 5000

pub returns-then-places-used : goal.returns-then-places-used
unfolding added_bases
returns-then-places-used c = search steps depth 7 fits 5000

pub returns-then-used-gt-REFERENCE : goal.returns-then-used-gt-REFERENCE
unfolding added_bases
returns-then-used-gt-REFERENCE c =
    let a = c.args in
    simp (
      le-ltb _ _ c.if-n-lt1.false,
      le-ltb _ _ c.if-n-gt-BASES.false,
      le-ltb _ _ c.if-places-used.false,
      lt-ltb most_reference (a.used + a.n) (omega arith),
    )

pub returns-then-all-gt-REFERENCE : goal.returns-then-all-gt-REFERENCE
unfolding added_bases
returns-then-all-gt-REFERENCE c = search steps depth 7 fits 5000

pub returns-then-places-all : goal.returns-then-places-all
unfolding added_bases
returns-then-places-all c = search steps depth 7 fits 5000

pub returns : goal.returns
unfolding added_bases
returns c = search steps depth 7 fits 5000
