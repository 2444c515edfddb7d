-- `ecigar::check::matches_len` meets its contract: the test on the way picks the case. Assumes nothing.
use native.Mathlib.Omega.{arith}
use Rattle.ecigar.proofs.PrintLaws.{length_counted}
use Rattle.ecigar.proofs.WalkLaws.{matches_none, matches_some}
use Rattle.ecigar.proofs.check.matches_len.Goals as goal

pub returns-then-n-eq0 : goal.returns-then-n-eq0
returns-then-n-eq0 c = (rw (matches_none _ c.if-n-eq0.true), omega arith)

pub returns : goal.returns
returns c = (rw (matches_some _ c.if-n-eq0.false, length_counted) c.count_len.ensures.0, c.count_len.ensures.1)
