-- `ecigar::check::closed_len` meets its contract: the tests on the way pick the case. Assumes nothing.
use native.Mathlib.Omega.{arith}
use Rattle.ecigar.proofs.PrintLaws.{length_counted}
use Rattle.ecigar.proofs.WalkLaws.{closed_insertion, closed_deletion, closed_none}
use Rattle.ecigar.proofs.check.closed_len.Goals as goal

pub returns-then-w-eq-INSERTION : goal.returns-then-w-eq-INSERTION
returns-then-w-eq-INSERTION c = (rw (closed_insertion c.args.w c.if-w-eq-INSERTION.true, length_counted) c.count_len.ensures.0, c.count_len.ensures.1)

pub returns-then-w-eq-DELETION : goal.returns-then-w-eq-DELETION
returns-then-w-eq-DELETION c = (rw (closed_deletion c.args.w c.if-w-eq-INSERTION.false c.if-w-eq-DELETION.true, length_counted) c.count_len-then-w-eq-DELETION.ensures.0, c.count_len-then-w-eq-DELETION.ensures.1)

pub returns : goal.returns
returns c = (rw (closed_none c.args.w c.if-w-eq-INSERTION.false c.if-w-eq-DELETION.false), omega arith)
