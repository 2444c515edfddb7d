-- `resuming::pass::pass` meets its contract. The loop's invariant, `PassTurn`: what is left, from here, comes to the answer of the whole piece. Assumes nothing.
use mathlib.Core.Path.{sym}
use Rattle.resuming.proofs.PassLaws.{pass_none, pass_whole, pass_last, pass_line, pass_other}
use Rattle.resuming.proofs.pass.pass.Goals as goal
use Rattle.resuming.proofs.pass.pass.Goals.{then-b-eq-END+else-left-eq0, else-b-eq-END}

pub returns-then-want-eq0 : goal.returns-then-want-eq0
returns-then-want-eq0 c = rw c.if-want-eq0.true (sym (pass_none _))

pub returns-then-left-eq0 : goal.returns-then-left-eq0
returns-then-left-eq0 c = pass_last c.loop-i.invariant c.loop-i-test.true c.if-b-eq-END.true c.if-left-eq0.true

pub loop-i-preserved : goal.loop-i-preserved
loop-i-preserved c =
    elim c.if-b-eq-END.branch [
      | then-b-eq-END+else-left-eq0 w ↦ rw w.left-is (pass_line c.loop-i.invariant c.loop-i-test.true w.if-b-eq-END.true w.if-left-eq0.false)
      | else-b-eq-END w ↦ rw w.left-is (pass_other c.loop-i.invariant c.loop-i-test.true w.if-b-eq-END.false)
    ]

pub returns : goal.returns
returns c = pass_whole c.loop-i.invariant c.loop-i-test.false
