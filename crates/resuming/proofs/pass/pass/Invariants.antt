-- `resuming::pass::pass` meets its contract. The loop's invariant, `PassTurn`: what is left, from here, comes to the answer of the whole piece. Assumes nothing.
use Rattle.resuming.specs.Pass.{pass_over}
use Rattle.resuming.proofs.PassLaws.{PassTurn}
use Rattle.resuming.proofs.pass.pass.Given as goal

abbrev pub invariant-loop-i : goal.invariant-loop-i
invariant-loop-i l = PassTurn l.piece (pass_over l.want l.piece) l.i l.left
