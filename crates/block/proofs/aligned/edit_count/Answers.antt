-- `block::aligned::edit_count` meets its contract: by the class. Assumes nothing.
use Rattle.frame.proofs.StepLaws.{steps}
use Rattle.block.specs.Code.Flow.{edit_count}
use Rattle.block.proofs.aligned.edit_count.Goals as goal

pub returns-then-class-eq-P : goal.returns-then-class-eq-P
unfolding edit_count
returns-then-class-eq-P c = search steps

pub returns : goal.returns
unfolding edit_count
returns c = search steps
