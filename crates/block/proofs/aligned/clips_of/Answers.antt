-- `block::aligned::clips_of` meets its contract: by the class. Assumes nothing.
use Rattle.frame.proofs.StepLaws.{steps}
use Rattle.block.specs.Code.Flow.{clips_by}
use Rattle.block.proofs.aligned.clips_of.Goals as goal

pub returns-then-class-lt-I : goal.returns-then-class-lt-I
unfolding clips_by
returns-then-class-lt-I c = rw (← c.none.ensures) (search steps)

pub returns : goal.returns
unfolding clips_by
returns c = search steps
