-- `ecigar::clip::clips_len` meets its contract: both sides are counted. Assumes nothing.
use Rattle.ecigar.specs.Ecigar.{clips_length}
use Rattle.ecigar.proofs.clip.clips_len.Goals as goal

pub returns : goal.returns
unfolding clips_length
returns c = rw (← c.clip_len-left.ensures.0, ← c.clip_len-right.ensures.0)
