-- `ecigar::check::finish` meets its contract: the last run and the last match are counted. Assumes nothing.
use lib.ListN.{length-append}
use Rattle.ecigar.proofs.WalkLaws.{ending_both}
use Rattle.ecigar.specs.Code.Tally.{after_last}
use Rattle.ecigar.proofs.check.finish.Goals as goal

pub returns : goal.returns
unfolding after_last
returns c = simp (ending_both, length-append, c.closed_len.ensures.0, c.matches_len.ensures.0)
