-- `ecigar::check::take_edit` meets its contract: each field is what its call answers. Assumes nothing.
use Rattle.ecigar.specs.Code.Tally.{tallied}
use Rattle.ecigar.proofs.check.take_edit.Goals as goal

pub returns : goal.returns
unfolding tallied
returns c = simp (c.advance-next.ensures, c.text_by-added.ensures.0, c.taken_by-took.ensures.0)
