-- `block::clips::within` meets its contract: by how many pieces the read has. Assumes nothing.
use mathlib.Core.Path.{◌∙◌}
use Rattle.block.specs.Clips.{clips_in}
use borrow.Author.Tests.{le-ltb, lt-ltb}
use Rattle.block.proofs.clips.within.Goals as goal

pub returns-then-splices-lt2 : goal.returns-then-splices-lt2
unfolding clips_in
returns-then-splices-lt2 c = c.within_read.ensures ∙ simp (lt-ltb _ _ c.if-splices-lt2.true)

pub returns : goal.returns
unfolding clips_in
returns c = c.within_pieces.ensures ∙ simp (le-ltb _ _ c.if-splices-lt2.false)
