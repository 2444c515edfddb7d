-- `resuming::last::last_line` meets its contract: a malformed line says nothing, and any other what its frame says. Assumes nothing.
use mathlib.Core.Path.{sym, ap, ◌∙◌}
use Rattle.frame.proofs.LineLaws.{frame_is_line}
use Rattle.state.specs.Listed.{most_listed}
use Rattle.resuming.specs.Last.{said_of}
use Rattle.listing.proofs.LastLaws.{last_malformed, last_frame}
use Rattle.resuming.proofs.last.last_line.Goals as goal

pub frame_last-requires : goal.frame_last-requires
frame_last-requires c = (frame_is_line most_listed _ _ (sym c.line_within.ensures ∙ c.in-Ok.is)).count

pub returns-in-Ok : goal.returns-in-Ok
returns-in-Ok c =
    let a = c.args in
    c.frame_last.ensures ∙ ap said_of (last_frame a.count a.counts.now a.line.now _ (sym c.line_within.ensures ∙ c.in-Ok.is))

pub returns-in-Err : goal.returns-in-Err
unfolding said_of
returns-in-Err c = let a = c.args in ap said_of (last_malformed a.count a.counts.now a.line.now _ (sym c.line_within.ensures ∙ c.in-Err.is))
