-- `frame::line::window` meets its contract, `window_min`. Assumes nothing.
use Rattle.std.proofs.Common.{◌∙◌}
use Rattle.frame.proofs.NextLaws.{window_min}
use Rattle.frame.proofs.line.window.Goals as goal

pub returns : goal.returns
returns c = c.min.ensures ∙ window_min _
