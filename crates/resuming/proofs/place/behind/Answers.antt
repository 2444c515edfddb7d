-- `resuming::place::behind` meets its contract: what the last line says picks the place. Assumes nothing.
use mathlib.Core.Path.{sym, ◌∙◌}
use Rattle.resuming.proofs.ToldLaws.{placed_told}
use Rattle.resuming.proofs.place.behind.Goals as goal

pub returns-in-GoOn : goal.returns-in-GoOn
returns-in-GoOn c = placed_told _ _ (sym c.in-GoOn.is ∙ c.last_line.ensures)

pub returns-in-Whole : goal.returns-in-Whole
returns-in-Whole c = placed_told _ _ (sym c.in-Whole.is ∙ c.last_line.ensures)

pub returns-in-Bad : goal.returns-in-Bad
returns-in-Bad c = placed_told _ _ (sym c.in-Bad.is ∙ c.last_line.ensures)
