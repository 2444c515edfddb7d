-- `ecigar::walk::advance` meets its contract: a run goes on or begins. Assumes nothing.
use mathlib.Core.Path.{sym, ◌∙◌}
use Rattle.ecigar.specs.Ecigar.{past}
use Rattle.ecigar.proofs.walk.advance.Goals as goal

pub returns-then-joins : goal.returns-then-joins
unfolding past
returns-then-joins c = simp (sym c.joins.ensures ∙ c.if-joins.true, c.next_offset-next.ensures)

pub returns : goal.returns
unfolding past
returns c = simp (sym c.joins.ensures ∙ c.if-joins.false, c.next_offset-next.ensures)
