-- `plan::lent::counts_out` meets its contract: whether any count is above its limit. Assumes nothing.
use mathlib.Core.Path.{◌∙◌}
use lib.Dec.{ltb}
use Rattle.std.proofs.Common.{rules, tests}
use Rattle.std.proofs.lemmas.Iterator.{YieldsList-from_slice}
use Rattle.std.proofs.lemmas.Iterator.Search.{any_from_yields_List}
use Rattle.unit.specs.Pairs.{most_symbols}
use Rattle.plan.proofs.LentLaws.{counts_any}
use Rattle.plan.proofs.lent.counts_out.Goals as goal

pub returns : goal.returns
returns c =
    any_from_yields_List (λ n. ltb most_symbols n) _ _ _ c.any.ensures.ran (YieldsList-from_slice c.args.counts.now cc) (λ x b q k. search (rules, tests))
    ∙ counts_any c.args.counts.now
