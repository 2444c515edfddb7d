-- `state::numbers::read` meets its contract: the indexes are the numbers behind the first. Assumes nothing.
use native.Mathlib.Omega.{arith}
use mathlib.Core.Path.{◌∙◌}
use Rattle.std.proofs.lemmas.Slice.{between_to_end}
use Rattle.state.proofs.NumberLaws.{read_copied, read_misshapen}
use Rattle.state.proofs.numbers.read.Goals as goal

pub returns-then-n-ne-STATE : goal.returns-then-n-ne-STATE
returns-then-n-ne-STATE c = read_misshapen _ c.if-n-ne-STATE.true c.no_state.ensures

pub returns : goal.returns
returns c = read_copied _ c.if-n-ne-STATE.false (c.copy_from_slice.ensures.after ∙ between_to_end c.args.n.now 1 _ (omega arith))
