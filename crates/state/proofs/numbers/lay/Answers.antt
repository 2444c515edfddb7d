-- `state::numbers::lay` meets its contract: the indexes are laid behind the number. Assumes nothing.
use mathlib.Core.Path.{refl}
use Rattle.state.proofs.NumberLaws.{lay_copied, lay_misshapen}
use Rattle.state.proofs.numbers.lay.Goals as goal

pub returns-then-n-ne-STATE : goal.returns-then-n-ne-STATE
returns-then-n-ne-STATE c = lay_misshapen _ _ c.if-n-ne-STATE.true

pub returns : goal.returns
returns c = lay_copied c.args.n.now c.args.state c.if-n-ne-STATE.false c.copy_from_slice.ensures.after refl
