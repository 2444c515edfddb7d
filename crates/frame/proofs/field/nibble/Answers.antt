use mathlib.Core.Path.{refl}
use Rattle.frame.specs.Hex.{nib}
use Rattle.frame.proofs.field.nibble.Goals as goal

-- src/lib.rt:44:1
pub returns : goal.returns
unfolding nib
returns c = refl
