-- `writing::decimal::decimal_len` meets its contract: a digit more than the quotient by ten has. Assumes nothing.
use native.Mathlib.Omega.{arith}
use native.Mathlib.Nat.{lt-suc_self}
use mathlib.Core.Path.{sym}
use Prim.Native.Nat.{◌/◌}
use Rattle.writing.proofs.DecimalLaws.{length_small, length_more, length_most}
use Rattle.writing.proofs.decimal.+decimal_len.Goals as goal

pub overflow_add-result : goal.overflow_add-result
overflow_add-result t c = omega (arith, length_most _ _ (lt-suc_self (c.args.n / 10)))

pub returns-then-n-lt10 : goal.returns-then-n-lt10
returns-then-n-lt10 t c = sym (length_small _ c.if-n-lt10.true)

pub returns-else-n-lt10 : goal.returns-else-n-lt10
returns-else-n-lt10 t c = omega (arith, length_more _ c.if-n-lt10.false)
