-- `ecigar::check::count_len` meets its contract: a number of 32 bits has at most ten digits. Assumes nothing.
use native.Mathlib.Omega.{arith}
use mathlib.Core.Path.{ap}
use Prim.Native.Nat.{ℕ, ◌+◌}
use Rattle.writing.proofs.DecimalLaws.{digits_wide}
use Rattle.ecigar.proofs.check.count_len.Goals as goal

pub overflow_cast-result : goal.overflow_cast-result
overflow_cast-result c = omega (arith, c.decimal_len.ensures, digits_wide c.args.n (omega arith))

pub overflow_add-result : goal.overflow_add-result
overflow_add-result c = omega (arith, c.decimal_len.ensures, digits_wide c.args.n (omega arith))

pub returns : goal.returns
returns c = (ap (λ (x : ℕ). x + 1) c.decimal_len.ensures, omega (arith, c.decimal_len.ensures, digits_wide c.args.n (omega arith)))
