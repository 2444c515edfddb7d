-- `writing::decimal::put_decimal` meets its contract: the digits of the quotient by ten stand before the last one. Assumes nothing.
use mathlib.Core.Path.{sym}
use native.Mathlib.Omega.{arith}
use Rattle.writing.proofs.DecimalLaws.{decimal_small, decimal_more, length_small, length_more}
use Rattle.writing.proofs.LayLaws.{laid_as, laid_then, length_laid}
use Rattle.writing.proofs.decimal.+put_decimal.Goals as goal

pub put_byte-requires : goal.put_byte-requires
put_byte-requires t c = omega (arith, length_small _ c.if-n-lt10.true)

pub returns-then-n-lt10 : goal.returns-then-n-lt10
returns-then-n-lt10 t c = laid_as (sym (decimal_small _ c.if-n-lt10.true)) c.put_byte.ensures

pub put_decimal-next-requires : goal.put_decimal-next-requires
put_decimal-next-requires t c = (omega arith, omega (arith, length_more _ c.if-n-lt10.false))

pub put_byte-requires-2 : goal.put_byte-requires-2
put_byte-requires-2 t c = omega (arith, length_more _ c.if-n-lt10.false, c.put_decimal-next.ensures.to, length_laid c.put_decimal-next.ensures)

pub returns : goal.returns
returns t c = laid_as (sym (decimal_more _ c.if-n-lt10.false)) (laid_then c.put_decimal-next.ensures c.put_byte-2.ensures)
