-- `ecigar::text::put_count` meets its contract: the digits, and the sign behind them. Assumes nothing.
use native.Mathlib.Omega.{arith}
use Rattle.ecigar.proofs.PrintLaws.{length_counted}
use Rattle.writing.proofs.LayLaws.{laid_then, length_laid}
use Rattle.ecigar.proofs.text.put_count.Goals as goal

pub put_decimal-next-requires : goal.put_decimal-next-requires
put_decimal-next-requires c = omega (arith, length_counted c.args.n c.args.sign)

pub put_byte-requires : goal.put_byte-requires
put_byte-requires c =
    omega (arith, length_counted c.args.n c.args.sign, c.put_decimal-next.ensures.to, length_laid c.put_decimal-next.ensures)

pub returns : goal.returns
returns c = laid_then c.put_decimal-next.ensures c.put_byte.ensures
