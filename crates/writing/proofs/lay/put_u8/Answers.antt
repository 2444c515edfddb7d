-- `writing::lay::put_u8` meets its contract: the low byte is the number's one byte, `be_one`. Assumes nothing.
use Rattle.frame.proofs.HexLaws.{be_one}
use Rattle.writing.proofs.LayLaws.{laid_as}
use Rattle.writing.proofs.lay.put_u8.Goals as goal

pub returns : goal.returns
returns c = laid_as (be_one _) (rw c.to_be_bytes.ensures at c.put_byte.ensures)
