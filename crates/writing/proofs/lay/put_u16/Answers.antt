-- `writing::lay::put_u16` meets its contract: the high byte and then the low one, `be_add`. Assumes nothing.
use native.Mathlib.Omega.{arith}
use Rattle.frame.proofs.HexLaws.{be_add, length_be}
use Rattle.writing.proofs.LayLaws.{laid_as, laid_then, laid_room}
use Rattle.writing.proofs.lay.put_u16.Goals as goal

pub put_u8-requires : goal.put_u8-requires
put_u8-requires c = laid_room 1 2 c.put_u8-next.ensures (length_be 1 _) (omega arith)

pub returns : goal.returns
returns c = laid_as (be_add 1 1 _) (laid_then c.put_u8-next.ensures c.put_u8.ensures)
