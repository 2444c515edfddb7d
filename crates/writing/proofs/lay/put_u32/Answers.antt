-- `writing::lay::put_u32` meets its contract: the upper half and then the lower, `be_add`. Assumes nothing.
use native.Mathlib.Omega.{arith}
use Rattle.frame.proofs.HexLaws.{be_add, length_be}
use Rattle.writing.proofs.LayLaws.{laid_as, laid_then, laid_room}
use Rattle.writing.proofs.lay.put_u32.Goals as goal

pub put_u16-requires : goal.put_u16-requires
put_u16-requires c = laid_room 2 4 c.put_u16-next.ensures (length_be 2 _) (omega arith)

pub returns : goal.returns
returns c = laid_as (be_add 2 2 _) (laid_then c.put_u16-next.ensures c.put_u16.ensures)
