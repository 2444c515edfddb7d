-- `writing::lay::put_bytes` meets its contract. The loop's invariant: to lay what is left, from here, gives what laying the whole gives. Assumes nothing.
use Rattle.std.proofs.Common.{add-one, drop-cons}
use Rattle.std.proofs.Math.ListN.{drop_of_length-le}
use Rattle.writing.proofs.LayLaws.{rest_put, rest_done}
use Rattle.writing.proofs.lay.put_bytes.Goals as goal

pub loop-b-preserved : goal.loop-b-preserved
loop-b-preserved c = rw add-one (rest_put c.loop-b.invariant (drop-cons _ _ 0 c.loop-b-test.true) c.put_byte-next.ensures)

pub returns : goal.returns
returns c = rest_done c.loop-b.invariant (drop_of_length-le _ c.loop-b-test.false)
