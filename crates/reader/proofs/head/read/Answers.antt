-- `reader::head::read` meets its contract: what the two calls promise is the head. Assumes nothing.
use Rattle.reader.proofs.HeadLaws.{head_read}
use Rattle.reader.proofs.head.read.Goals as goal

pub returns : goal.returns
returns c = head_read c.args.frame c.front-r.ensures c.field-kind.ensures.0 c.field-kind.ensures.1 c.field-pos.ensures.0
