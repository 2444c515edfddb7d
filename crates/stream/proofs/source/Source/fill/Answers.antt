-- `stream::source::Source::fill` meets its contract. Assumes nothing.
use Rattle.stream.proofs.SourceLaws.{filled, filling_read}
use Rattle.stream.proofs.source.Source.fill.Goals as goal

pub returns-in_err-n : goal.returns-in_err-n
returns-in_err-n g c = filled c.requires (filling_read c.loop-self.invariant.filling _ c.read.auto.buf) c.loop-self.invariant.start (λ o. cc)

pub returns-then-n-eq0 : goal.returns-then-n-eq0
returns-then-n-eq0 g c = filled c.requires (filling_read c.loop-self.invariant.filling _ c.read.auto.buf) c.loop-self.invariant.start (λ o. cc)
