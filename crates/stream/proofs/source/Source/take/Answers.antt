-- `stream::source::Source::take` meets its contract. Assumes nothing.
use Rattle.std.proofs.Common.{arith, refl}
use Rattle.stream.proofs.SourceLaws.{line_fits, handed_line}
use Rattle.stream.proofs.source.Source.take.Goals as goal

pub overflow_add-to : goal.overflow_add-to
overflow_add-to g c =
    let h = line_fits _ _ _ _ c.ready.ensures.waits.held.order c.ready.ensures.waits.held.inside c.line_bytes.ensures in
    omega (arith, c.ready.ensures.waits.held.inside)

pub returns-clause-ok : goal.returns-clause-ok
returns-clause-ok g c = handed_line _ c.ready.ensures.waits c.line_bytes.ensures refl refl refl refl refl
