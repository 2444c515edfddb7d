-- `stream::source::Source::pass_piece` is safe. Assumes nothing.
use Rattle.std.proofs.Common.{arith}
use Rattle.stream.proofs.SourceLaws.{pass_fits}
use Rattle.stream.proofs.source.Source.pass_piece.Goals as goal

pub overflow_add-self : goal.overflow_add-self
overflow_add-self g c =
    let h = pass_fits _ _ _ _ c.ready.ensures.waits.held.order c.ready.ensures.waits.held.inside c.pass-passed.ensures in
    omega (arith, c.ready.ensures.waits.held.inside)
