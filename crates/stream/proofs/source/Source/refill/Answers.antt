-- `stream::source::Source::refill` meets its contract. Assumes nothing.
use Rattle.std.proofs.Common.{refl, arith}
use Rattle.stream.proofs.SourceLaws.{moved_copied, moved_all, refilled}
use Rattle.stream.proofs.source.Source.refill.Goals as goal

pub returns : goal.returns
returns g c =
    let m = moved_copied c.copy_within.ensures.len c.copy_within.ensures.by_index.0 c.copy_within.ensures.by_index.2 in
    refilled _ c.requires refl refl refl (moved_all m (omega arith)) c.fill.ensures
