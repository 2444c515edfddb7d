-- `stream::source::Source::fill` meets its contract. The loop's invariant, `Filling`: the bytes that waited are as they were, and others stand behind them. Assumes nothing.
use Rattle.std.proofs.Common.{◌-◌, ◌≡◌, true, length}
use Rattle.stream.proofs.SourceLaws.{Filling}
use Rattle.stream.proofs.source.Source.fill.Given as goal

abbrev pub invariant-loop-self : goal.invariant-loop-self
invariant-loop-self g l = record { start : l.self.at ≡ l.fn.self.at; ended : l.self.ended ≡ true; filling : Filling l.fn.buf l.fn.self.end l.buf l.self.end }

abbrev pub decreases-loop-self : goal.decreases-loop-self
decreases-loop-self g l = length l.initial.buf - l.self.end
