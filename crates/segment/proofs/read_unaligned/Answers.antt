-- `segment::read_unaligned` meets its contract: what the block was read as picks the case. Assumes nothing.
use mathlib.Core.Path.{refl}
use Rattle.std.proofs.lemmas.Result.{err_from_is_err_and}
use Rattle.refusal.proofs.AnswerLaws.{goes, stops}
use Rattle.segment.specs.Segment.{plain_at}
use Rattle.segment.proofs.read_unaligned.Goals as goal

pub returns-in_err-u : goal.returns-in_err-u
unfolding plain_at
returns-in_err-u c = let p = err_from_is_err_and c.from_residual.result c.from_residual.ensures.1 in rw (p.1, p.2) (stops _ _ _ _ _ c.read.ensures c.in_err-u.was refl)

pub returns : goal.returns
unfolding plain_at
returns c = goes _ _ _ _ _ c.read.ensures c.in_ok-u.was refl
