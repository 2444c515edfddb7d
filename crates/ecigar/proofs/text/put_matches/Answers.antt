-- `ecigar::text::put_matches` meets its contract: the test on the way picks the case. Assumes nothing.
use mathlib.Core.Path.{sym}
use Rattle.ecigar.proofs.WalkLaws.{matches_none, matches_some}
use Rattle.writing.proofs.LayLaws.{laid_none, laid_as}
use Rattle.ecigar.proofs.text.put_matches.Goals as goal

pub returns-then-n-eq0 : goal.returns-then-n-eq0
returns-then-n-eq0 c = laid_as (sym (matches_none _ c.if-n-eq0.true)) (laid_none _ _)

pub put_count-requires : goal.put_count-requires
put_count-requires c = rw (← matches_some _ c.if-n-eq0.false) c.requires

pub returns : goal.returns
returns c = laid_as (sym (matches_some _ c.if-n-eq0.false)) c.put_count.ensures
