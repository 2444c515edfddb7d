-- `ecigar::text::put_ending` meets its contract: the last run, and the last match. Assumes nothing.
use native.Mathlib.Omega.{arith}
use mathlib.Core.Path.{sym}
use lib.ListN.{length-append}
use Rattle.ecigar.proofs.WalkLaws.{ending_both}
use Rattle.writing.proofs.LayLaws.{laid_then, laid_as, length_laid}
use Rattle.ecigar.proofs.text.put_ending.Goals as goal

pub put_closed-next-requires : goal.put_closed-next-requires
put_closed-next-requires c = let p = rw (ending_both, length-append) at c.requires.1 in omega arith

pub put_matches-requires : goal.put_matches-requires
put_matches-requires c =
    let p = rw (ending_both, length-append) at c.requires.1 in omega (arith, c.put_closed-next.ensures.to, length_laid c.put_closed-next.ensures)

pub returns : goal.returns
returns c = laid_as (sym (ending_both _ _)) (laid_then c.put_closed-next.ensures c.put_matches.ensures)
