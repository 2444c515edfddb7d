-- `bases::put_soft` meets its contract: where there is none, nothing is laid. Assumes nothing.
use mathlib.Core.Path.{sym}
use Rattle.writing.proofs.LayLaws.{laid_as, laid_none}
use Rattle.bases.proofs.ReferenceLaws.{letters_end}
use Rattle.bases.proofs.put_soft.Goals as goal

pub returns-then-end-start : goal.returns-then-end-start
returns-then-end-start c = laid_as (sym (letters_end _ _ _ _ c.if-end-start.true)) (laid_none _ _)

pub returns : goal.returns
returns c = c.put_letters.ensures
