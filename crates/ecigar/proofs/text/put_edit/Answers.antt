-- `ecigar::text::put_edit` meets its contract: what stands before the edit, and its letter. Assumes nothing.
use native.Mathlib.Omega.{arith}
use mathlib.Core.Path.{sym}
use lib.ListN.{length-append}
use Rattle.ecigar.proofs.PrintLaws.{printed_append}
use Rattle.writing.proofs.LayLaws.{laid_then, laid_as, length_laid}
use Rattle.ecigar.proofs.text.put_edit.Goals as goal

pub put_gap-next-requires : goal.put_gap-next-requires
put_gap-next-requires c = let p = rw (printed_append, length-append) at c.requires.1.1 in (c.requires.1.0, omega arith)

pub put_mark-requires : goal.put_mark-requires
put_mark-requires c =
    let p = rw (printed_append, length-append) at c.requires.1.1 in (c.requires.0, omega (arith, c.put_gap-next.ensures.to, length_laid c.put_gap-next.ensures))

pub returns : goal.returns
returns c = laid_as (sym (printed_append _ _)) (laid_then c.put_gap-next.ensures c.put_mark.ensures)
