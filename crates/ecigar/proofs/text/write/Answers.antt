-- `ecigar::text::write` meets its contract: left clip, run, right clip, each behind the last. Assumes nothing.
use native.Mathlib.Omega.{arith}
use mathlib.Core.Path.{sym}
use Rattle.ecigar.proofs.TextLaws.{text_parts, length_ecigar_text}
use Rattle.writing.proofs.LayLaws.{laid_then, laid_as, length_laid}
use Rattle.ecigar.proofs.text.write.Goals as goal

pub put_clip-left-requires : goal.put_clip-left-requires
put_clip-left-requires c =
    omega (arith, c.requires.block_in_bounds, length_ecigar_text c.args.class c.args.alphabet c.args.frame.now c.args.block)

pub put_run-right-requires : goal.put_run-right-requires
put_run-right-requires c =
    let m = c.run_of-run.ensures in
    let p = c.put_clip-left.ensures in
    let n = length_ecigar_text c.args.class c.args.alphabet c.args.frame.now c.args.block in
    rw m (record { edits_le_most_edits = c.requires.edits_le_most_edits; sound = c.requires.sound; edits_at_in_bounds = omega (arith, c.requires.block_in_bounds, n, p.to, length_laid p) })

pub put_clip-requires : goal.put_clip-requires
put_clip-requires c =
    let p = c.put_clip-left.ensures in
    let e = rw c.run_of-run.ensures at c.put_run-right.ensures in
    let n = length_ecigar_text c.args.class c.args.alphabet c.args.frame.now c.args.block in
    omega (arith, c.requires.block_in_bounds, n, p.to, length_laid p, e.to, length_laid e)

pub returns : goal.returns
returns c =
    let m = c.run_of-run.ensures in
    laid_as (sym (text_parts _ _ _ _)) (laid_then (laid_then c.put_clip-left.ensures (rw m at c.put_run-right.ensures)) c.put_clip.ensures)
