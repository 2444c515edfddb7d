-- `ecigar::text::put_mark` meets its contract: the test on the way picks the case. Assumes nothing.
use mathlib.Core.Path.{sym}
use native.Mathlib.Omega.{arith}
use Rattle.writing.proofs.LayLaws.{laid_none, laid_as}
use Rattle.ecigar.proofs.WalkLaws.{mark_letter, mark_none}
use Rattle.alphabet.proofs.AlphabetLaws.{laid_letter}
use Rattle.ecigar.proofs.text.put_mark.Goals as goal

pub put_letter-requires : goal.put_letter-requires
put_letter-requires c =
    let p = rw (mark_letter c.args.alphabet c.args.e c.if-e-eq-SUBSTITUTION.true) at c.requires.1 in omega arith

pub returns-then-e-eq-SUBSTITUTION : goal.returns-then-e-eq-SUBSTITUTION
returns-then-e-eq-SUBSTITUTION c =
    laid_as (sym (mark_letter c.args.alphabet c.args.e c.if-e-eq-SUBSTITUTION.true)) (laid_letter _ _ c.requires.0 c.put_letter.ensures.value c.put_letter.ensures.out_after)

pub returns : goal.returns
returns c = let s = c.args in laid_as (sym (mark_none s.alphabet s.e c.if-e-eq-SUBSTITUTION.false)) (laid_none _ _)
