-- `ecigar::check::check_edits` meets its contract: the walk comes to what the edits come to, `walked_read`, and stays within its bounds, `walked_within`. Assumes nothing.
use native.Mathlib.Omega.{arith}
use mathlib.Core.Path.{refl, sym, ◌∙◌}
use Rattle.std.proofs.lemmas.Result.{err_from_is_err_and}
use Rattle.ecigar.specs.Code.Tally.{after_read}
use Rattle.ecigar.proofs.CheckLaws.{check_start, flanking_start, within_start, walked_within, walked_read}
use Rattle.ecigar.proofs.check.check_edits.Goals as goal

pub returns-in_err-t : goal.returns-in_err-t
returns-in_err-t c =
    let p = err_from_is_err_and c.from_residual.result c.from_residual.ensures.1 in
    rw (p.1, p.2, walked_read _ _ _ _ _ _ _ _ _ _ (check_start _ _ _ _ 0 _ _ _ refl) (flanking_start _ _ _ _ _ _ _ refl), ← c.walk_edits.ensures, c.in_err-t.was) refl

pub returns-in_err-check : goal.returns-in_err-check
unfolding after_read
returns-in_err-check c =
    let p = err_from_is_err_and c.from_residual-in_err-check.result c.from_residual-in_err-check.ensures.1 in
    rw (p.1, p.2, walked_read _ _ _ _ _ _ _ _ _ _ (check_start _ _ _ _ 0 _ _ _ refl) (flanking_start _ _ _ _ _ _ _ refl), ← c.walk_edits.ensures, c.in_ok-t.was, ← c.check.ensures, c.in_err-check.was) refl

pub finish-requires : goal.finish-requires
finish-requires c =
    let g = walked_within _ _ _ _ _ _ _ _ _ _ (within_start _ _ _ (omega arith)) (sym c.walk_edits.ensures ∙ c.in_ok-t.was) in
    omega (arith, g.next, g.taken, g.text, c.requires)

pub returns : goal.returns
unfolding after_read
returns c =
    rw (walked_read _ _ _ _ _ _ _ _ _ _ (check_start _ _ _ _ 0 _ _ _ refl) (flanking_start _ _ _ _ _ _ _ refl), ← c.walk_edits.ensures, c.in_ok-t.was, ← c.check.ensures, c.in_ok-check.was, c.finish.ensures) refl
