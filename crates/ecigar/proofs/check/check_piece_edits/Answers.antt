-- `ecigar::check::check_piece_edits` meets its contract: the walk comes to what the edits come to, `walked_piece`, and stays within its bounds, `walked_within`. Assumes nothing.
use native.Mathlib.Omega.{arith}
use mathlib.Core.Path.{refl, sym, ◌∙◌}
use Rattle.std.proofs.lemmas.Result.{err_from_is_err_and}
use Rattle.edits.specs.declared.flank.Flank.TheVariants.{Before}
use Rattle.ecigar.proofs.CheckLaws.{check_start, within_start, walked_within, walked_piece}
use Rattle.ecigar.proofs.check.check_piece_edits.Goals as goal

pub returns-in_err-t : goal.returns-in_err-t
returns-in_err-t c =
    let p = err_from_is_err_and c.from_residual.result c.from_residual.ensures.1 in
    rw (p.1, p.2, ← check_start _ _ _ _ c.args.from _ _ _ refl, walked_piece _ _ _ _ _ _ _ Before, ← c.walk_edits.ensures, c.in_err-t.was) refl

pub finish-requires : goal.finish-requires
finish-requires c =
    let g = walked_within _ _ _ _ _ _ _ _ _ _ (within_start _ _ _ c.requires.1.1) (sym c.walk_edits.ensures ∙ c.in_ok-t.was) in
    omega (arith, g.next, g.taken, g.text, c.requires)

pub returns : goal.returns
returns c =
    rw (← check_start _ _ _ _ c.args.from _ _ _ refl, walked_piece _ _ _ _ _ _ _ Before, ← c.walk_edits.ensures, c.in_ok-t.was, c.finish.ensures) refl
