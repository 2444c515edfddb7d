-- `pieces::check::settle_piece` meets its contract: its place, then the reference. Assumes nothing.
use mathlib.Core.Path.{refl, sym, ◌∙◌}
use native.Mathlib.Omega.{arith}
use Rattle.std.proofs.lemmas.Result.{err_from_is_err_and}
use Rattle.pieces.proofs.CheckLaws.{found_outside, found_unknown, found_fine}
use Rattle.pieces.proofs.PlaceLaws.{place_inside}
use Rattle.pieces.proofs.check.settle_piece.Goals as goal

pub returns-in_err-check : goal.returns-in_err-check
returns-in_err-check c =
    let p = err_from_is_err_and c.from_residual.result c.from_residual.ensures.1 in
    rw (p.1, p.2) (found_outside _ _ _ _ _ _ _ c.requires.looked _ (sym c.check.ensures ∙ c.in_err-check.was), tt)

pub overflow_cast-position : goal.overflow_cast-position
overflow_cast-position c = let i = place_inside _ _ _ _ (sym c.check.ensures ∙ c.in_ok-check.was) in omega (arith, i.to)

pub under_piece-requires : goal.under_piece-requires
under_piece-requires c = record { ready_piece = c.requires.ready_piece; position_value = (c.requires.looked.is, c.requires.looked.takes) }

pub returns-in_err-under_piece : goal.returns-in_err-under_piece
returns-in_err-under_piece c =
    let p = err_from_is_err_and c.from_residual-in_err-under_piece.result c.from_residual-in_err-under_piece.ensures.1 in
    rw (p.1, p.2) (found_unknown _ _ _ _ _ _ _ c.requires.looked _ (sym c.check.ensures ∙ c.in_ok-check.was) (sym c.under_piece.ensures ∙ c.in_err-under_piece.was), tt)

pub overflow_add-result : goal.overflow_add-result
overflow_add-result c = let i = place_inside _ _ _ _ (sym c.check.ensures ∙ c.in_ok-check.was) in omega (arith, i.to)

pub splice_text-requires : goal.splice_text-requires
splice_text-requires c = let i = place_inside _ _ _ _ (sym c.check.ensures ∙ c.in_ok-check.was) in (omega (arith, i.to), c.requires.looked.far)

pub returns : goal.returns
returns c =
    let q = c.requires.looked.is in
    let placed = sym c.check.ensures ∙ c.in_ok-check.was in
    let i = place_inside _ _ _ _ placed in (
      found_fine _ _ _ _ _ _ _ c.requires.looked _ placed (sym c.under_piece.ensures ∙ c.in_ok-under_piece.was) (rw (c.splice_text.ensures.0, q, c.requires.looked.long) refl),
      (omega (arith, c.splice_text.ensures.1, c.requires.looked.most), omega (arith, i.to)),
    )
