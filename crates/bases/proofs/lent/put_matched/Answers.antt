-- `bases::lent::put_matched` meets its contract: padding, lent bases, padding, `laid_matched`. Assumes nothing.
use mathlib.Core.Path.{sym}
use Rattle.writing.proofs.LayLaws.{laid_as, laid_none}
use Rattle.bases.proofs.ReferenceLaws.{split_window, matched_none, room_lent, room_behind, laid_matched}
use native.Mathlib.Omega.{arith}
use Rattle.bases.proofs.lent.put_matched.Goals as goal

pub returns-then-n-eq0 : goal.returns-then-n-eq0
returns-then-n-eq0 c = rw (← c.until-n.ensures, c.if-n-eq0.true) (laid_as (sym (matched_none _ _ _ _)) (laid_none _ _))

pub overflow_sub-behind : goal.overflow_sub-behind
overflow_sub-behind c = let s = split_window _ _ _ _ c.from.ensures c.saturating_sub.ensures c.min-before.ensures c.lent_before-start.ensures c.lent_before-end.ensures in omega (arith, s.order, s.fits)

pub overflow_sub-behind-2 : goal.overflow_sub-behind-2
overflow_sub-behind-2 c = let s = split_window _ _ _ _ c.from.ensures c.saturating_sub.ensures c.min-before.ensures c.lent_before-start.ensures c.lent_before-end.ensures in omega (arith, s.order, s.fits)

pub overflow_sub-behind-3 : goal.overflow_sub-behind-3
overflow_sub-behind-3 c = let s = split_window _ _ _ _ c.from.ensures c.saturating_sub.ensures c.min-before.ensures c.lent_before-start.ensures c.lent_before-end.ensures in omega (arith, s.order, s.fits)

pub put_padding-lent_at-requires : goal.put_padding-lent_at-requires
put_padding-lent_at-requires c =
    let s = split_window _ _ _ _ c.from.ensures c.saturating_sub.ensures c.min-before.ensures c.lent_before-start.ensures c.lent_before-end.ensures in omega (arith, s.fits, c.until-n.ensures, c.requires.p_in_bounds)

pub put_letters-behind_at-requires : goal.put_letters-behind_at-requires
put_letters-behind_at-requires c =
    let s = (split_window _ _ _ _ c.from.ensures c.saturating_sub.ensures c.min-before.ensures c.lent_before-start.ensures c.lent_before-end.ensures) in record { start_le_end = (s.order, s.room); start_in_bounds = room_lent s (omega (arith, c.until-n.ensures, c.requires.p_in_bounds)) c.put_padding-lent_at.ensures }

pub put_padding-requires : goal.put_padding-requires
put_padding-requires c =
    room_behind (split_window _ _ _ _ c.from.ensures c.saturating_sub.ensures c.min-before.ensures c.lent_before-start.ensures c.lent_before-end.ensures) (omega (arith, c.until-n.ensures, c.requires.p_in_bounds)) c.put_padding-lent_at.ensures _ _ c.put_letters-behind_at.ensures

pub returns : goal.returns
returns c =
    rw (← c.until-n.ensures) (laid_matched _ _ _ _ _ c.put_padding-lent_at.ensures c.put_letters-behind_at.ensures c.put_padding.ensures (split_window _ _ _ _ c.from.ensures c.saturating_sub.ensures c.min-before.ensures c.lent_before-start.ensures c.lent_before-end.ensures))
