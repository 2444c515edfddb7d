-- `bases::lent::check_range` meets its contract: what is padded is never refused, `match_split`. Assumes nothing.
use mathlib.Core.Path.{refl, sym, ◌∙◌}
use native.Mathlib.Omega.{arith}
use Rattle.bases.proofs.ReferenceLaws.{window_split, match_split, symbols_window}
use Rattle.bases.proofs.lent.check_range.Goals as goal

pub slice_bounds-check_lent-count : goal.slice_bounds-check_lent-count
slice_bounds-check_lent-count c = let s = window_split _ _ _ _ refl refl c.lent_before-start.ensures c.lent_before-end.ensures in omega (arith, s.order, s.room)

pub slice_bounds-check_lent-start : goal.slice_bounds-check_lent-start
slice_bounds-check_lent-start c = let s = window_split _ _ _ _ refl refl c.lent_before-start.ensures c.lent_before-end.ensures in omega (arith, s.order, s.room)

pub slice_bounds-check_lent-end : goal.slice_bounds-check_lent-end
slice_bounds-check_lent-end c = let s = window_split _ _ _ _ refl refl c.lent_before-start.ensures c.lent_before-end.ensures in omega (arith, s.order, s.room)

pub returns : goal.returns
returns c =
    let s = window_split _ _ _ _ refl refl c.lent_before-start.ensures c.lent_before-end.ensures in
    c.check_lent.ensures ∙ symbols_window _ s.order s.room _ ∙ sym (match_split _ _ _ _ _ s)
