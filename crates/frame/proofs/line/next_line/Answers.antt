-- `frame::line::next_line` meets its contract: the first 0A of the window, or none there. Assumes nothing.
use Rattle.std.proofs.Common.{sym, ◌∙◌, rules}
use Rattle.std.proofs.Math.Seq.{length-take-le}
use Rattle.std.proofs.lemmas.Bool.{eq-eqb, le-leb, lt-leb}
use Rattle.frame.proofs.NextLaws.{window_below, next_at, next_whole, next_none}
use Rattle.frame.proofs.line.next_line.Goals as goal

pub returns-then-m-eq0 : goal.returns-then-m-eq0
returns-then-m-eq0 c = simp (next_at c.args.s.now _ c.window-m.ensures, eq-eqb _ _ c.if-m-eq0.true)

pub slice_bounds-iter-end : goal.slice_bounds-iter-end
slice_bounds-iter-end c = sym (length-take-le _ _ (window_below c.window-m.ensures))

pub returns-in-Some : goal.returns-in-Some
returns-in-Some c = next_whole _ _ c.window-m.ensures _ (search rules) (search rules) (search rules)

pub returns-then-m-le-DIGITS : goal.returns-then-m-le-DIGITS
returns-then-m-le-DIGITS c = sym (next_none _ _ c.window-m.ensures c.if-m-eq0.false (search rules) ∙ simp (le-leb _ _ c.if-m-le-DIGITS.true))

pub returns : goal.returns
returns c = sym (next_none _ _ c.window-m.ensures c.if-m-eq0.false (search rules) ∙ simp (lt-leb _ _ c.if-m-le-DIGITS.false))
