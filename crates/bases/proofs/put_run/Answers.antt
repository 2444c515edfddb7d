-- `bases::put_run` meets its contract: with no edits the run is one match, `bases_end`. Assumes nothing.
use mathlib.Core.Path.{sym, ◌∙◌}
use Prim.Native.Nat.{◌≤◌}
use native.Mathlib.Omega.{arith}
use Rattle.std.proofs.lemmas.Bool.{false≢true}
use Rattle.bases.proofs.ReferenceLaws.{length_matched}
use Rattle.bases.proofs.BasesLaws.{bases_end}
use Rattle.bases.proofs.put_run.Goals as goal

pub put_matched-requires : goal.put_matched-requires
put_matched-requires c =
    let none : c.args.run.edits ≤ 0 = omega arith in
    let room = rw (bases_end _ _ _ _ _ _ _ _ _ none, length_matched) at c.requires.edits_at_in_bounds in record { p_bound = rw c.beginning-p.ensures (omega arith); p_in_bounds = rw c.beginning-p.ensures room }

pub returns-then-run-eq0 : goal.returns-then-run-eq0
returns-then-run-eq0 c =
    let none : c.args.run.edits ≤ 0 = omega (arith, c.if-run-eq0.true) in
    rw (bases_end _ _ _ _ _ _ _ _ _ none) (rw c.beginning-p.ensures at c.put_matched.ensures)

pub put_edits-requires : goal.put_edits-requires
put_edits-requires c =
    record { substitutes_value = λ e. sym c.substitutes.ensures ∙ c.if-substitutes.true; class_in_bounds = c.requires.class_in_bounds; edits_at_in_bounds = c.requires.edits_at_in_bounds }

pub returns-then-substitutes : goal.returns-then-substitutes
returns-then-substitutes c = c.put_edits.ensures

pub put_edits-requires-2 : goal.put_edits-requires-2
put_edits-requires-2 c =
    record { substitutes_value = λ e. absurd (false≢true e); class_in_bounds = c.requires.class_in_bounds; edits_at_in_bounds = c.requires.edits_at_in_bounds }

pub returns : goal.returns
returns c = c.put_edits-2.ensures
