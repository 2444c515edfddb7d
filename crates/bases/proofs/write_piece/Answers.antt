-- `bases::write_piece` meets its contract: with no edits the piece is one match, `bases_end`. Assumes nothing.
use Prim.Native.Nat.{◌≤◌}
use native.Mathlib.Omega.{arith}
use Rattle.bases.proofs.ReferenceLaws.{length_matched}
use Rattle.bases.proofs.BasesLaws.{bases_end}
use Rattle.bases.proofs.write_piece.Goals as goal

pub put_matched-requires : goal.put_matched-requires
put_matched-requires c =
    let none : c.args.run.edits ≤ 0 = omega arith in
    let room = rw (bases_end _ _ _ _ _ _ _ _ _ none, length_matched) at c.requires.edits_at_in_bounds in record { p_bound = rw c.at-p.ensures (omega arith); p_in_bounds = rw c.at-p.ensures room }

pub returns-then-run-eq0 : goal.returns-then-run-eq0
returns-then-run-eq0 c =
    let none : c.args.run.edits ≤ 0 = omega (arith, c.if-run-eq0.true) in
    rw (bases_end _ _ _ _ _ _ _ _ _ none) (rw c.at-p.ensures at c.put_matched.ensures)
