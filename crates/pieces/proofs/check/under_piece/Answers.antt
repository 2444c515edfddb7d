-- `pieces::check::under_piece` meets its contract: what is fine at every position that a piece takes is fine under its matches, `taken_fine`. Assumes nothing.
use mathlib.Core.Path.{sym, ◌∙◌}
use Rattle.splices.specs.Code.Walk.{piece_here}
use Rattle.bases.specs.Spliced.{piece_beginning}
use Rattle.bases.proofs.AlignmentLaws.{is_fine, taken_fine}
use Rattle.pieces.proofs.check.under_piece.Goals as goal

pub returns-then-is_ok : goal.returns-then-is_ok
returns-then-is_ok c =
    let p = piece_here c.args.unit.class c.args.unit.alphabet c.args.frame.now c.args.w in
    let a = rw (c.requires.position_value.0, c.requires.position_value.1) at (sym c.check_positions.ensures ∙ is_fine _ (sym c.is_ok.ensures.value ∙ c.if-is_ok.true)) in
    sym (taken_fine c.args.unit.alphabet c.args.reference.now c.args.unit.first p.until (piece_beginning p) p.edits a)

pub check_piece-requires : goal.check_piece-requires
check_piece-requires c = rw c.run_here-run.ensures c.requires.ready_piece.framed

pub returns : goal.returns
returns c = rw (c.run_here-run.ensures, c.requires.position_value.0) at c.check_piece.ensures
