-- `splices::take::take_pieces` meets its contract. The loop's invariant: the turns that are left, from here, come to what all of them come to. Assumes nothing.
use mathlib.Core.Path.{sym, ◌∙◌}
use native.Mathlib.Nat.{sub-add-eq}
use Rattle.std.proofs.lemmas.Result.{err_from_is_err_and}
use Rattle.edits.proofs.EditLaws.{turns_left, turns_over}
use Rattle.splices.proofs.TakenLaws.{splice_refused, splice_gone, turns_done}
use Rattle.splices.proofs.take.take_pieces.Goals as goal

pub returns-in_err-here : goal.returns-in_err-here
returns-in_err-here c =
    let p = err_from_is_err_and c.from_residual.result c.from_residual.ensures.1 in
    rw (p.1, p.2) (splice_refused _ _ c.loop.here _ _ c.take_piece.ensures (turns_left c.loop-test.true) _ c.in_err-here.was ∙ c.loop.invariant)

pub loop-preserved : goal.loop-preserved
loop-preserved c =
    rw sub-add-eq (splice_gone _ _ c.loop.here _ _ c.take_piece.ensures (turns_left c.loop-test.true) _ c.in_ok-here.was) ∙ c.loop.invariant

pub returns : goal.returns
returns c = sym (turns_done _ _ c.loop.here _ (turns_over c.loop-test.false)) ∙ c.loop.invariant
