-- `segment::place_pieces` meets its contract: the first refusal of its pieces, or the length of the text. Assumes nothing.
use mathlib.Core.Path.{ap, ◌∙◌}
use native.Mathlib.Omega.{arith}
use Rattle.std.specs.Prelude.{Ok}
use Rattle.std.proofs.lemmas.Result.{err_from_is_err_and}
use Rattle.segment.proofs.PiecedLaws.{walk_begun}
use Rattle.segment.proofs.ChoiceLaws.{several_refused, several_whole, several_begins, several_short}
use Rattle.segment.proofs.place_pieces.Goals as goal

pub check_pieces-requires : goal.check_pieces-requires
check_pieces-requires c = walk_begun _ _ _ _ _ _ c.requires.tallied.0.pieced _ c.requires.tallied.1.0 c.requires.position_bound c.requires.tallied.1.1

pub returns-in_err-text : goal.returns-in_err-text
returns-in_err-text c = let p = err_from_is_err_and c.from_residual.result c.from_residual.ensures.1 in rw (p.1, p.2) (several_refused _ _ _ _ _ _ c.requires.tallied.0 _ c.check_pieces.ensures _ c.in_err-text.was)

pub overflow_cast-position : goal.overflow_cast-position
overflow_cast-position c = omega (arith, several_begins _ _ _ _ _ _ c.requires.tallied.0 _ c.check_pieces.ensures _ c.in_ok-text.was)

pub with_clips-requires : goal.with_clips-requires
with_clips-requires c = several_short _ _ _ _ _ _ c.requires.tallied.0 _ c.check_pieces.ensures _ c.in_ok-text.was (omega arith)

pub returns : goal.returns
returns c = ap Ok c.whole.ensures ∙ several_whole _ _ _ _ _ _ c.requires.tallied.0 _ c.check_pieces.ensures _ c.in_ok-text.was _ c.with_clips.ensures
