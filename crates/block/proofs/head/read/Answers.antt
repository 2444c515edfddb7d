-- `block::head::read` meets its contract: each step of the definition follows from what was read. Assumes nothing.
use mathlib.Core.Path.{refl}
use Rattle.std.proofs.lemmas.Result.{err_from_is_err_and}
use Rattle.block.specs.Head.{from_rcomp, head_at}
use Rattle.block.proofs.Steps.{moved_accepted, moved_rejected}
use Rattle.block.proofs.head.read.Goals as goal

pub returns-in_err-length : goal.returns-in_err-length
unfolding head_at
returns-in_err-length c position =
    let p = err_from_is_err_and c.from_residual.result c.from_residual.ensures.1 in
    rw (p.1, p.2) (moved_rejected _ _ _ _ _ _ _ _ c.read_length.ensures c.in_err-length.was refl)

pub returns-in_err-rcomp : goal.returns-in_err-rcomp
unfolding head_at from_rcomp
returns-in_err-rcomp c position =
    let p = err_from_is_err_and c.from_residual-in_err-rcomp.result c.from_residual-in_err-rcomp.ensures.1 in
    rw (p.1, p.2) (moved_accepted _ _ _ _ _ _ _ _ _ c.read_length.ensures c.in_ok-length.was (moved_rejected _ _ _ _ _ _ _ _ c.read_rcomp.ensures c.in_err-rcomp.was refl))

pub returns : goal.returns
unfolding head_at from_rcomp
returns c position =
    moved_accepted _ _ _ _ _ _ _ _ _ c.read_length.ensures c.in_ok-length.was
    (moved_accepted _ _ _ _ _ _ _ _ _ c.read_rcomp.ensures c.in_ok-rcomp.was (c.from_pieces.ensures position))
