-- `block::unaligned::read` meets its contract: each step of the definition follows from what was read. Assumes nothing.
use mathlib.Core.Path.{refl}
use Rattle.std.proofs.lemmas.Result.{err_from_is_err_and}
use Rattle.frame.proofs.StepLaws.{value, ended}
use Rattle.block.specs.Unaligned.{from_length, unaligned_at}
use Rattle.block.proofs.unaligned.read.Goals as goal

pub returns-in_err-length : goal.returns-in_err-length
unfolding unaligned_at
returns-in_err-length c = let p = err_from_is_err_and c.from_residual.result c.from_residual.ensures.1 in rw (p.1, p.2) (ended _ _ _ _ _ _ c.read_length.ensures c.in_err-length.was refl)

pub returns-in_err-next : goal.returns-in_err-next
unfolding unaligned_at from_length
returns-in_err-next c =
    let p = err_from_is_err_and c.from_residual-in_err-next.result c.from_residual-in_err-next.ensures.1 in
    rw (p.1, p.2) (value _ _ _ _ _ _ _ c.read_length.ensures c.in_ok-length.was (ended _ _ _ _ _ _ c.read_symbols.ensures c.in_err-next.was refl))

pub returns : goal.returns
unfolding unaligned_at from_length
returns c = value _ _ _ _ _ _ _ c.read_length.ensures c.in_ok-length.was (value _ _ _ _ _ _ _ c.read_symbols.ensures c.in_ok-next.was refl)
