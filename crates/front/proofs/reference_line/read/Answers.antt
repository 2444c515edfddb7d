-- `front::reference_line::read` meets its contract: a refused line leaves the reference, `bases_kept`, and an accepted one stores its bases, `reference_stored`. Assumes nothing.
use mathlib.Core.Path.{refl, sym, ◌∙◌}
use native.Mathlib.Omega.{arith}
use Rattle.std.proofs.lemmas.Result.{err_from_is_err_and}
use Rattle.front.proofs.ReferenceLaws.{reference_accepted, bases_kept, reference_stored}
use Rattle.front.proofs.reference_line.read.Goals as goal

pub returns-in_err-all : goal.returns-in_err-all
returns-in_err-all c =
    let p = err_from_is_err_and c.from_residual.result c.from_residual.ensures.1 in
    let kept = bases_kept _ _ _ _ refl (sym c.in_err-all.was ∙ c.read_count.ensures) in
    record { value = rw (p.1, p.2) kept.0; reference_after = kept.1 }

pub lay_bases-requires : goal.lay_bases-requires
lay_bases-requires c = let w = reference_accepted _ _ _ _ (sym c.in_ok-all.was ∙ c.read_count.ensures) in omega (arith, w.added.count, w.added.room)

pub returns : goal.returns
returns c =
    let stored = reference_stored _ _ _ _ refl (sym c.in_ok-all.was ∙ c.read_count.ensures) c.lay_bases.ensures in
    record { value = stored.0; reference_after = stored.1 }
