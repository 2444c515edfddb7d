-- `block::head::from_pieces` meets its contract: each step of the definition follows from what was read, and the turns that were taken are Table 62's, wherever the read maps. Assumes nothing.
use mathlib.Core.Path.{refl, sym, ◌∙◌}
use native.Mathlib.Omega.{arith}
use borrow.Author.Tests.{le-ltb, lt-ltb}
use Rattle.std.proofs.lemmas.Result.{err_from_is_err_and}
use Rattle.taking.specs.Steps.{decode}
use Rattle.block.specs.Head.{from_lengths, from_pieces}
use Rattle.block.proofs.HeadLaws.{splices_refused, splices_whole}
use Rattle.block.proofs.ReadyLaws.{number_got}
use Rattle.block.proofs.Steps.{moved_accepted, moved_rejected}
use Rattle.block.proofs.head.from_pieces.Goals as goal

pub returns-then-class-lt-I : goal.returns-then-class-lt-I
unfolding from_pieces decode
returns-then-class-lt-I c position = rw (lt-ltb _ _ c.if-class-lt-I.true, ← c.none.ensures) refl

pub returns-in_err-count : goal.returns-in_err-count
unfolding from_pieces
returns-in_err-count c position =
    let p = err_from_is_err_and c.from_residual.result c.from_residual.ensures.1 in
    rw (p.1, p.2, le-ltb _ _ c.if-class-lt-I.false) (moved_rejected _ _ _ _ _ _ _ _ c.read_number.ensures c.in_err-count.was refl)

pub read_lengths-requires : goal.read_lengths-requires
read_lengths-requires c = (number_got _ _ _ _ (sym c.read_number.ensures ∙ c.in_ok-count.was)).below

pub returns-in_err-next : goal.returns-in_err-next
unfolding from_pieces from_lengths
returns-in_err-next c position =
    let p = err_from_is_err_and c.from_residual-in_err-next.result c.from_residual-in_err-next.ensures.1 in
    rw (p.1, p.2, le-ltb _ _ c.if-class-lt-I.false)
    (moved_accepted _ _ _ _ _ _ _ _ _ c.read_number.ensures c.in_ok-count.was (moved_rejected _ _ _ _ _ _ _ _ c.read_lengths.ensures c.in_err-next.was refl))

pub overflow_sub-count : goal.overflow_sub-count
overflow_sub-count c = omega (arith, (number_got _ _ _ _ (sym c.read_number.ensures ∙ c.in_ok-count.was)).above)

pub returns-in_err-behind : goal.returns-in_err-behind
unfolding from_pieces from_lengths
returns-in_err-behind c position =
    let p = err_from_is_err_and c.from_residual-in_err-behind.result c.from_residual-in_err-behind.ensures.1 in
    rw (p.1, p.2, le-ltb _ _ c.if-class-lt-I.false)
    (moved_accepted _ _ _ _ _ _ _ _ _ c.read_number.ensures c.in_ok-count.was
    (moved_accepted _ _ _ _ _ _ _ _ _ c.read_lengths.ensures c.in_ok-next.was (splices_refused _ _ _ _ _ _ _ _ _ _ _ c.take_pieces.ensures _ c.in_err-behind.was)))

pub returns : goal.returns
unfolding from_pieces from_lengths
returns c position =
    rw (le-ltb _ _ c.if-class-lt-I.false)
    (moved_accepted _ _ _ _ _ _ _ _ _ c.read_number.ensures c.in_ok-count.was
    (moved_accepted _ _ _ _ _ _ _ _ _ c.read_lengths.ensures c.in_ok-next.was (splices_whole _ _ _ _ _ _ _ _ _ _ _ c.take_pieces.ensures _ c.in_ok-behind.was)))
