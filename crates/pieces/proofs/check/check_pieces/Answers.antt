-- `pieces::check::check_pieces` meets its contract. The loop's invariant: the check of the pieces that are left, behind what was found so far, comes to what the whole comes to. Assumes nothing.
use mathlib.Core.Path.{◌≡◌, refl, ap, ◌∙◌}
use Prim.Native.Nat.{suc, ◌-◌}
use native.Mathlib.Omega.{arith}
use Rattle.std.proofs.lemmas.Result.{err_from_is_err_and}
use Rattle.splices.specs.declared.walk.PieceWalk.{PieceWalk}
use Rattle.splices.proofs.WalkLaws.{begin_kept}
use Rattle.pieces.proofs.WalkingLaws.{walking_ready, walking_able, walking_on, next_left}
use Rattle.pieces.proofs.CheckLaws.{found_out, turn_on, last_fine, begun_whole}
use Rattle.pieces.proofs.check.check_pieces.Goals as goal

pub first_piece-w-requires : goal.first_piece-w-requires
first_piece-w-requires c = c.requires.begun

pub loop-found-init : goal.loop-found-init
loop-found-init c =
    let w = c.first_piece-w.ensures in
    let r = c.run_of-run.ensures in
    let k = begin_kept c.args.unit.class c.args.unit.alphabet c.args.frame.now c.args.symbols.now c.args.block c.args.splices c.args.position in
    (rw (w, r) c.requires.walking, (rw w (omega (arith, c.requires.walking.many, k.left_is)), refl))

pub check_piece-requires : goal.check_piece-requires
check_piece-requires c = walking_ready _ _ _ _ _ _ c.loop-found.invariant.0

pub returns-in_err-found : goal.returns-in_err-found
returns-in_err-found c =
    let p = err_from_is_err_and c.from_residual.result c.from_residual.ensures.1 in
    rw (p.1, p.2)
    (found_out _ _ _ _ _ _ c.loop-found.invariant.0 _ _ _ c.check_piece.ensures.0 _ c.in_err-found.was
    ∙ c.loop-found.invariant.1.1
    ∙ begun_whole _ _ _ _ _ _ _ c.first_piece-w.ensures c.run_of-run.ensures c.requires.least)

pub overflow_add-text : goal.overflow_add-text
overflow_add-text c = let within = rw c.in_ok-found.was at c.check_piece.ensures.1 in omega (arith, within.0, c.loop-found.invariant.1.0, c.loop-found.invariant.0.many)

pub overflow_add-least : goal.overflow_add-least
overflow_add-least c = let within = rw c.in_ok-found.was at c.check_piece.ensures.1 in omega (arith, within.1)

pub next_piece-w-requires : goal.next_piece-w-requires
next_piece-w-requires c = walking_able _ _ _ _ _ _ c.loop-found.invariant.0 c.if-w-le1.false

pub loop-found-preserved : goal.loop-found-preserved
loop-found-preserved c =
    let g = c.loop-found.invariant.0 in
    let h = c.if-w-le1.false in
    let n = c.next_piece-w.ensures.0 in
    let e : suc (c.loop-found.w.left - 1) ≡ c.loop-found.w.left = omega arith in
    let room = c.next_piece-w.ensures.1 (c.loop-found.w.left - 1) (rw e g.roomy) in
    let within = rw c.in_ok-found.was at c.check_piece.ensures.1 in (
      rw n (walking_on _ _ _ _ _ _ g h (rw n at room)),
      (
        omega (arith, within.0, c.loop-found.invariant.1.0, ap (λ (x : PieceWalk). x.left) n, next_left _ _ _ _ _ _ g h),
        rw n (turn_on _ _ _ _ _ _ g _ _ _ c.check_piece.ensures.0 h _ c.in_ok-found.was) ∙ c.loop-found.invariant.1.1,
      ),
    )

pub loop-found-smaller : goal.loop-found-smaller
loop-found-smaller c = omega (arith, ap (λ (x : PieceWalk). x.left) c.next_piece-w.ensures.0, next_left _ _ _ _ _ _ c.loop-found.invariant.0 c.if-w-le1.false)

pub returns-then-w-le1 : goal.returns-then-w-le1
returns-then-w-le1 c =
    last_fine _ _ _ _ _ _ c.loop-found.invariant.0 _ _ _ c.check_piece.ensures.0 c.if-w-le1.true _ c.in_ok-found.was
    ∙ c.loop-found.invariant.1.1
    ∙ begun_whole _ _ _ _ _ _ _ c.first_piece-w.ensures c.run_of-run.ensures c.requires.least
