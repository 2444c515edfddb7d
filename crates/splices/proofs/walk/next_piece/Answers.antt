-- `splices::walk::next_piece` meets its contract: the edits behind the piece, from where it ends on. Assumes nothing.
use Prim.Native.Nat.{ℕ}
use mathlib.Core.Path.{ap, ◌∙◌}
use native.Mathlib.Omega.{arith}
use native.Mathlib.Nat.{add-mul}
use Rattle.edits.specs.Edits.{width_of}
use Rattle.splices.specs.Located.{following}
use Rattle.splices.specs.Code.Walk.{next_piece}
use Rattle.splices.proofs.WalkLaws.{cut_mapping}
use Rattle.splices.proofs.walk.next_piece.Goals as goal

pub overflow_mul-run : goal.overflow_mul-run
overflow_mul-run c = rw c.width.ensures (omega (arith, c.requires.framed, add-mul c.args.w.edits c.args.w.behind (width_of c.args.class)))

pub overflow_add-run : goal.overflow_add-run
overflow_add-run c = rw c.width.ensures (omega (arith, c.requires.framed, add-mul c.args.w.edits c.args.w.behind (width_of c.args.class)))

pub cut_piece-requires : goal.cut_piece-requires
cut_piece-requires c = rw c.width.ensures (omega (arith, c.requires.framed, add-mul c.args.w.edits c.args.w.behind (width_of c.args.class)))

pub returns : goal.returns
unfolding next_piece
returns c =
    let at_length = c.word_at-length.ensures in
    let follows = c.following_piece-mapping.ensures in
    let m = follows.0 ∙ ap (λ (n : ℕ). following c.args.symbols.now c.args.w.mapping n) at_length.0 in
    (rw (c.width.ensures, c.word_at.ensures.0, m) at c.cut_piece.ensures, λ left h. rw (c.cut_piece.ensures, cut_mapping) (follows.1 left (omega (arith, at_length.1)) h))
