-- `bases::check_piece` meets its contract. The loop's invariant: the refusal of what is left, from both pointers on, is that of the whole. Assumes nothing.
use Prim.Native.Nat.{◌-◌}
use mathlib.Core.Path.{◌≡◌}
use Rattle.edits.specs.Edits.{edit_list_at}
use Rattle.bases.specs.Bases.{pointers, refusal_from}
use Rattle.bases.proofs.BasesLaws.{BasesWalk}
use Rattle.bases.proofs.check_piece.Given as goal

abbrev pub invariant-loop : goal.invariant-loop
invariant-loop l = BasesWalk l.class l.frame l.p (l.run.edits - l.counter) l.at × (refusal_from l.alphabet l.reference l.first l.run.mapped l.p (edit_list_at l.class l.alphabet l.frame (l.run.edits - l.counter) l.at) ≡ refusal_from l.alphabet l.reference l.first l.run.mapped (pointers l.position l.start) (edit_list_at l.class l.alphabet l.frame l.run.edits l.run.edits_at))
