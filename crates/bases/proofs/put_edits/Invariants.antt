-- `bases::put_edits` meets its contract. The loop's invariant: to lay what is left, from both pointers on, gives what laying the whole gives. Assumes nothing.
use Prim.Native.Nat.{◌-◌}
use Rattle.writing.proofs.LayLaws.{Rest}
use Rattle.edits.specs.Edits.{edit_list_at}
use Rattle.bases.specs.Bases.{pointers, bases_from}
use Rattle.bases.proofs.BasesLaws.{BasesWalk}
use Rattle.bases.proofs.put_edits.Given as goal

abbrev pub invariant-loop : goal.invariant-loop
invariant-loop g l = BasesWalk l.class l.frame l.p (l.run.edits - l.counter) l.here × Rest l.out l.next (bases_from l.alphabet l.reference l.first l.run.mapped l.p (edit_list_at l.class l.alphabet l.frame (l.run.edits - l.counter) l.here)) l.initial.out l.at (bases_from l.alphabet l.reference l.first l.run.mapped (pointers l.position l.start) (edit_list_at l.class l.alphabet l.frame l.run.edits l.run.edits_at))
