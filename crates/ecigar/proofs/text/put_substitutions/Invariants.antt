-- `ecigar::text::put_substitutions` meets its contract. The loop's invariant: there is a walk that has come so far, and to lay the text of the edits that are left, from it, gives what laying the whole gives. Assumes nothing.
use Prim.Native.Nat.{◌-◌}
use Rattle.edits.specs.Edits.{edit_list_at}
use Rattle.ecigar.specs.Ecigar.{ecigar_of}
use Rattle.ecigar.proofs.SubstitutionLaws.{SubstitutionsWriting}
use Rattle.ecigar.proofs.text.put_substitutions.Given as goal

abbrev pub invariant-loop : goal.invariant-loop
invariant-loop l =
    SubstitutionsWriting l.class l.alphabet l.frame l.run.mapped (l.run.edits - l.counter) l.at l.done l.out l.next l.initial.out l.from (ecigar_of l.alphabet l.run.mapped (edit_list_at l.class l.alphabet l.frame l.run.edits l.run.edits_at))
