-- `ecigar::text::put_edits` meets its contract. The loop's invariant: to lay the text of the edits that are left, from here, gives what laying the whole gives. Assumes nothing.
use Prim.Native.Nat.{◌+◌, ◌-◌, ◌≤◌}
use Rattle.edits.specs.Edits.{edit_list_at}
use Rattle.ecigar.specs.Table90.{print_all}
use Rattle.ecigar.specs.Ecigar.{set_out_at, operations_from}
use Rattle.ecigar.proofs.TextLaws.{Writing}
use Rattle.ecigar.proofs.text.put_edits.Given as goal

abbrev pub invariant-loop : goal.invariant-loop
invariant-loop l =
    (l.w.run + (l.run.edits - l.counter) ≤ l.run.edits)
    × Writing l.class l.alphabet l.frame l.run.mapped (l.run.edits - l.counter) l.place l.w l.out l.next l.initial.out l.at (print_all (operations_from l.alphabet l.run.mapped (set_out_at l.start) (edit_list_at l.class l.alphabet l.frame l.run.edits l.run.edits_at)))
