-- `kept::keep::Keep::over` meets its contract. The loop's invariant: to read what is left, from here, gives what reading the whole piece gives. Assumes nothing.
use Prim.Native.Nat.{◌+◌, ◌<◌}
use native.Mathlib.Omega.{arith}
use mathlib.Core.Path.{◌≡◌, sym, ap, ◌∙◌}
use mathlib.Core.Bool.{true}
use lib.ListN.{length, get_or}
use Rattle.std.proofs.Common.{rules}
use Rattle.std.proofs.lemmas.Slice.{between_to_end}
use Rattle.kept.specs.Keep.{keep_byte}
use Rattle.kept.specs.Code.Run.{run_length}
use Rattle.kept.specs.declared.keep.Keep.{Keep}
use Rattle.kept.proofs.KeepLaws.{keep_done, run_found, run_whole, turn_ends, turn_goes, turn_counted}
use Rattle.kept.proofs.keep.Keep.over.Goals as goal

pub returns : goal.returns
returns c = let done : c.loop-k.k.done ≡ true = search rules in sym (keep_done _ _ done) ∙ c.loop-k.invariant.1

pub loop-k-preserved : goal.loop-k-preserved
loop-k-preserved c =
    let k = c.loop-k.k in
    let rest = c.loop-k.rest.now in
    let end = c.in-Some.end in
    let fits = c.loop-k.invariant.0 in
    let inside : end < length rest = search rules in
    let run : run_length rest ≡ end = run_found rest end inside (search rules) (search rules) in
    let next = c.byte-k.ensures ∙ ap (λ (j : Keep). keep_byte j (get_or rest end 0)) c.run-in-loop-k.ensures in (
      rw next (turn_counted rest k fits end _),
      rw (next, between_to_end rest (end + 1) (length rest) (omega arith)) (sym (turn_goes rest k fits end run inside) ∙ c.loop-k.invariant.1),
    )

pub returns-in_default : goal.returns-in_default
returns-in_default c =
    let rest = c.loop-k.rest.now in
    let run : run_length rest ≡ length rest = run_whole rest (search rules) in
    c.run.ensures ∙ sym (turn_ends rest c.loop-k.k c.loop-k.invariant.0 run) ∙ c.loop-k.invariant.1
