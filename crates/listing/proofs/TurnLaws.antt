-- The laws of a program's loop: from any state it prints the rest of the listing.
-- Assumes nothing.
use Prim.Native.Nat.{ℕ, zero, suc, ◌+◌}
use native.Mathlib.Omega.{arith}
use mathlib.Core.Path.{◌≡◌, refl, sym, ap}
use mathlib.Core.List.{List, [], ◌∷◌, ◌++◌, append-nil}
use borrow.Author.Tests.{lt-ltb, le-ltb}
use Rattle.refusal.specs.Numbers.{number_of}
use Rattle.frame.proofs.LineLaws.{line_of_bytes}
use Rattle.state.specs.State.{fresh_state, Shaped}
use Rattle.state.specs.declared.State.{State}
use Rattle.listing.specs.Lines.{joined}
use Rattle.state.specs.Listed.{Step, refused, accepted}
use Rattle.listing.specs.Record.{Setup, Accepted, Lawful}
use Rattle.listing.specs.Listing.{ready, line05, last_line, on_step, records, rest_of}
use Rattle.listing.specs.Turn.{turn, step_turn, on_turn, run_by, run}

module _ {E : Setup} (w : Lawful E) where
  -- k records are left: k + 1 turns
  pub run_records : (k : ℕ) (s : State) (ls : List (List ℕ)) → Shaped s → s.number + k ≡ E.count → run E (suc k) s ls ≡ joined (records E k s ls)
  unfolding run_by turn records joined last_line
  run_records zero s [] i e = rw (le-ltb s.number E.count (omega arith), append-nil)
  run_records zero s (l ∷ ls) i e = rw (le-ltb s.number E.count (omega arith), append-nil)
  run_records (suc k) s [] i e = rw (lt-ltb s.number E.count (omega arith), append-nil)
  run_records (suc k) s (l ∷ ls) i e = rw (lt-ltb s.number E.count (omega arith)) (by (E.step s l) refl (λ u. run_records k u ls))
    where
      by : (t : Step) → E.step s l ≡ t → ((u : State) → Shaped u → u.number + k ≡ E.count → run E (suc k) u ls ≡ joined (records E k u ls))
          → on_turn (step_turn s.number t) (λ u. run E (suc k) u ls) ≡ joined (on_step s.number t (λ u. records E k u ls))
      by (refused n) t go = sym (append-nil (line05 s.number (number_of n)))
      by (accepted frame u) t go =
          let a : Accepted E s l frame u = w.acceptance s l frame u i t in
          ap (λ (r : List ℕ). line_of_bytes frame ++ r) (go u a.indexes (omega (arith, a.number)))

  -- from the first record on
  pub run_listing : run E (suc E.count) fresh_state E.lines ≡ joined (rest_of (ready E))
  unfolding rest_of
  run_listing = run_records E.count fresh_state E.lines refl (omega arith)
