-- The listing as a program makes it: one call a line of the unit file.
-- Assumes nothing.
use Rattle.std.specs.Prelude.{ℕ, zero, suc, cond, List, [], ◌∷◌, ◌++◌, ltb}
use Rattle.std.proofs.Math.Option.{Option, none, some}
use Rattle.refusal.specs.Numbers.{number_of, missing}
use Rattle.frame.specs.Line.{line_of_bytes}
use Rattle.state.specs.declared.State.{State}
use Rattle.state.specs.Listed.{Step, refused, accepted}
use Rattle.listing.specs.Record.{Setup}
use Rattle.listing.specs.Listing.{line05, last_line}

-- print these bytes and go on from this state; or print these bytes and stop
pub data Turn : Type 0 where
  go : List ℕ → State → Turn
  stop : List ℕ → Turn

-- a record call's answer, printed
abbrev pub step_turn : ℕ → Step → Turn
step_turn number (refused n) = stop (line05 number (number_of n))
step_turn number (accepted frame next) = go (line_of_bytes frame) next

-- a record is wanted: the next line of the file is its record line, or the lines run out
abbrev pub record_turn : Setup → State → Option (List ℕ) → Turn
record_turn E s none = stop (line05 s.number missing)
record_turn E s (some l) = step_turn s.number (E.step s l)

-- none is wanted: the last line, by whether the file ends
abbrev pub last_turn : Setup → State → Option (List ℕ) → Turn
last_turn E s none = stop (last_line E s [])
last_turn E s (some l) = stop (last_line E s (l ∷ []))

-- one line of the unit file, or its end
unfoldable pub turn : Setup → State → Option (List ℕ) → Turn
turn E s line = cond (ltb s.number E.count) (record_turn E s line) (last_turn E s line)

-- what a turn prints, and the turns behind it
abbrev pub on_turn : Turn → (State → List ℕ) → List ℕ
on_turn (go out next) more = out ++ more next
on_turn (stop out) more = out

-- what so many turns print, whatever a turn is: one a line, and behind the last line the end of the file
unfoldable pub run_by : (State → Option (List ℕ) → Turn) → ℕ → State → List (List ℕ) → List ℕ
run_by t zero s ls = []
run_by t (suc k) s [] = on_turn (t s none) (λ next. run_by t k next [])
run_by t (suc k) s (l ∷ ls) = on_turn (t s (some l)) (λ next. run_by t k next ls)

-- what so many turns of a setup print
abbrev pub run : Setup → ℕ → State → List (List ℕ) → List ℕ
run E k s ls = run_by (turn E) k s ls
