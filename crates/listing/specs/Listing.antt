-- The listing of a unit (document 01, The listing), over any record call.
-- Assumes nothing.
use Rattle.std.specs.Prelude.{ℕ, zero, suc, ◌≡◌, cond, List, [], ◌∷◌, ◌++◌, get_or, Ok}
use Rattle.refusal.specs.Numbers.{number_of, missing, Early}
use Rattle.frame.specs.Hex.{unhex, be}
use Rattle.frame.specs.Line.{line_within, line_of_bytes}
use Rattle.frame.specs.Field.{big_at}
use Rattle.state.specs.State.{fresh_state, all_taken}
use Rattle.state.specs.declared.State.{State}
use Rattle.unit.specs.Kinds.{kind_listed, kind_refused, kind_done}
use Rattle.listing.specs.Lines.{joined, WholeLine}
use Rattle.state.specs.Listed.{most_listed, number_place, Step, refused, accepted}
use Rattle.listing.specs.Record.{Setup, FirstLine, Lawful}

-- how far the front of the two files can be read
pub data Front : Type 0 where
  -- "a refused reference line, or a unit line that is refused or missing, gives the 05 line alone": its refusal number
  alone : ℕ → Front
  -- the unit line stands, and a pair line is refused or missing: the unit line, the refusal number
  unpaired : List ℕ → ℕ → Front
  ready : Setup → Front

-- "05, record number u16 and the refusal number"
abbrev pub frame05 : ℕ → ℕ → List ℕ
frame05 number refusal = be 1 kind_refused ++ be 2 number ++ be 1 refusal

-- the 05 line
unfoldable pub line05 : ℕ → ℕ → List ℕ
line05 number refusal = line_of_bytes (frame05 number refusal)

-- "06 and the record count u16"
abbrev pub frame06 : ℕ → List ℕ
frame06 count = be 1 kind_done ++ be 2 count

-- the 06 line
unfoldable pub line06 : ℕ → List ℕ
line06 count = line_of_bytes (frame06 count)

-- the last line, where every record is accepted: bytes behind the last record line, or pair symbols left over, are refused by 14
unfoldable pub last_line : Setup → State → List (List ℕ) → List ℕ
last_line E s [] = cond (all_taken s E.counts) (line06 E.count) (line05 E.count missing)
last_line E s (l ∷ ls) = line05 E.count missing

-- an accepted record's 04 line and the lines behind it; or, at the first refusal, the 05 line and nothing after it
abbrev pub on_step : ℕ → Step → (State → List (List ℕ)) → List (List ℕ)
on_step number (refused n) more = line05 number (number_of n) ∷ []
on_step number (accepted frame next) more = line_of_bytes frame ∷ more next

-- the lines of the listing from a state on, where so many records are left and these lines of the unit file
unfoldable pub records : Setup → ℕ → State → List (List ℕ) → List (List ℕ)
records E zero s ls = last_line E s ls ∷ []
records E (suc k) s [] = line05 s.number missing ∷ []
records E (suc k) s (l ∷ ls) = on_step s.number (E.step s l) (λ next. records E k next ls)

-- "First the unit line again", or the 05 line alone
unfoldable pub first_of : Front → List ℕ
first_of (alone n) = line05 0 n
first_of (unpaired first n) = first
first_of (ready E) = E.first

-- the lines behind the first
unfoldable pub rest_of : Front → List (List ℕ)
rest_of (alone n) = []
rest_of (unpaired first n) = line05 0 n ∷ []
rest_of (ready E) = records E E.count fresh_state E.lines

-- the lines of the listing
abbrev pub listed : Front → List (List ℕ)
listed F = first_of F ∷ rest_of F

-- THE LISTING, as the bytes of a file
unfoldable pub listing : Front → List ℕ
listing F = joined (listed F)

-- what the theorems ask of the front of the files
unfoldable pub LawfulFront : Front → Type 0
LawfulFront (alone n) = Early n
LawfulFront (unpaired first n) = FirstLine first × Early n
LawfulFront (ready E) = Lawful E

-- the state after an accepted record, and what follows from it
abbrev pub on_accepted : State → Step → (State → State) → State
on_accepted s (refused n) more = s
on_accepted s (accepted frame next) more = more next

-- the state behind the last accepted record, from a state on
unfoldable pub state_behind : Setup → ℕ → State → List (List ℕ) → State
state_behind E zero s ls = s
state_behind E (suc k) s [] = s
state_behind E (suc k) s (l ∷ ls) = on_accepted s (E.step s l) (λ next. state_behind E k next ls)

-- ---- what is said of a listing's lines

-- each of some lines
pub data Each (P : List ℕ → Type 0) : List (List ℕ) → Type 0 where
  none : Each P []
  one : {l : List ℕ} {ls : List (List ℕ)} → P l → Each P ls → Each P (l ∷ ls)

-- a line as a listing has it: lower-case digits, two a byte, no more than the limit; one 0A, at its end, and no zero byte
pub record ListingLine (line : List ℕ) : Type 0 where
  pub bytes : ℕ
  pub digits : line_within most_listed line ≡ Ok bytes
  pub whole : WholeLine line

-- the 04 line of a record
pub record Numbered (number : ℕ) (line : List ℕ) : Type 0 where
  pub kind : get_or (unhex line) 0 0 ≡ kind_listed
  pub is : big_at 2 (unhex line) number_place ≡ number

-- every record is listed, and no pair symbol is left over
pub record Finished (E : Setup) (s : State) : Type 0 where
  pub number : s.number ≡ E.count
  pub symbols : s.index ≡ E.counts
