-- Resuming (document 01): the first and the last kept line, where to go on, and what is supplied.
-- Assumes nothing.
use Rattle.std.specs.Prelude.{ℕ, zero, suc, ◌+◌, ◌-◌, ◌*◌, ◌<◌, ◌≤◌, ◌≡◌, cond, ◌⊎◌, List, [], ◌∷◌, ◌++◌, eqb, length, get_or, take, replicate, Option as StdOption, Some, None, Ok}
use Rattle.std.proofs.Math.Option.{Option, none, some}
use Rattle.refusal.specs.declared.Refusal.{Refusal}
use Rattle.refusal.specs.declared.Refusal.TheVariants.{OtherFirst, OtherLast}
use Rattle.refusal.specs.Numbers.{number_of, missing, other_last}
use Rattle.frame.specs.Hex.{unhex}
use Rattle.frame.specs.Line.{line_within}
use Rattle.frame.specs.Field.{big_at}
use Rattle.frame.specs.Steps.{after_line}
use Rattle.unit.specs.Pairs.{subsequences}
use Rattle.state.specs.declared.State.{State}
use Rattle.state.specs.State.{index_count}
use Rattle.unit.specs.Kinds.{kind_listed, kind_refused, kind_done}
use Rattle.listing.specs.Lines.{lines_of, joined, ends, kept}
use Rattle.frame.specs.Same.{same_list}
use Rattle.state.specs.Listed.{most_listed, least_listed, number_place, index_place, state_back}
use Rattle.listing.specs.Record.{Setup}
use Rattle.listing.specs.Listing.{Front, alone, unpaired, ready, line05, records, first_of, rest_of, listing}

-- ---- the last kept line

-- what it says: go on from a state; the listing is whole; or nothing that can be continued
pub data Last : Type 0 where
  go_on : State → Last
  whole : Last
  bad : Last

-- "a 4-byte 05"
abbrev pub bytes05 : ℕ
bytes05 = 4

-- "or a 3-byte 06"
abbrev pub bytes06 : ℕ
bytes06 = 3

-- what an 04 line says, by the state behind its record
abbrev pub last_by : StdOption State → Last
last_by None = bad
last_by (Some s) = go_on s

abbrev pub listed_last : ℕ → List ℕ → List ℕ → Last
listed_last count counts bs = last_by (state_back count counts bs)

-- by the frame's kind
unfoldable pub frame_last : ℕ → List ℕ → List ℕ → Last
frame_last count counts bs =
    cond (eqb (get_or bs 0 0) kind_listed) (listed_last count counts bs)
    (cond (eqb (get_or bs 0 0) kind_refused) (cond (eqb (length bs) bytes05) whole bad)
    (cond (eqb (get_or bs 0 0) kind_done) (cond (eqb (length bs) bytes06) whole bad) bad))

-- "hexadecimal as above", of at most 20,808 digits
unfoldable pub last_of : ℕ → List ℕ → List ℕ → Last
last_of count counts line = after_line (λ refusal. bad) (line_within most_listed line) (frame_last count counts (unhex line))

-- ---- where to go on

-- of the kept lines only the first and the last are looked at
pub data Edges : Type 0 where
  nothing : Edges
  edges : List ℕ → List ℕ → Edges

-- the last of some lines, or the line before them
unfoldable pub last_from : List ℕ → List (List ℕ) → List ℕ
last_from z [] = z
last_from z (l ∷ ls) = last_from l ls

-- the first and the last of some lines
unfoldable pub edges_of : List (List ℕ) → Edges
edges_of [] = nothing
edges_of (l ∷ ls) = edges l (last_from l ls)

-- the same of two lines as they are lent: a kept line is never empty, so an empty first one stands for nothing kept
unfoldable pub edges_from : List ℕ → List ℕ → Edges
edges_from first last = cond (eqb (length first) 0) nothing (edges first last)

-- where to go on
pub data Place : Type 0 where
  -- "Nothing kept: start afresh"
  afresh : Place
  -- "After a unit line all the rest is added"
  second : Place
  -- behind an 04 line, from this state
  on : State → Place
  -- "After 05 or 06 nothing is added"
  over : Place
  -- a refused resume
  no : Refusal → Place

-- where to go on behind a last line, by what it says; "else 16"
abbrev pub on_last : Last → Place
on_last (go_on s) = on s
on_last whole = over
on_last bad = no OtherLast

-- "Otherwise 15 is checked first. The last kept line must be .. equal to the first line, or ..; else 16"
abbrev pub place_by : List ℕ → ℕ → List ℕ → Edges → Place
place_by first count counts nothing = afresh
place_by first count counts (edges a z) = cond (same_list a first) (cond (same_list z first) second (on_last (last_of count counts z))) (no OtherFirst)

-- "also for an 04 line where a reference, unit or pair line is refused or .. missing": there no record number is below the count
unfoldable pub count_of : Front → ℕ
count_of (alone n) = 0
count_of (unpaired first n) = 0
count_of (ready E) = E.count

-- and no symbol is there
unfoldable pub counts_of : Front → List ℕ
counts_of (alone n) = replicate subsequences 0
counts_of (unpaired first n) = replicate subsequences 0
counts_of (ready E) = E.counts

-- where to go on in the listing of a front
unfoldable pub place : Front → Edges → Place
place F e = place_by (first_of F) (count_of F) (counts_of F) e

-- an 04 line that can be continued, said field by field: the u16 at byte 1 is its record number, the u16 at byte 3 + 2 i its i-th index
pub record ContinuableLine (count : ℕ) (counts line : List ℕ) : Type 0 where
  pub bytes : ℕ
  pub digits : line_within most_listed line ≡ Ok bytes
  pub kind : get_or (unhex line) 0 0 ≡ kind_listed
  pub least : least_listed ≤ bytes
  pub in_count : big_at 2 (unhex line) number_place < count
  pub in_counts : (i : ℕ) → i < index_count → big_at 2 (unhex line) (index_place + 2 * i) ≤ get_or counts i 0

-- an 05 or an 06 line, of its own number of bytes
pub record ClosingLine (kind_of bytes : ℕ) (line : List ℕ) : Type 0 where
  pub digits : line_within most_listed line ≡ Ok bytes
  pub kind : get_or (unhex line) 0 0 ≡ kind_of

-- the last line of a listing
abbrev pub Closes : List ℕ → Type 0
Closes line = ClosingLine kind_refused bytes05 line ⊎ ClosingLine kind_done bytes06 line

-- the lines that document 01 lets be continued
pub data Continues (F : Front) (line : List ℕ) : Type 0 where
  is_first : line ≡ first_of F → Continues F line
  is_listed : ContinuableLine (count_of F) (counts_of F) line → Continues F line
  is_refused : ClosingLine kind_refused bytes05 line → Continues F line
  is_done : ClosingLine kind_done bytes06 line → Continues F line

-- ---- what is supplied

-- the bytes to add behind the kept ones, or a refusal number
pub data Supplied : Type 0 where
  add : List ℕ → Supplied
  refuse : ℕ → Supplied

-- "After an 04 line the record lines up to its number are passed over by their 0A only": what stands behind the j-th 0A, if there are so many
unfoldable pub skip : ℕ → List (List ℕ) → Option (List (List ℕ))
skip zero ls = some ls
skip (suc j) [] = none
skip (suc j) (l ∷ ls) = cond (ends l) (skip j ls) none

-- "if they run out, 05 with the next number and 14 is added"
abbrev pub on_skip : Setup → State → Option (List (List ℕ)) → List (List ℕ)
on_skip E s none = line05 s.number missing ∷ []
on_skip E s (some ls) = records E (E.count - s.number) s ls

-- what is supplied behind an 04 line, from the state behind its record; where no record is read, `place` never answers `on`, for no number is below a count of 0
unfoldable pub supplied_from : Front → State → Supplied
supplied_from (alone n) s = refuse other_last
supplied_from (unpaired first n) s = refuse other_last
supplied_from (ready E) s = add (joined (on_skip E s (skip s.number E.lines)))

-- what is supplied at each place
unfoldable pub added : Front → Place → Supplied
added F afresh = add (listing F)
added F second = add (joined (rest_of F))
added F (on s) = supplied_from F s
added F over = add []
added F (no n) = refuse (number_of n)

-- what is supplied goes by the front of the files, the first and the last kept line alone
unfoldable pub supply : Front → Edges → Supplied
supply F e = added F (place F e)

-- the first and the last kept line of a found file
abbrev pub edges_in : List ℕ → Edges
edges_in found = edges_of (lines_of (kept found))

-- what is supplied for a found file
abbrev pub supplied : Front → List ℕ → Supplied
supplied F found = supply F (edges_in found)

-- the record number of a refused resume
abbrev pub no_record : ℕ
no_record = 65535

-- what the resume program prints: the kept lines, then the missing ones; "a refused resume prints only 05, ffff and its number"
abbrev pub printed : List ℕ → Supplied → List ℕ
printed k (add more) = k ++ more
printed k (refuse n) = line05 no_record n

-- what is printed for a found file
abbrev pub resumed : Front → List ℕ → List ℕ
resumed F found = printed (kept found) (supplied F found)

-- a listing that was stopped at byte n, with k zero bytes behind it
abbrev pub torn : ℕ → ℕ → List ℕ → List ℕ
torn n k f = take n f ++ replicate k 0

-- the listing, stopped and resumed as often as the list says; its first entry is the last stop
unfoldable pub resumed_again : Front → List (ℕ × ℕ) → List ℕ
resumed_again F [] = listing F
resumed_again F (p ∷ ps) = resumed F (torn p.0 p.1 (resumed_again F ps))
