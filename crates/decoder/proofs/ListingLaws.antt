-- The laws of the listing of two files: how long its lines are, that no byte is zero, that the reference is read first, and that one call of `turn` a line prints it.
-- Assumes nothing.
use Prim.Native.Nat.{ℕ, zero, suc, ◌+◌, ◌-◌, ◌<◌, ◌≤◌}
use native.Mathlib.Omega.{arith}
use mathlib.Core.Path.{◌≡◌, refl, sym, ap, ◌∙◌}
use mathlib.Core.List.{List, [], ◌∷◌, ◌++◌, append-nil}
use mathlib.Core.Option.{Option, none as end-of-file, some}
use lib.Dec.{eqb, ltb}
use lib.ListN.{length, get_or, length-append, get_or-append}
use lib.Seq.{get_or-append-add}
use borrow.Author.Tests.{ne_eqb, eqb-false, ltb-true, ltb-false}
use Rattle.refusal.specs.Numbers.{missing}
use Rattle.frame.specs.Hex.{unhex}
use Rattle.frame.specs.Field.{big_at}
use Rattle.frame.specs.Line.{line_end}
use Rattle.frame.proofs.HexLaws.{by_test}
use Rattle.frame.proofs.LineLaws.{frame_is_line}
use Rattle.unit.specs.Pairs.{subsequences}
use Rattle.state.specs.State.{fresh_state}
use Rattle.state.specs.Listed.{most_listed, number_place, state_at}
use Rattle.unit.specs.declared.Unit.{Unit}
use Rattle.state.specs.declared.State.{State}
use Rattle.listing.specs.Lines.{push_byte, lines_of, joined, ends, WholeLine, end, more}
use Rattle.listing.specs.Files.{good, wrong, pairs}
use Rattle.listing.specs.Listing.{Front, line05, last_line, first_of, rest_of, listed, listing, Each, none, one, ListingLine}
use Rattle.listing.specs.Resuming.{edges, ContinuableLine, add, skip}
use Rattle.listing.specs.Turn.{Turn, go, stop, on_turn, turn, run_by, run}
use Rattle.listing.proofs.TurnLaws.{run_listing}
use Rattle.listing.proofs.PlaceLaws.{goes_on_lem}
use Rattle.decoder.specs.Files.{read_reference, read_unit, read_pair, counts_in, table_of}
use Rattle.decoder.specs.Decoder.{setup_of, front_of, listing_of, rest_listed, supplied_by, Opened, setup_in}
use Rattle.decoder.specs.Turned.{lent_line, turn_of, lent_for, calls_for}
use Rattle.decoder.proofs.OpenedLaws.{opened_front, pairs_stop}
use Rattle.decoder.proofs.SymbolsLaws.{opened_lawful}

-- ---- how long a line is

line_short : (l : List ℕ) → ListingLine l → length l ≤ most_listed + 1
line_short l w = let i = frame_is_line most_listed l w.bytes w.digits in omega (arith, i.fits, i.long)

pub lines_short : {ls : List (List ℕ)} → Each ListingLine ls → Each (λ l. length l ≤ most_listed + 1) ls
lines_short none = none
lines_short (one {l} w rest) = one (line_short l w) (lines_short rest)

-- ---- no zero byte

whole_bytes : {l : List ℕ} → WholeLine l → (i : ℕ) → i < length l → 0 < get_or l i 0
whole_bytes end zero h = omega arith
whole_bytes end (suc i) h = absurd (omega arith)
whole_bytes (more {x} a b w) zero h = let n : x ≡ 0 → ⊥ = eqb-false x 0 a in omega arith
whole_bytes (more a b w) (suc i) h = whole_bytes w i (omega arith)

-- of two lists, one after the other, in both
both_bytes : (xs ys : List ℕ) → ((i : ℕ) → i < length xs → 0 < get_or xs i 0) → ((i : ℕ) → i < length ys → 0 < get_or ys i 0) → (i : ℕ) → i < length (xs ++ ys) → 0 < get_or (xs ++ ys) i 0
both_bytes xs ys f g i h =
    by_test (ltb i (length xs))
    (λ t. let l : i < length xs = ltb-true i (length xs) t in rw (get_or-append xs ys 0 i l) (f i l))
    (λ t.
    let l : length xs ≤ i = ltb-false i (length xs) t in
    let e : i ≡ length xs + (i - length xs) = omega arith in
    rw (e, get_or-append-add xs ys (i - length xs) 0) (g (i - length xs) (omega (arith, length-append xs ys))))

joined_bytes : {ls : List (List ℕ)} → Each ListingLine ls → (i : ℕ) → i < length (joined ls) → 0 < get_or (joined ls) i 0
unfolding joined
joined_bytes none i h = absurd (omega arith)
joined_bytes (one {l} {ls} w rest) i h = both_bytes l (joined ls) (whole_bytes w.whole) (joined_bytes rest) i h

pub listing_bytes : (F : Front) → Each ListingLine (listed F) → (i : ℕ) → i < length (listing F) → 0 < get_or (listing F) i 0
unfolding listing
listing_bytes F = joined_bytes

-- ---- the front

pub reference_first : (refFile unitFile : List ℕ) (n : ℕ) → read_reference (lines_of refFile) ≡ wrong n → listing_of refFile unitFile ≡ line05 0 n
unfolding front_of listing joined first_of rest_of
reference_first refFile unitFile n e = rw e (append-nil (line05 0 n))

-- place j counted from 0 on
from_0 : (ps : List (List ℕ)) → ((j : ℕ) → j < length ps → (row : List ℕ) × (read_pair j (get_or ps j []) ≡ good row)) → (j : ℕ) → j < length ps → (row : List ℕ) × (read_pair (0 + j) (get_or ps j []) ≡ good row)
from_0 ps h j l = let start : 0 + j ≡ j = omega arith in rw start (h j l)

module _ (refFile unitFile reference : List ℕ) (read : read_reference (lines_of refFile) ≡ good reference) where
  pub unit_missing : lines_of unitFile ≡ [] → listing_of refFile unitFile ≡ line05 0 missing
  unfolding front_of listing joined first_of rest_of
  unit_missing e = rw (read, e) (append-nil (line05 0 missing))

  pub unit_refused_alone : (line : List ℕ) (ls : List (List ℕ)) → lines_of unitFile ≡ line ∷ ls → (n : ℕ) → read_unit line ≡ wrong n → listing_of refFile unitFile ≡ line05 0 n
  unfolding front_of listing joined first_of rest_of
  unit_refused_alone line ls e n q = rw (read, e, q) (append-nil (line05 0 n))

  -- behind the unit line and those of the pair lines that are read
  module _ (first : List ℕ) (u : Unit) (ps : List (List ℕ)) (unit : read_unit first ≡ good u) (few : length ps < subsequences)
      (pairs_read : (j : ℕ) → j < length ps → (row : List ℕ) × (read_pair j (get_or ps j []) ≡ good row)) where
    pub pair_missing : lines_of unitFile ≡ first ∷ ps → listing_of refFile unitFile ≡ first ++ line05 0 missing
    unfolding front_of listing joined first_of rest_of pairs
    pair_missing e =
        let more : subsequences ≡ length ps + suc (subsequences - suc (length ps)) = omega arith in
        let all : lines_of unitFile ≡ first ∷ (ps ++ []) = e ∙ ap (λ (x : List (List ℕ)). first ∷ x) (sym (append-nil ps)) in
        rw (read, all, unit, pairs_stop ps subsequences (subsequences - suc (length ps)) 0 first [] _ missing more (from_0 ps pairs_read) (λ d. refl))
        (ap (λ (x : List ℕ). first ++ x) (append-nil (line05 0 missing)))

    pub pair_refused_first : (line : List ℕ) (ls : List (List ℕ)) → lines_of unitFile ≡ first ∷ (ps ++ line ∷ ls) → (n : ℕ) → read_pair (length ps) line ≡ wrong n
        → listing_of refFile unitFile ≡ first ++ line05 0 n
    unfolding front_of listing joined first_of rest_of pairs
    pair_refused_first line ls e n q =
        let more : subsequences ≡ length ps + suc (subsequences - suc (length ps)) = omega arith in
        let at : 0 + length ps ≡ length ps = omega arith in
        rw (read, e, unit, pairs_stop ps subsequences (subsequences - suc (length ps)) 0 first (line ∷ ls) _ n more (from_0 ps pairs_read) (λ d. rw (at, q)))
        (ap (λ (x : List ℕ). first ++ x) (append-nil (line05 0 n)))

-- ---- calls of `turn`

-- a line of a file has a byte
abbrev Some : List ℕ → Type 0
Some l = 0 < length l

some_byte : (x : ℕ) (l : List ℕ) → Some (x ∷ l)
some_byte x l = omega arith

push_some : (x : ℕ) {ls : List (List ℕ)} → Each Some ls → Each Some (push_byte x ls)
unfolding push_byte
push_some x none = one (some_byte x []) none
push_some x (one {l} h rest) = one (some_byte x l) rest

lines_some : (file : List ℕ) → Each Some (lines_of file)
unfolding lines_of
lines_some [] = none
lines_some (x ∷ file) =
    by_test (eqb x line_end)
    (λ t. rw t (one (some_byte x []) (lines_some file)))
    (λ t. rw t (push_some x (lines_some file)))

behind_some : (xs : List (List ℕ)) {ys : List (List ℕ)} → Each Some (xs ++ ys) → Each Some ys
behind_some [] h = h
behind_some (x ∷ xs) (one a rest) = behind_some xs rest

opened_some : {refFile unitFile : List ℕ} (o : Opened refFile unitFile) → Each Some o.lines
opened_some {refFile} {unitFile} o = behind_some (o.first ∷ o.pairs) (rw o.file at (lines_some unitFile))

skip_some : (j : ℕ) (ls rest : List (List ℕ)) → Each Some ls → skip j ls ≡ some rest → Each Some rest
unfolding skip
skip_some zero ls rest h e = let z : ls ≡ rest = cc in rw (← z) h
skip_some (suc j) [] rest h e = absurd (let z : ◌≡◌ {A = ℕ} 0 1 = cc in omega arith)
skip_some (suc j) (l ∷ ls) rest (one a h) e =
    by_test (ends l)
    (λ t. skip_some j ls rest h (simp t at e))
    (λ t. absurd (let q : ◌≡◌ {A = Option (List (List ℕ))} end-of-file (some rest) = simp t at e in let z : ◌≡◌ {A = ℕ} 0 1 = cc in omega arith))

on_turn_lem : (t : Turn) (f g : State → List ℕ) → ((next : State) → f next ≡ g next) → on_turn t f ≡ on_turn t g
on_turn_lem (go bytes next) f g h = ap (λ (more : List ℕ). bytes ++ more) (h next)
on_turn_lem (stop bytes) f g h = refl

module _ (u : Unit) (reference symbols counts first : List ℕ) (lines : List (List ℕ)) where
  -- a turn looks at neither the unit line nor the lines behind
  same_turn : (state : State) (line : Option (List ℕ)) → turn (setup_of u reference symbols counts [] []) state line ≡ turn (setup_of u reference symbols counts first lines) state line
  unfolding turn last_line
  same_turn state end-of-file = refl
  same_turn state (some l) = refl

  turn_end : (state : State) → turn_of u reference symbols counts state [] ≡ turn (setup_of u reference symbols counts first lines) state end-of-file
  unfolding turn_of lent_line
  turn_end state = same_turn state end-of-file

  turn_line : (state : State) (l : List ℕ) → Some l → turn_of u reference symbols counts state l ≡ turn (setup_of u reference symbols counts first lines) state (some l)
  unfolding turn_of lent_line
  turn_line state l h = rw (ne_eqb (length l) 0 (λ e. omega arith)) (same_turn state (some l))

  -- so the calls print what the turns print
  calls_run : (k : ℕ) (state : State) (ls : List (List ℕ)) → Each Some ls
      → run_by (λ s line. turn_of u reference symbols counts s (lent_for line)) k state ls ≡ run (setup_of u reference symbols counts first lines) k state ls
  unfolding run_by
  calls_run zero state ls h = refl
  calls_run (suc k) state [] h = rw (turn_end state) (on_turn_lem (turn (setup_of u reference symbols counts first lines) state end-of-file) _ _ (λ next. calls_run k next [] none))
  calls_run (suc k) state (l ∷ ls) (one a h) = rw (turn_line state l a) (on_turn_lem (turn (setup_of u reference symbols counts first lines) state (some l)) _ _ (λ next. calls_run k next ls h))

-- ---- the calls for two files

module _ {refFile unitFile : List ℕ} (o : Opened refFile unitFile) where
  calls_as : (k : ℕ) (state : State) (ls : List (List ℕ)) → Each Some ls → calls_for o k state ls ≡ run (setup_in o) k state ls
  calls_as = calls_run o.unit o.reference (table_of o.rows) (counts_in o.rows) o.first o.lines

  -- from the first record on
  pub opened_calls : calls_for o (suc o.unit.records) fresh_state o.lines ≡ joined (rest_listed refFile unitFile)
  opened_calls =
      rw (opened_front o)
      (calls_as (suc o.unit.records) fresh_state o.lines (opened_some o) ∙ run_listing (opened_lawful o))

  -- behind a kept 04 line
  pub opened_goes_on : (Kept-line : List ℕ) → ContinuableLine o.unit.records (counts_in o.rows) Kept-line → (ls : List (List ℕ))
      → skip (big_at 2 (unhex Kept-line) number_place + 1) o.lines ≡ some ls
      → supplied_by refFile unitFile (edges o.first Kept-line)
      ≡ add (calls_for o (suc (o.unit.records - (big_at 2 (unhex Kept-line) number_place + 1))) (state_at (unhex Kept-line)) ls)
  opened_goes_on Kept-line w ls e =
      rw (opened_front o)
      (goes_on_lem (setup_in o) (opened_lawful o) Kept-line w ls e
      ∙ ap add (sym (calls_as _ _ ls (skip_some _ o.lines ls (opened_some o) e))))
