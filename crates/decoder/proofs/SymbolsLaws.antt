-- The laws of the pair symbols that a listing's records take: from each subsequence in order, each once, and as many as its index says.
-- Assumes nothing.
use Prim.Native.Nat.{ℕ, zero, suc, ◌+◌, ◌<◌, ◌≤◌}
use native.Mathlib.Nat.{zero-add, add-zero}
use native.Mathlib.Omega.{arith}
use mathlib.Core.Path.{◌≡◌, refl, sym, ap, ◌∙◌}
use mathlib.Core.List.{List, [], ◌∷◌, ◌++◌, append_assoc, append-nil}
use lib.Dec.{ltb}
use lib.ListN.{length, get_or, take, get_or-replicate, get_or-eq_default}
use lib.Seq.{take-length, length-take-le}
use borrow.Author.Tests.{ltb-true, ltb-false}
use Rattle.refusal.specs.Numbers.{number_of, missing}
use Rattle.frame.proofs.HexLaws.{by_test}
use Rattle.frame.specs.Hex.{unhex}
use Rattle.frame.proofs.LineLaws.{line_of_bytes}
use Rattle.unit.specs.Pairs.{subsequences}
use Rattle.state.specs.State.{fresh_state, Shaped, taken, all_taken}
use Rattle.state.specs.Listed.{listed_head, Step, refused, accepted}
use Rattle.unit.specs.declared.Unit.{Unit}
use Rattle.state.specs.declared.State.{State}
use Rattle.taking.specs.Reading.{symbols_of}
use Rattle.taking.proofs.Reading.{takes_row}
use Rattle.plan.specs.Plan.{record_steps, record_takes}
use Rattle.record.specs.Record.{step_of}
use Rattle.record.proofs.RecordLaws.{step_taken, step_shaped}
use Rattle.listing.specs.Record.{Setup, Accepted, Lawful}
use Rattle.listing.specs.Listing.{Front, alone, unpaired, ready, line06, on_step, records, on_accepted, state_behind, first_of, rest_of, LawfulFront, Finished, last_line}
use Rattle.listing.specs.Resuming.{last_from}
use Rattle.listing.proofs.ListingLaws.{not_06, listing_finished}
use Rattle.decoder.specs.Files.{counts_in, table_of}
use Rattle.decoder.specs.Decoder.{setup_by, front_of, Opened, setup_in}
use Rattle.decoder.specs.Symbols.{on_taken, symbols_taken_from, symbols_taken, RecordLine, AllTaken}
use Rattle.decoder.proofs.TableLaws.{Few, count_at_lem, symbol_stands}
use Rattle.decoder.proofs.LawfulLaws.{front_is_lawful}
use Rattle.decoder.proofs.OpenedLaws.{opened_front, front_opened, opened_few}

-- ---- the symbols of one record

module _ (u : Unit) (reference : List ℕ) (rows : List (List ℕ)) (few : Few rows) (all-rows : length rows ≡ subsequences) where
  -- an accepted record goes on in each row where the records before it stopped
  step_takes : (state : State) (line frame : List ℕ) (next : State) → Shaped state → step_of u reference (table_of rows) (counts_in rows) state line ≡ accepted frame next
      → (s : ℕ) → s < subsequences
      → take (taken state s) (get_or rows s []) ++ symbols_of s (record_takes u reference (table_of rows) state line) ≡ take (taken next s) (get_or rows s [])
  step_takes state line frame next i e s known =
      let w = step_taken u reference (table_of rows) (counts_in rows) state line frame next e in
      takes_row (table_of rows) (counts_in rows) (get_or rows s []) s (count_at_lem rows s) (symbol_stands rows few all-rows s) (record_steps u reference (table_of rows) (unhex line)) state w.plan w.moved (rw i known) w.taken.steps
      ∙ ap (λ (x : State). take (taken x s) (get_or rows s [])) (sym w.next_is)

  -- so do all that follow it
  taken_rows : (first : List ℕ) (lines : List (List ℕ)) (s : ℕ) → s < subsequences → (k : ℕ) (state : State) (ls : List (List ℕ)) → Shaped state
      → take (taken state s) (get_or rows s []) ++ symbols_taken_from u reference (table_of rows) (counts_in rows) s k state ls ≡ take (taken (state_behind (setup_by reference u first rows lines) k state ls) s) (get_or rows s [])
  unfolding symbols_taken_from state_behind
  taken_rows first lines s known zero state ls i = append-nil _
  taken_rows first lines s known (suc k) state [] i = append-nil _
  taken_rows first lines s known (suc k) state (l ∷ ls) i =
      by (step_of u reference (table_of rows) (counts_in rows) state l) refl (λ next. taken_rows first lines s known k next ls)
    where
      by : (t : Step) → step_of u reference (table_of rows) (counts_in rows) state l ≡ t
          → ((next : State) → Shaped next
          → take (taken next s) (get_or rows s []) ++ symbols_taken_from u reference (table_of rows) (counts_in rows) s k next ls ≡ take (taken (state_behind (setup_by reference u first rows lines) k next ls) s) (get_or rows s []))
          → take (taken state s) (get_or rows s []) ++ on_taken (symbols_of s (record_takes u reference (table_of rows) state l)) t (λ next. symbols_taken_from u reference (table_of rows) (counts_in rows) s k next ls)
          ≡ take (taken (on_accepted state t (λ next. state_behind (setup_by reference u first rows lines) k next ls)) s) (get_or rows s [])
      by (refused n) e go = append-nil _
      by (accepted frame next) e go =
          sym (append_assoc (take (taken state s) (get_or rows s [])) (symbols_of s (record_takes u reference (table_of rows) state l)) _)
          ∙ rw (step_takes state l frame next i e s known) (go next (step_shaped u reference (table_of rows) (counts_in rows) state l frame next e i))

-- ---- the state behind so many records

-- it has an index for each subsequence, none above its count
pub record Behind (E : Setup) (state : State) : Type 0 where
  pub indexes : Shaped state
  pub within : (s : ℕ) → taken state s ≤ get_or E.counts s 0

behind : {E : Setup} → Lawful E → (k : ℕ) (state : State) (ls : List (List ℕ)) → Behind E state → Behind E (state_behind E k state ls)
unfolding state_behind
behind w zero state ls b = b
behind w (suc k) state [] b = b
behind {E} w (suc k) state (l ∷ ls) b = by (E.step state l) refl (λ next. behind w k next ls)
  where
    by : (t : Step) → E.step state l ≡ t → ((next : State) → Behind E next → Behind E (state_behind E k next ls)) → Behind E (on_accepted state t (λ next. state_behind E k next ls))
    by (refused n) e go = b
    by (accepted frame next) e go =
        let a : Accepted E state l frame next = w.acceptance state l frame next b.indexes e in
        go next record { indexes = a.indexes; within = a.in_counts }

fresh_none : (s : ℕ) → s < subsequences → taken fresh_state s ≡ 0
fresh_none s h = get_or-replicate {A = ℕ} subsequences s 0 0 h

fresh_behind : (E : Setup) → Behind E fresh_state
fresh_behind E = record { indexes = refl; within = within }
  where
    within : (s : ℕ) → taken fresh_state s ≤ get_or E.counts s 0
    within s =
        by_test (ltb s subsequences)
        (λ t. rw (fresh_none s (ltb-true s subsequences t)) (omega arith))
        (λ t. rw (get_or-eq_default fresh_state.index 0 {n = s} (ltb-false s subsequences t)) (omega arith))

-- ---- the line of record i

-- a line that the record call answered, from the state before it to the state behind it
record CallAt (E : Setup) (number : ℕ) (before next : State) (line listed : List ℕ) : Type 0 where
  frame : List ℕ
  is : listed ≡ line_of_bytes frame
  call : E.step before line ≡ accepted frame next
  number_is : before.number ≡ number

call_at : {E : Setup} → Lawful E → (k : ℕ) (state : State) (ls : List (List ℕ)) → Shaped state → (i : ℕ) → suc i < length (records E k state ls)
    → CallAt E (state.number + i) (state_behind E i state ls) (state_behind E (suc i) state ls) (get_or ls i []) (get_or (records E k state ls) i [])
unfolding records state_behind
call_at w zero state ls x i h = absurd (omega arith)
call_at w (suc k) state [] x i h = absurd (omega arith)
call_at {E} w (suc k) state (l ∷ ls) x zero h = by (E.step state l) refl h
  where
    by : (t : Step) → E.step state l ≡ t → 1 < length (on_step state.number t (λ next. records E k next ls))
        → CallAt E (state.number + 0) state (on_accepted state t (λ next. next)) l (get_or (on_step state.number t (λ next. records E k next ls)) 0 [])
    by (refused n) e h = absurd (omega arith)
    by (accepted frame next) e h = record { frame = frame; is = refl; call = e; number_is = sym (add-zero state.number) }
call_at {E} w (suc k) state (l ∷ ls) x (suc i) h = by (E.step state l) refl h (λ next. call_at w k next ls)
  where
    by : (t : Step) → E.step state l ≡ t → suc (suc i) < length (on_step state.number t (λ next. records E k next ls))
        → ((next : State) → Shaped next → (i : ℕ) → suc i < length (records E k next ls)
        → CallAt E (next.number + i) (state_behind E i next ls) (state_behind E (suc i) next ls) (get_or ls i []) (get_or (records E k next ls) i []))
        → CallAt E (state.number + suc i) (on_accepted state t (λ next. state_behind E i next ls)) (on_accepted state t (λ next. state_behind E (suc i) next ls)) (get_or ls i [])
        (get_or (on_step state.number t (λ next. records E k next ls)) (suc i) [])
    by (refused n) e h go = absurd (omega arith)
    by (accepted frame next) e h go =
        let a : Accepted E state l frame next = w.acceptance state l frame next x e in
        let q : state.number + suc i ≡ next.number + i = omega (arith, a.number) in
        rw q (go next a.indexes i (omega arith))

-- a closing 06 line carries the record count
closing_count : (E : Setup) (state : State) (ls : List (List ℕ)) (q : ℕ) → last_line E state ls ≡ line06 q → last_line E state ls ≡ line06 E.count
unfolding last_line
closing_count E state [] q e = by_test (all_taken state E.counts) (λ t. simp t) (λ t. not_06 E.count missing q (simp t at e))
closing_count E state (l ∷ ls) q e = not_06 E.count missing q e

-- where the last line is 06, each record has its line
all_listed : (E : Setup) (k : ℕ) (state : State) (ls : List (List ℕ)) (z : List ℕ) (q : ℕ) → last_from z (records E k state ls) ≡ line06 q
    → (length (records E k state ls) ≡ suc k) × (last_from z (records E k state ls) ≡ line06 E.count)
unfolding records last_from
all_listed E zero state ls z q e = (refl, closing_count E state ls q e)
all_listed E (suc k) state [] z q e = not_06 state.number missing q e
all_listed E (suc k) state (l ∷ ls) z q e = by (E.step state l) e (λ next. all_listed E k next ls)
  where
    by : (t : Step) → last_from z (on_step state.number t (λ next. records E k next ls)) ≡ line06 q
        → ((next : State) (y : List ℕ) (r : ℕ) → last_from y (records E k next ls) ≡ line06 r → (length (records E k next ls) ≡ suc k) × (last_from y (records E k next ls) ≡ line06 E.count))
        → (length (on_step state.number t (λ next. records E k next ls)) ≡ suc (suc k)) × (last_from z (on_step state.number t (λ next. records E k next ls)) ≡ line06 E.count)
    by (refused n) e go = not_06 state.number (number_of n) q e
    by (accepted frame next) e go = let g = go next (line_of_bytes frame) q e in (ap suc g.0, g.1)

-- ---- two files

module _ {refFile unitFile : List ℕ} (o : Opened refFile unitFile) where
  pub opened_lawful : Lawful (setup_in o)
  unfolding LawfulFront
  opened_lawful = rw (opened_front o) at (front_is_lawful refFile unitFile)

  -- the state behind the first k records
  abbrev pub reached : ℕ → State
  reached k = state_behind (setup_in o) k fresh_state o.lines

  pub reached_behind : (k : ℕ) → Behind (setup_in o) (reached k)
  reached_behind k = behind opened_lawful k fresh_state o.lines (fresh_behind (setup_in o))

  -- the symbols taken are the front of the row, up to the index
  taken_front : (s : ℕ) → s < subsequences → (k : ℕ) → symbols_taken o s k ≡ take (taken (reached k) s) (get_or o.rows s [])
  taken_front s known k =
      let q = taken_rows o.unit o.reference o.rows (opened_few o) o.row_lists o.first o.lines s known k fresh_state o.lines refl in
      rw (fresh_none s known) at q

  pub index_taken : (s : ℕ) → s < subsequences → (k : ℕ) → taken (reached k) s ≡ length (symbols_taken o s k)
  index_taken s known k =
      rw (taken_front s known k)
      (sym (length-take-le (taken (reached k) s) (get_or o.rows s []) (rw (← count_at_lem o.rows s) ((reached_behind k).within s))))

  -- in order, each once
  pub taken_in_order : (s : ℕ) → s < subsequences → (k : ℕ) → symbols_taken o s k ≡ take (length (symbols_taken o s k)) (get_or o.rows s [])
  taken_in_order s known k = taken_front s known k ∙ ap (λ (n : ℕ). take n (get_or o.rows s [])) (index_taken s known k)

  -- each 04 line by its own call
  opened_line : (i : ℕ) → suc i < length (rest_of (ready (setup_in o))) → RecordLine o i (get_or (rest_of (ready (setup_in o))) i [])
  unfolding rest_of
  opened_line i h =
      let c = call_at opened_lawful o.unit.records fresh_state o.lines refl i h in
      let a = opened_lawful.acceptance (reached i) (get_or o.lines i []) c.frame (reached (suc i)) (reached_behind i).indexes c.call in
      let n : (reached i).number ≡ i = c.number_is ∙ zero-add i in
      record {
        before = reached i;
        next = reached (suc i);
        frame = c.frame;
        is = c.is;
        call = c.call;
        number = n;
        indexes = (reached_behind i).indexes;
        index_before = λ s known. index_taken s known i;
        tail = a.tail;
        head = a.head ∙ ap (λ (m : ℕ). listed_head m (reached (suc i)) ++ a.tail) n;
        index = λ s known. index_taken s known (suc i);
      }

  -- where every index is at its count, every symbol is taken
  opened_all : Finished (setup_in o) (reached o.unit.records) → (s : ℕ) → s < subsequences → symbols_taken o s o.unit.records ≡ get_or o.rows s []
  opened_all f s known =
      let full : taken (reached o.unit.records) s ≡ length (get_or o.rows s []) = ap (λ (index : List ℕ). get_or index s 0) f.symbols ∙ count_at_lem o.rows s in
      taken_front s known o.unit.records ∙ rw full (take-length (get_or o.rows s []))

  pub opened_done : (count : ℕ) → last_from (first_of (ready (setup_in o))) (rest_of (ready (setup_in o))) ≡ line06 count → AllTaken o
  unfolding first_of rest_of
  opened_done count e =
      record {
        records = rw (opened_front o) (all_listed (setup_in o) o.unit.records fresh_state o.lines o.first count e).0;
        count = rw (opened_front o) (all_listed (setup_in o) o.unit.records fresh_state o.lines o.first count e).1;
        symbols = opened_all (listing_finished (setup_in o) opened_lawful count e);
      }

-- ---- the listing of two files

module _ (refFile unitFile : List ℕ) where
  pub listing_record : (i : ℕ) → suc i < length (rest_of (front_of refFile unitFile)) → (o : Opened refFile unitFile) × RecordLine o i (get_or (rest_of (front_of refFile unitFile)) i [])
  unfolding rest_of
  listing_record i h = by (front_of refFile unitFile) refl h
    where
      of : (E : Setup) (o : Opened refFile unitFile) → E ≡ setup_in o → suc i < length (rest_of (ready E)) → RecordLine o i (get_or (rest_of (ready E)) i [])
      of E o q h = rw q (opened_line o i (rw q at h))

      by : (F : Front) → front_of refFile unitFile ≡ F → suc i < length (rest_of F) → (o : Opened refFile unitFile) × RecordLine o i (get_or (rest_of F) i [])
      by (alone n) e h = absurd (omega arith)
      by (unpaired first n) e h = absurd (omega arith)
      by (ready E) e h = let f = front_opened refFile unitFile E e in (f.0, of E f.0 f.1 h)

  pub listing_done : (count : ℕ) → last_from (first_of (front_of refFile unitFile)) (rest_of (front_of refFile unitFile)) ≡ line06 count → (o : Opened refFile unitFile) × AllTaken o
  unfolding first_of rest_of last_from
  listing_done count l = by (front_of refFile unitFile) refl l
    where
      of : (E : Setup) (o : Opened refFile unitFile) → E ≡ setup_in o → last_from (first_of (ready E)) (rest_of (ready E)) ≡ line06 count → AllTaken o
      of E o e q = opened_done o count (rw e at q)

      by : (F : Front) → front_of refFile unitFile ≡ F → last_from (first_of F) (rest_of F) ≡ line06 count → (o : Opened refFile unitFile) × AllTaken o
      by (alone n) e q = not_06 0 n count q
      by (unpaired first n) e q = not_06 0 n count q
      by (ready E) e q = let f = front_opened refFile unitFile E e in (f.0, of E f.0 f.1 q)
