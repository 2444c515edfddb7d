-- The laws of the numbers that two files give: the AU end and the pair symbols are read from four bytes, so every position that is listed is listed whole.
-- Assumes nothing.
use Prim.Native.Nat.{ℕ, suc, ◌+◌, ◌-◌, ◌^◌, ◌<◌, ◌≤◌}
use native.Mathlib.Omega.{arith}
use mathlib.Core.Path.{◌≡◌}
use mathlib.Core.List.{List, [], ◌∷◌}
use lib.Dec.{ltb, lit<}
use lib.ListN.{length, get_or, get_or-replicate, get_or-eq_default}
use borrow.Author.Tests.{ltb-true, ltb-false}
use Rattle.std.specs.Prelude.{Ok}
use Rattle.frame.specs.Hex.{unhex}
use Rattle.frame.specs.Steps.{stored_at}
use Rattle.frame.proofs.HexLaws.{by_test, byte_lt}
use Rattle.unit.specs.Pairs.{subsequences, symbol_place, table_length}
use Rattle.state.specs.declared.State.{State}
use Rattle.unit.proofs.ValidLaws.{UnitValid, valid_is}
use Rattle.front.specs.PairLine.{pair_head, symbol_list}
use Rattle.front.proofs.PairLaws.{length_symbols, symbol_fits}
use Rattle.frame.proofs.StoreLaws.{length_stored, stored_inside, stored_before, stored_behind}
use Rattle.front.proofs.UnitLaws.{UnitFits, unit_fits, unit_valid}
use Rattle.pairing.specs.Table60.{mate_seq_id, mapping_pos}
use Rattle.pairing.proofs.Laws.{link_within}
use Rattle.segment.specs.declared.Placed.{Placed}
use Rattle.segment.specs.Listed.{listed_ecigar}
use Rattle.segment.proofs.StandardLaws.{listed_begins, listed_short}
use Rattle.tables.specs.Longest.{longest_spliced}
use Rattle.plan.specs.Plan.{plan_of}
use Rattle.plan.specs.Said.{PlanTaken, AlignedIn}
use Rattle.plan.specs.declared.read.Plan.{Plan}
use Rattle.plan.proofs.MateLaws.{mate_fits}
use Rattle.record.proofs.RecordLaws.{said_taken, said_aligned}
use Rattle.listing.specs.Files.{good}
use Rattle.pairing.proofs.Cases.{sequence_within}
use Rattle.decoder.specs.Files.{read_pair, counts_in, rows_into, empty_table, table_of}
use Rattle.decoder.specs.Decoder.{Opened}
use Rattle.decoder.specs.Symbols.{RecordLine}
use Rattle.decoder.proofs.FilesLaws.{unit_read, pair_row}
use Rattle.decoder.proofs.TableLaws.{Few, length_empty}
use Rattle.decoder.proofs.OpenedLaws.{opened_few}

-- ---- every symbol has 32 bits

abbrev Below : List ℕ → Type 0
Below t = (i : ℕ) → get_or t i 0 < 2 ^ 32

stored_below : (t : List ℕ) (at : ℕ) (vs : List ℕ) → at + length vs ≤ length t → Below t → Below vs → Below (stored_at t at vs)
stored_below t at vs room old new i =
    by_test (ltb i at)
    (λ l. rw (stored_before t at vs i (omega arith) (ltb-true i at l)) (old i))
    (λ l.
    let h = ltb-false i at l in
    by_test (ltb i (at + length vs))
    (λ m.
    let k : at + (i - at) ≡ i = omega arith in
    rw (← k) (rw (stored_inside t at vs (i - at) (omega arith) (omega (arith, ltb-true i (at + length vs) m))) (new (i - at))))
    (λ m. rw (stored_behind t at vs i room (ltb-false i (at + length vs) m)) (old i)))

rows_below : (rows : List (List ℕ)) (t : List ℕ) (i : ℕ) → Few rows → symbol_place (i + length rows) 0 ≤ length t → Below t → ((j : ℕ) → Below (get_or rows j [])) → Below (rows_into t i rows)
unfolding rows_into
rows_below [] t i few room old new = old
rows_below (row ∷ rows) t i few room old new =
    let fits : symbol_place i 0 + length row ≤ length t = omega (arith, few 0) in
    let long : length (stored_at t (symbol_place i 0) row) ≡ length t = length_stored t (symbol_place i 0) row fits in
    rows_below rows (stored_at t (symbol_place i 0) row) (suc i) (λ j. few (suc j)) (omega (arith, long)) (stored_below t (symbol_place i 0) row fits old (new 0)) (λ j. new (suc j))

empty_below : Below empty_table
empty_below i =
    by_test (ltb i table_length)
    (λ t. rw (get_or-replicate {A = ℕ} table_length i 0 0 (ltb-true i table_length t)) (lit< tt))
    (λ t. rw (get_or-eq_default empty_table 0 {n = i} (omega (arith, length_empty, ltb-false i table_length t))) (lit< tt))

row_below : (number : ℕ) (line row : List ℕ) → read_pair number line ≡ good row → Below row
row_below number line row e i =
    let r = pair_row number line row e in
    rw r.symbols
    (by_test (ltb i r.count)
    (λ t. symbol_fits r.count line pair_head i (ltb-true i r.count t))
    (λ t. rw (get_or-eq_default (symbol_list r.count (unhex line) pair_head) 0 {n = i} (omega (arith, length_symbols r.count (unhex line) pair_head, ltb-false i r.count t))) (lit< tt)))

module _ {refFile unitFile : List ℕ} (o : Opened refFile unitFile) where
  opened_symbols : Below (table_of o.rows)
  unfolding table_of
  opened_symbols = rows_below o.rows empty_table 0 (opened_few o) (omega (arith, length_empty, o.row_lists)) empty_below each
    where
      each : (j : ℕ) → Below (get_or o.rows j [])
      each j =
          by_test (ltb j subsequences)
          (λ t. row_below j _ _ (o.pair_read j (ltb-true j subsequences t)))
          (λ t. rw (get_or-eq_default o.rows [] {n = j} (omega (arith, ltb-false j subsequences t, o.row_lists))) (λ i. lit< tt))

  -- ---- so has every position

  opened_fits : UnitFits o.unit
  opened_fits = unit_fits o.first o.unit (unit_read o.first o.unit o.unit_read)

  opened_valid : UnitValid o.unit
  opened_valid = valid_is o.unit (unit_valid o.first o.unit (unit_read o.first o.unit o.unit_read))

  module _ (i : ℕ) (line : List ℕ) (r : RecordLine o i line) (p : Plan) (moved : State)
      (said : plan_of o.unit o.reference (table_of o.rows) (counts_in o.rows) r.before (get_or o.lines i []) ≡ Ok (p, moved)) where
    taken : PlanTaken o.unit o.reference (table_of o.rows) (counts_in o.rows) r.before (get_or o.lines i []) p moved
    taken = said_taken o.unit o.reference (table_of o.rows) (counts_in o.rows) r.before (get_or o.lines i []) r.frame r.next r.call p moved said

    pub mate_position : mapping_pos p.pos p.link.mate < 2 ^ 32
    mate_position = mate_fits o.unit o.reference (table_of o.rows) (counts_in o.rows) r.before (get_or o.lines i []) p _ opened_valid opened_fits.end opened_symbols taken

    pub mate_sequence : mate_seq_id o.unit.sequence p.link.mate < 2 ^ 16
    mate_sequence =
        let w = (link_within o.unit (table_of o.rows) (counts_in o.rows) r.before (2 ^ 32) opened_valid.sequence opened_symbols p.link taken.paired taken.linked).mate in
        omega (arith, sequence_within (2 ^ 32) o.unit.sequence p.link.mate opened_valid.sequence w)

    pub read_position : (q : Placed) → AlignedIn p q → q.position < 2 ^ 32
    read_position q listed =
        let a = said_aligned o.unit o.reference (table_of o.rows) (counts_in o.rows) r.before (get_or o.lines i []) r.frame r.next r.call p moved said q listed in
        omega (arith, (listed_begins o.unit o.reference (table_of o.rows) (unhex (get_or o.lines i [])) q a).1, opened_fits.end)

    pub ecigar_fits : (q : Placed) → AlignedIn p q → length (listed_ecigar o.unit (table_of o.rows) (unhex (get_or o.lines i [])) q) ≤ longest_spliced
    ecigar_fits q listed =
        let a = said_aligned o.unit o.reference (table_of o.rows) (counts_in o.rows) r.before (get_or o.lines i []) r.frame r.next r.call p moved said q listed in
        listed_short o.unit o.reference (table_of o.rows) (unhex (get_or o.lines i [])) q a (byte_lt (get_or o.lines i [])) opened_fits.end
