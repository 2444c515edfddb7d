-- The laws of the last line of two files' listing: it says why the listing ends.
-- Assumes nothing.
use Prim.Native.Nat.{ℕ, suc, ◌<◌}
use native.Mathlib.Nat.{zero-add}
use native.Mathlib.Omega.{arith}
use mathlib.Core.Path.{◌≡◌, refl, sym, ap, ◌∙◌}
use mathlib.Core.Bool.{Bool, true, false, cond}
use mathlib.Core.List.{List, [], ◌∷◌}
use lib.ListN.{length, get_or, drop, length-drop}
use lib.Seq.{ext_get_or}
use Rattle.refusal.specs.Numbers.{number_of, missing}
use Rattle.unit.specs.Pairs.{subsequences}
use Rattle.state.specs.State.{fresh_state, all_taken}
use Rattle.listing.specs.Listing.{line05, line06, last_line, first_of, rest_of}
use Rattle.listing.specs.Resuming.{last_from}
use Rattle.frame.proofs.SameLaws.{same_not}
use Rattle.listing.proofs.EndLaws.{LastBy, by_call, by_end, by_rest, records_ended}
use Rattle.decoder.specs.Decoder.{Opened, setup_in, first_listed, rest_listed}
use Rattle.decoder.specs.Symbols.{symbols_taken}
use Rattle.decoder.specs.Ending.{refused_by, lines_run_out, line_left, symbol_left, Ending, done, stopped}
use Rattle.decoder.proofs.TableLaws.{length_counts, count_at_lem}
use Rattle.decoder.proofs.OpenedLaws.{opened_front}
use Rattle.decoder.proofs.SymbolsLaws.{opened_lawful, reached, reached_behind, index_taken, opened_done}

module _ {refFile unitFile : List ℕ} (o : Opened refFile unitFile) where
  -- every symbol is taken where the indexes are the counts
  all_at_count : (k : ℕ) → ((s : ℕ) → s < subsequences → symbols_taken o s k ≡ get_or o.rows s []) → (reached o k).index ≡ (setup_in o).counts
  all_at_count k h =
      let all-rows = (reached_behind o k).indexes in
      ext_get_or 0 (reached o k).index (setup_in o).counts (all-rows ∙ sym (length_counts o.rows ∙ o.row_lists))
      (λ s l. let known : s < subsequences = rw (← all-rows) l in
      index_taken o s known k ∙ ap length (h s known) ∙ sym (count_at_lem o.rows s))

  -- behind every record: a line that is left over, or a symbol, or 06
  rest_ending : (ls : List (List ℕ)) → drop o.unit.records o.lines ≡ ls → length (rest_listed refFile unitFile) ≡ suc o.unit.records
      → last_from (first_listed refFile unitFile) (rest_listed refFile unitFile) ≡ last_line (setup_in o) (reached o o.unit.records) ls
      → Ending o (last_line (setup_in o) (reached o o.unit.records) ls)
  unfolding last_line
  rest_ending (l ∷ ls) e long is =
      stopped o.unit.records missing long refl
      (line_left refl (omega (arith, length-drop o.unit.records o.lines, ap length e)))
  rest_ending [] e long is = by (all_taken (reached o o.unit.records) (setup_in o).counts) refl is
    where
      by : (t : Bool) → all_taken (reached o o.unit.records) (setup_in o).counts ≡ t
          → last_from (first_listed refFile unitFile) (rest_listed refFile unitFile) ≡ cond t (line06 o.unit.records) (line05 o.unit.records missing)
          → Ending o (cond t (line06 o.unit.records) (line05 o.unit.records missing))
      by true t q = done refl (opened_done o o.unit.records (rw (opened_front o) at q))
      by false t q = stopped o.unit.records missing long refl (symbol_left refl (λ all. same_not _ _ t (all_at_count o.unit.records all)))

  last_ending : (i : ℕ) {line : List ℕ} → LastBy (setup_in o) o.unit.records o.lines i (reached o i) line → (reached o i).number ≡ i
      → length (rest_listed refFile unitFile) ≡ suc i → last_from (first_listed refFile unitFile) (rest_listed refFile unitFile) ≡ line → Ending o line
  last_ending i (by_call n h j e) at long is =
      stopped i (number_of n) long (ap (λ (m : ℕ). line05 m (number_of n)) at)
      (refused_by (record { before = reached o i; wanted = h; there = j; number = at; index_before = λ s known. index_taken o s known i; call = e }))
  last_ending i (by_end h e) at long is = stopped i missing long (ap (λ (m : ℕ). line05 m missing) at) (lines_run_out h e)
  last_ending i (by_rest e h) at long is = left i e long is
    where
      left : (j : ℕ) → j ≡ o.unit.records → length (rest_listed refFile unitFile) ≡ suc j
          → last_from (first_listed refFile unitFile) (rest_listed refFile unitFile) ≡ last_line (setup_in o) (reached o j) (drop o.unit.records o.lines)
          → Ending o (last_line (setup_in o) (reached o j) (drop o.unit.records o.lines))
      left j q = rw q (rest_ending (drop o.unit.records o.lines) refl)

  pub opened_ending : Ending o (last_from (first_listed refFile unitFile) (rest_listed refFile unitFile))
  unfolding first_of rest_of
  opened_ending =
      let w = records_ended (opened_lawful o) o.unit.records fresh_state o.lines o.first refl in
      last_ending w.count (rw (opened_front o) w.last) (w.number ∙ zero-add w.count) (rw (opened_front o) w.lines) refl
