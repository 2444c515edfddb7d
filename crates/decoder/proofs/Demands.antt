-- THE THREE DEMANDS, in ten sentences: of every record call, of every reference.hex and unit.hex, whatever their bytes, and of every file that is found.
-- That every call ends is part of each function's proof. Demand1, Demand2 and Demand3 beside this file say the rest. Assumes nothing.
use Prim.Native.Nat.{ℕ, suc, ◌<◌}
use mathlib.Core.Path.{◌≡◌, ap}
use mathlib.Core.List.{List, []}
use lib.ListN.{length, get_or, drop}
use Rattle.refusal.specs.declared.Refusal.{Refusal}
use Rattle.refusal.specs.Numbers.{number_of, InTable}
use Rattle.state.specs.Listed.{refused, accepted}
use Rattle.unit.specs.declared.Unit.{Unit}
use Rattle.state.specs.declared.State.{State}
use Rattle.record.specs.Record.{step_of, record_of, recorded, refused_call, output}
use Rattle.record.proofs.RefusalLaws.{record_refusal}
use Rattle.listing.specs.Lines.{joined, kept, lines_within}
use Rattle.listing.specs.Listing.{line06}
use Rattle.listing.specs.Resuming.{last_from, add, supply, edges_in, torn}
use Rattle.listing.proofs.ListingLaws.{listing_kept}
use Rattle.listing.proofs.ResumeLaws.{resume_exact, resume_again}
use Rattle.decoder.specs.Decoder.{front_of, listing_of, first_listed, rest_listed, lines_listed, supplied_of, resumed_again_of, Opened}
use Rattle.decoder.specs.Standard.{StandardRecord}
use Rattle.decoder.specs.Symbols.{RecordLine, AllTaken}
use Rattle.decoder.specs.Ending.{Ending}
use Rattle.decoder.proofs.LawfulLaws.{front_is_lawful}
use Rattle.decoder.proofs.SymbolsLaws.{listing_record, listing_done}
use Rattle.decoder.proofs.EndingLaws.{opened_ending}
use Rattle.decoder.proofs.Demand2.{accepted_is_the_standards}

module _ (u : Unit) (reference symbols counts : List ℕ) (state : State) (line : List ℕ) where
  -- DEMAND 1. A refused call hands back its refusal with the state that it was given, and no lent byte differs
  pub refused_call_changes_nothing : (out : List ℕ) (n : Refusal) → record_of u reference symbols counts state line (length out) ≡ refused n
      → (recorded state (record_of u reference symbols counts state line (length out)) ≡ refused_call n state) × (output out (record_of u reference symbols counts state line (length out)) ≡ out)
  refused_call_changes_nothing out n e = (rw e, rw e)

  -- its number is one of document 01's table
  pub refusal_is_in_the_table : (room : ℕ) (n : Refusal) → record_of u reference symbols counts state line room ≡ refused n → InTable (number_of n)
  refusal_is_in_the_table room = record_refusal u reference symbols counts state line room

  -- DEMAND 2. An accepted record is the standard's: its link by Table 60, its positions, by 3.14 wherever the first piece has a match or a substitution, those of a read's pieces by Table 62, its bases by 10.6.1, 10.2.2 and Table 35, its E-CIGAR by Tables 92 and 94
  pub accepted_record_is_the_standards : (frame : List ℕ) (next : State) → step_of u reference symbols counts state line ≡ accepted frame next → StandardRecord u reference symbols counts state line frame next
  accepted_record_is_the_standards = accepted_is_the_standards u reference symbols counts state line

module _ (refFile unitFile : List ℕ) where
  -- line i behind the first is what the record call answers for record i's own line, and its indexes are how many symbols of each subsequence are taken so far
  pub each_record_is_listed : (i : ℕ) → suc i < length (rest_listed refFile unitFile) → (o : Opened refFile unitFile) × RecordLine o i (get_or (rest_listed refFile unitFile) i [])
  each_record_is_listed = listing_record refFile unitFile

  -- the last line says why the listing ends: 06 and the record count; or 05 and the number by which a record is refused, or 14 where lines or symbols are missing or left over
  pub last_line_says_why : (o : Opened refFile unitFile) → Ending o (last_from (first_listed refFile unitFile) (rest_listed refFile unitFile))
  last_line_says_why = opened_ending

  -- where it is 06, every record is listed, and every pair symbol was taken once, in order: none is left
  pub done_takes_every_symbol : (count : ℕ) → last_from (first_listed refFile unitFile) (rest_listed refFile unitFile) ≡ line06 count → (o : Opened refFile unitFile) × AllTaken o
  done_takes_every_symbol = listing_done refFile unitFile

  -- DEMAND 3. Of a listing that was stopped at any byte n, with any number k of zero bytes behind it, the whole lines are kept
  pub whole_lines_are_kept : (n k : ℕ) → kept (torn n k (listing_of refFile unitFile)) ≡ joined (lines_within n (lines_listed refFile unitFile))
  whole_lines_are_kept = listing_kept (front_of refFile unitFile) (front_is_lawful refFile unitFile)

  -- and exactly what is missing is supplied
  pub supplied_is_the_rest : (n k : ℕ) → supplied_of refFile unitFile (torn n k (listing_of refFile unitFile)) ≡ add (drop (length (kept (torn n k (listing_of refFile unitFile)))) (listing_of refFile unitFile))
  supplied_is_the_rest = resume_exact (front_of refFile unitFile) (front_is_lawful refFile unitFile)

  -- what is supplied depends on a found file only through its first and its last kept line
  pub supplied_by_edges : (found other : List ℕ) → edges_in found ≡ edges_in other → supplied_of refFile unitFile found ≡ supplied_of refFile unitFile other
  supplied_by_edges found other = ap (supply (front_of refFile unitFile))

  -- and so again, however often the listing is stopped and resumed
  pub resuming_again_makes_whole : (stops : List (ℕ × ℕ)) → resumed_again_of refFile unitFile stops ≡ listing_of refFile unitFile
  resuming_again_makes_whole = resume_again (front_of refFile unitFile) (front_is_lawful refFile unitFile)
