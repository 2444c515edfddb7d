-- The record call keeps to what a listing asks of it, and so does the front of every two files.
-- Assumes nothing.
use Prim.Native.Nat.{ℕ, zero, suc, ◌^◌, ◌<◌, ◌≤◌}
use native.Mathlib.Omega.{arith}
use mathlib.Core.Path.{◌≡◌, refl, ap, ◌∙◌}
use mathlib.Core.List.{List}
use lib.ListN.{length, get_or}
use Rattle.unit.specs.Unit.{most_records}
use Rattle.unit.specs.Pairs.{subsequences, most_symbols}
use Rattle.state.specs.Listed.{accepted}
use Rattle.unit.specs.declared.Unit.{Unit}
use Rattle.state.specs.declared.State.{State}
use Rattle.record.specs.Record.{step_of}
use Rattle.record.proofs.RecordLaws.{step_refusal, step_accepted}
use Rattle.front.proofs.UnitLaws.{unit_fits}
use Rattle.listing.specs.Record.{Accepted, FirstLine, Lawful}
use Rattle.listing.specs.Files.{good}
use Rattle.listing.specs.Listing.{LawfulFront}
use Rattle.listing.proofs.FilesLaws.{All, none, one, front_lawful}
use Rattle.decoder.specs.Files.{read_reference, read_unit, read_pair, counts_in}
use Rattle.decoder.specs.Decoder.{setup_of, setup_by, front_of}
use Rattle.decoder.proofs.FilesLaws.{unit_read, unit_refused, pair_refused, reference_refused, unit_first, unit_records, pair_row}
use Rattle.decoder.proofs.TableLaws.{Few, length_counts, count_at_lem}
use Rattle.state.specs.State.{Shaped}

-- ---- a setup

module _ (u : Unit) (reference symbols counts first : List ℕ) (lines : List (List ℕ)) where
  step_lawful : u.end < 2 ^ 32 → (state : State) (line frame : List ℕ) (next : State) → Shaped state → step_of u reference symbols counts state line ≡ accepted frame next
      → Accepted (setup_of u reference symbols counts first lines) state line frame next
  step_lawful fits state line frame next i e =
      let a = step_accepted u reference symbols counts state line frame next e fits i in
      record {
        size = a.size;
        well_formed = a.well_formed;
        tail = a.tail;
        head = a.head;
        bytes = a.bytes;
        least = a.least;
        most = a.most;
        in_count = a.in_count;
        number = a.number;
        indexes = a.indexes;
        in_counts = a.in_counts;
      }

  pub setup_lawful : FirstLine first → u.end < 2 ^ 32 → u.records ≤ most_records → length counts ≡ subsequences → ((i : ℕ) → get_or counts i 0 ≤ most_symbols)
      → Lawful (setup_of u reference symbols counts first lines)
  setup_lawful unit fits few all-rows fit =
      record {
        unit = unit;
        count_fits = few;
        counts_all = all-rows;
        counts_fit = fit;
        refusal = λ state line n i e. step_refusal u reference symbols counts state _ n e;
        acceptance = step_lawful fits;
      }

-- ---- the front of two files

-- the symbols of a subsequence, no more than the limit
abbrev Fine : List ℕ → Type 0
Fine row = length row ≤ most_symbols

all_few : {k : ℕ} {rows : List (List ℕ)} → All Fine k rows → Few rows
all_few none i = omega arith
all_few (one f fs) zero = f
all_few (one f fs) (suc i) = all_few fs i

all_length : {k : ℕ} {rows : List (List ℕ)} → All Fine k rows → length rows ≡ k
all_length none = refl
all_length (one f fs) = ap suc (all_length fs)

front_setup : (reference line : List ℕ) (u : Unit) → read_unit line ≡ good u → (rows lines : List (List ℕ)) → All Fine subsequences rows → Lawful (setup_by reference u line rows lines)
front_setup reference line u e rows lines all =
    setup_lawful u reference _ (counts_in rows) line lines (unit_first line u e) (unit_fits line u (unit_read line u e)).end (unit_records line u e)
    (length_counts rows ∙ all_length all) (λ i. rw (count_at_lem rows i) (all_few all i))

pub front_is_lawful : (refFile unitFile : List ℕ) → LawfulFront (front_of refFile unitFile)
unfolding front_of
front_is_lawful refFile unitFile =
    front_lawful read_reference read_unit read_pair setup_by Fine reference_refused unit_refused pair_refused unit_first
    (λ i line row e. (pair_row i line row e).most) front_setup _ _
