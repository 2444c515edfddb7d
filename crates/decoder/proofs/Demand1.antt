-- Demand 1 in detail: what a refused call, line or turn leaves, by which number it is refused, and what a listing says of it. Each theorem is proved where it is cited from.
-- Assumes nothing.
use Prim.Native.Nat.{ℕ, ◌<◌, ◌≤◌}
use mathlib.Core.Path.{◌≡◌, refl, sym}
use mathlib.Core.Bool.{cond}
use mathlib.Core.List.{List, [], ◌∷◌, ◌++◌}
use lib.Dec.{ltb}
use lib.ListN.{length, get_or}
use Rattle.std.specs.Prelude.{Err}
use Rattle.refusal.specs.declared.Refusal.{Refusal}
use Rattle.refusal.specs.Numbers.{fine, missing, no_room}
use Rattle.frame.proofs.Unique.{once}
use Rattle.frame.proofs.HexLaws.{by_test}
use Rattle.unit.specs.Pairs.{subsequences}
use Rattle.state.specs.Listed.{most_listed}
use Rattle.unit.specs.declared.Unit.{Unit}
use Rattle.state.specs.declared.State.{State}
use Rattle.front.specs.PairLine.{pair_line, table_after}
use Rattle.front.specs.ReferenceLine.{reference_line, reference_after}
use Rattle.front.proofs.PairLaws.{table_kept}
use Rattle.front.proofs.ReferenceLaws.{bases_kept}
use Rattle.listing.specs.Lines.{lines_of}
use Rattle.listing.specs.Files.{good, wrong}
use Rattle.listing.specs.Listing.{line05, Each}
use Rattle.listing.specs.Turn.{Turn, go, stop}
use Rattle.listing.proofs.ListingLaws.{listing_17}
use Rattle.decoder.specs.Files.{read_reference, read_unit, read_pair}
use Rattle.decoder.specs.Decoder.{front_of, listing_of, lines_listed}
use Rattle.decoder.specs.Turned.{turn_of, turned, turned_of, output_of, added_number}
use Rattle.decoder.specs.declared.Turned.{Turned}
use Rattle.decoder.specs.declared.Added.TheVariants.{NoRoom}
use Rattle.decoder.proofs.LawfulLaws.{front_is_lawful}
use Rattle.decoder.proofs.ListingLaws.{reference_first, unit_missing, unit_refused_alone, pair_missing, pair_refused_first}
use Rattle.decoder.proofs.TurnLaws.{turn_short}

-- ---- what is left as it was

-- a pair line that is refused leaves the lent table as it was
pub refused_pair_line_changes_nothing : (line : List ℕ) (i : ℕ) (table : List ℕ) (n : Refusal) → pair_line line i (length table) ≡ Err n → table_after line i table ≡ table
refused_pair_line_changes_nothing line i table n e = sym (table_kept line i n table e refl).1

-- a reference line that is refused leaves the lent bases as they were
pub refused_reference_line_changes_nothing : (line : List ℕ) (used : ℕ) (bases : List ℕ) (n : Refusal) → reference_line line used (length bases) ≡ Err n → reference_after line used bases ≡ bases
refused_reference_line_changes_nothing line used bases n e = sym (bases_kept line used n bases e refl).1

-- a turn that is lent less than the longest line needs changes nothing
pub short_turn_changes_nothing : (u : Unit) (reference symbols counts : List ℕ) (state : State) (line out : List ℕ) → length out ≤ most_listed
    → (record { added = NoRoom; state = state } ≡ turned_of out state (turn_of u reference symbols counts state line)) × (out ≡ output_of out (turn_of u reference symbols counts state line))
short_turn_changes_nothing = turn_short

-- it is refused by 17, and no other turn is
pub only_a_short_turn_is_refused : (out : List ℕ) (state : State) (t : Turn) → added_number (turned_of out state t).added ≡ cond (ltb most_listed (length out)) fine no_room
unfolding turned_of
only_a_short_turn_is_refused out state t = by_test (ltb most_listed (length out)) (λ h. rw h (by t)) (λ h. rw h)
  where
    by : (t : Turn) → added_number (turned state t).added ≡ fine
    by (go bytes next) = refl
    by (stop bytes) = refl

-- what `turn` promises admits one outcome
pub turn_has_one_outcome : (out : List ℕ) (state : State) (t : Turn) {x y : Turned} {e f : List ℕ}
    → (x ≡ turned_of out state t) × (e ≡ output_of out t) → (y ≡ turned_of out state t) × (f ≡ output_of out t) → (x ≡ y) × (e ≡ f)
turn_has_one_outcome out state t p q = (once p.0 q.0, once p.1 q.1)

-- ---- what the listing of two files says of a refusal in front of the records (of one in a record line: `last_line_says_why`)

module _ (refFile unitFile : List ℕ) where
  -- "The reference is read first": where one of its lines is refused, the 05 line stands alone, whatever the unit file is
  pub reference_is_read_first : (n : ℕ) → read_reference (lines_of refFile) ≡ wrong n → listing_of refFile unitFile ≡ line05 0 n
  reference_is_read_first = reference_first refFile unitFile

  -- a unit file without a line: behind an accepted reference the 05 line with 14 stands alone
  pub no_unit_line_stands_alone : (reference : List ℕ) → read_reference (lines_of refFile) ≡ good reference → lines_of unitFile ≡ [] → listing_of refFile unitFile ≡ line05 0 missing
  no_unit_line_stands_alone = unit_missing refFile unitFile

  -- a refused unit line: the 05 line with its refusal number stands alone
  pub refused_unit_line_stands_alone : (reference : List ℕ) → read_reference (lines_of refFile) ≡ good reference → (line : List ℕ) (ls : List (List ℕ)) → lines_of unitFile ≡ line ∷ ls
      → (n : ℕ) → read_unit line ≡ wrong n → listing_of refFile unitFile ≡ line05 0 n
  refused_unit_line_stands_alone = unit_refused_alone refFile unitFile

  -- behind an accepted unit line and as many accepted pair lines as `ps` has
  module _ (reference first : List ℕ) (u : Unit) (ps : List (List ℕ)) (read : read_reference (lines_of refFile) ≡ good reference) (unit : read_unit first ≡ good u)
      (few : length ps < subsequences) (pairs_read : (j : ℕ) → j < length ps → (row : List ℕ) × (read_pair j (get_or ps j []) ≡ good row)) where
    -- the next pair line is missing: the unit line, then the 05 line with 14
    pub missing_pair_line_is_told : lines_of unitFile ≡ first ∷ ps → listing_of refFile unitFile ≡ first ++ line05 0 missing
    missing_pair_line_is_told = pair_missing refFile unitFile reference read first u ps unit few pairs_read

    -- it is refused: the unit line, then the 05 line with its refusal number
    pub refused_pair_line_is_told : (line : List ℕ) (ls : List (List ℕ)) → lines_of unitFile ≡ first ∷ (ps ++ line ∷ ls) → (n : ℕ) → read_pair (length ps) line ≡ wrong n
        → listing_of refFile unitFile ≡ first ++ line05 0 n
    refused_pair_line_is_told = pair_refused_first refFile unitFile reference read first u ps unit few pairs_read

  -- "17 stands in no listing"
  pub no_room_stands_nowhere : Each (λ l. (number : ℕ) → l ≡ line05 number no_room → ⊥) (lines_listed refFile unitFile)
  no_room_stands_nowhere = listing_17 (front_of refFile unitFile) (front_is_lawful refFile unitFile)
