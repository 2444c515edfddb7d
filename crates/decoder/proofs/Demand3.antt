-- Demand 3 in detail: what is refused of a found file, what is added behind each sort of last line, and that the public functions find it. Each theorem is proved where it is cited from.
-- Assumes nothing.
use Prim.Native.Nat.{ℕ, suc, ◌+◌, ◌-◌, ◌<◌, ◌≤◌}
use mathlib.Core.Path.{◌≡◌, refl, ap}
use mathlib.Core.Logic.{◌⊎◌}
use mathlib.Core.List.{List, [], ◌++◌}
use mathlib.Core.Option.{none, some}
use lib.ListN.{length, take, drop}
use Rattle.refusal.specs.Numbers.{missing, other_first, other_last}
use Rattle.frame.specs.Hex.{unhex}
use Rattle.frame.specs.Field.{big_at}
use Rattle.unit.specs.Kinds.{kind_refused, kind_done}
use Rattle.state.specs.Listed.{most_listed, number_place, state_at}
use Rattle.listing.specs.Lines.{lines_of, joined}
use Rattle.listing.specs.Listing.{line05}
use Rattle.listing.specs.Resuming.{bytes05, bytes06, nothing, edges, edges_from, count_of, counts_of, place, ContinuableLine, ClosingLine, Continues, place_by, add, refuse, skip, on_skip, edges_in, printed, no_record, torn}
use Rattle.listing.proofs.ResumeLaws.{resume_whole}
use Rattle.listing.proofs.PlaceLaws.{afresh_whole, behind_none, first_refused, last_refused, refused_only, closed_05, closed_06, believed, run_out, place_near}
use Rattle.kept.specs.Keep.{most_bytes, fresh, keep_all, edges_at, Known}
use Rattle.kept.specs.declared.keep.Keep.{Keep}
use Rattle.kept.proofs.KeepLaws.{keep_append, keep_known}
use Rattle.resuming.specs.Pass.{passed, lines_in, pass_over}
use Rattle.resuming.proofs.PassLaws.{skip_passed, pass_piece}
use Rattle.decoder.specs.Files.{counts_in}
use Rattle.decoder.specs.Decoder.{front_of, listing_of, first_listed, rest_listed, supplied_by, resumed_of, Opened, setup_in}
use Rattle.decoder.specs.Turned.{calls_for}
use Rattle.decoder.proofs.LawfulLaws.{front_is_lawful}
use Rattle.decoder.proofs.OpenedLaws.{opened_front}
use Rattle.decoder.proofs.SymbolsLaws.{opened_lawful}
use Rattle.decoder.proofs.ListingLaws.{opened_goes_on}

module _ (refFile unitFile : List ℕ) where
  -- stopped at any byte n, with any number k of zero bytes behind it: the kept bytes and the supplied ones are the listing
  pub resuming_makes_whole : (n k : ℕ) → resumed_of refFile unitFile (torn n k (listing_of refFile unitFile)) ≡ listing_of refFile unitFile
  resuming_makes_whole = resume_whole (front_of refFile unitFile) (front_is_lawful refFile unitFile)

  -- ---- what is refused, and nothing else is

  -- nothing kept: the whole listing is added
  pub nothing_kept_starts_afresh : supplied_by refFile unitFile nothing ≡ add (listing_of refFile unitFile)
  nothing_kept_starts_afresh = afresh_whole (front_of refFile unitFile)

  -- 15: the first kept line is not the listing's first line, whatever the last one is
  pub other_first_line_refused : (first last : List ℕ) → (first ≡ first_listed refFile unitFile → ⊥) → supplied_by refFile unitFile (edges first last) ≡ refuse other_first
  other_first_line_refused = first_refused (front_of refFile unitFile)

  -- 16: it is, and the last kept line is none of those that can be continued
  pub other_last_line_refused : (last : List ℕ) → (Continues (front_of refFile unitFile) last → ⊥) → supplied_by refFile unitFile (edges (first_listed refFile unitFile) last) ≡ refuse other_last
  other_last_line_refused = last_refused (front_of refFile unitFile) (front_is_lawful refFile unitFile)

  -- there is no other refusal, and none of these two elsewhere
  pub only_these_are_refused : (first last : List ℕ) (n : ℕ) → supplied_by refFile unitFile (edges first last) ≡ refuse n
      → ((n ≡ other_first) × (first ≡ first_listed refFile unitFile → ⊥)) ⊎ ((n ≡ other_last) × (first ≡ first_listed refFile unitFile) × (Continues (front_of refFile unitFile) last → ⊥))
  only_these_are_refused = refused_only (front_of refFile unitFile) (front_is_lawful refFile unitFile)

  -- ---- what is added behind each sort of last line

  -- "After a unit line all the rest is added": the first line is the only one that is kept
  pub all_the_rest_after_the_first : supplied_by refFile unitFile (edges (first_listed refFile unitFile) (first_listed refFile unitFile)) ≡ add (joined (rest_listed refFile unitFile))
  all_the_rest_after_the_first = behind_none (front_of refFile unitFile)

  -- after 05 nothing
  pub nothing_after_05 : (last : List ℕ) → ClosingLine kind_refused bytes05 last → supplied_by refFile unitFile (edges (first_listed refFile unitFile) last) ≡ add []
  nothing_after_05 = closed_05 (front_of refFile unitFile) (front_is_lawful refFile unitFile)

  -- after 06 nothing
  pub nothing_after_06 : (last : List ℕ) → ClosingLine kind_done bytes06 last → supplied_by refFile unitFile (edges (first_listed refFile unitFile) last) ≡ add []
  nothing_after_06 = closed_06 (front_of refFile unitFile) (front_is_lawful refFile unitFile)

  module _ (o : Opened refFile unitFile) (last : List ℕ) (line : ContinuableLine o.unit.records (counts_in o.rows) last) where
    -- a well-formed 04 line is believed, whatever its record was: its number says how many 0A are passed over, and its indexes the state
    pub well_formed_is_believed : supplied_by refFile unitFile (edges o.first last)
        ≡ add (joined (on_skip (setup_in o) (state_at (unhex last)) (skip (big_at 2 (unhex last) number_place + 1) o.lines)))
    well_formed_is_believed = rw (opened_front o) (believed (setup_in o) (opened_lawful o) last line)

    -- where there are as many record lines, one call of `turn` a line from that state, and one more, print what is added
    pub calls_go_on : (ls : List (List ℕ)) → skip (big_at 2 (unhex last) number_place + 1) o.lines ≡ some ls
        → supplied_by refFile unitFile (edges o.first last) ≡ add (calls_for o (suc (o.unit.records - (big_at 2 (unhex last) number_place + 1))) (state_at (unhex last)) ls)
    calls_go_on = opened_goes_on o last line

    -- where the record lines run out before its number, 05 with the next number and 14 is added
    pub lines_run_out_lem : skip (big_at 2 (unhex last) number_place + 1) o.lines ≡ none → supplied_by refFile unitFile (edges o.first last) ≡ add (line05 (big_at 2 (unhex last) number_place + 1) missing)
    lines_run_out_lem = rw (opened_front o) (run_out (setup_in o) (opened_lawful o) last line)

  -- ---- the public functions find it, in pieces of any size: `Keep`, `place`, `pass`

  -- `place`, handed the two lines that `Keep` found in a found file, answers where resuming goes on
  pub place_by_keep : (found : List ℕ) → length found ≤ most_bytes
      → place_by (first_listed refFile unitFile) (count_of (front_of refFile unitFile)) (counts_of (front_of refFile unitFile)) (edges_at (keep_all fresh found) found) ≡ place (front_of refFile unitFile) (edges_in found)
  unfolding place
  place_by_keep found h = ap (place_by (first_listed refFile unitFile) (count_of (front_of refFile unitFile)) (counts_of (front_of refFile unitFile))) (keep_known found h).edge

-- what `Keep` knows of a found file that it has read: how many bytes are kept, which they are, and where the first and the last kept line stand
pub keep_knows_what_is_kept : (found : List ℕ) → length found ≤ most_bytes → Known found (keep_all fresh found)
keep_knows_what_is_kept = keep_known

-- it knows the same however the file is cut into pieces
pub keep_by_pieces : (k : Keep) (xs ys : List ℕ) → keep_all k (xs ++ ys) ≡ keep_all (keep_all k xs) ys
keep_by_pieces = keep_append

-- `place` needs no more of the two lines than a buffer that is longer than the longest line holds
pub edges_by_a_buffer : (first : List ℕ) (count : ℕ) (counts : List ℕ) (n : ℕ) (a z : List ℕ) → length first < n → most_listed + 1 < n
    → place_by first count counts (edges_from (take n a) (take n z)) ≡ place_by first count counts (edges_from a z)
edges_by_a_buffer = place_near

-- "passed over by their 0A only": the lines behind the j-th are those of what stands behind the j-th 0A
pub skip_counts_ends : (j : ℕ) (file : List ℕ) → skip j (lines_of file) ≡ lines_in (passed j file)
skip_counts_ends = skip_passed

-- `pass` finds that place however the file is cut into pieces
pub pass_by_pieces : (want : ℕ) (xs ys : List ℕ) → passed want (xs ++ ys) ≡ passed (pass_over want xs).left (drop (pass_over want xs).at xs ++ ys)
pass_by_pieces = pass_piece

-- a refused resume prints only 05, ffff and its number
pub refused_prints_one_line : (q : List ℕ) (n : ℕ) → printed q (refuse n) ≡ line05 no_record n
refused_prints_one_line q n = refl
