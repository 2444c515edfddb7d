-- What is known of a found file after each of its bytes (document 01, Resuming): `Keep`, read in pieces of any size.
-- Assumes nothing.
use Rattle.std.specs.Prelude.{ℕ, ◌+◌, ◌-◌, ◌≡◌, true, false, cond, List, [], ◌∷◌, eqb, leb, length, take, drop}
use Rattle.frame.specs.Line.{line_end}
use Rattle.listing.specs.Lines.{kept}
use Rattle.listing.specs.Resuming.{Edges, edges_from, edges_in}
use Rattle.kept.specs.declared.keep.Keep.{Keep}

-- the most bytes that are counted; a longer file is read no further
abbrev pub most_bytes : ℕ
most_bytes = 18446744073709551615

-- nothing is read
abbrev pub fresh : Keep
fresh = record { first = 0; last = 0; kept = 0; seen = 0; done = false }

-- nothing that follows is kept
abbrev pub kept_no_more : Keep → Keep
kept_no_more k = record { first = k.first; last = k.last; kept = k.kept; seen = k.seen; done = true }

-- an 0A: the line that it ends is kept
abbrev pub line_kept : Keep → Keep
line_kept k =
    record {
      first = cond (eqb k.first 0) (k.seen + 1) k.first;
      last = k.kept;
      kept = k.seen + 1;
      seen = k.seen + 1;
      done = false;
    }

-- n bytes that neither end a line nor the file
abbrev pub passed_by : Keep → ℕ → Keep
passed_by k n = record { first = k.first; last = k.last; kept = k.kept; seen = k.seen + n; done = false }

-- one byte more
unfoldable pub keep_byte : Keep → ℕ → Keep
keep_byte k b =
    cond k.done k
    (cond (eqb b 0) (kept_no_more k)
    (cond (leb most_bytes k.seen) (kept_no_more k)
    (cond (eqb b line_end) (line_kept k) (passed_by k 1))))

-- the bytes of a piece, one after the other
unfoldable pub keep_all : Keep → List ℕ → Keep
keep_all k [] = k
keep_all k (b ∷ bs) = keep_all (keep_byte k b) bs

-- the first and the last kept line of the file, by the places that are known
abbrev pub edges_at : Keep → List ℕ → Edges
edges_at k f = edges_from (take k.first f) (take (k.kept - k.last) (drop k.last f))

-- what is known of a file at its end: how many bytes are kept, that they are its first ones, and its first and its last kept line
pub record Known (f : List ℕ) (k : Keep) : Type 0 where
  pub count : k.kept ≡ length (kept f)
  pub front : take k.kept f ≡ kept f
  pub edge : edges_at k f ≡ edges_in f
