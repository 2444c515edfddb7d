-- The words in which an aligned segment that is listed is compared with the standard: its bases and E-CIGAR as they are listed, and where its bases come from.
-- Assumes nothing.
use Rattle.std.specs.Prelude.{ℕ, ◌+◌, ◌<◌, ◌≤◌, ◌≡◌, false, List, [], ◌∷◌}
use Rattle.unit.specs.declared.Unit.{Unit}
use Rattle.alphabet.specs.Table35.{size_of, letter_of}
use Rattle.edits.specs.declared.edit.Edit.{Edit}
use Rattle.edits.specs.Lengths.{mapped_length}
use Rattle.edits.specs.Flanks.{DeletionAt}
use Rattle.edits.specs.Pieces.{Piece, below_zero, begins_at, end_of}
use Rattle.ecigar.specs.Table90.{Operation}
use Rattle.ecigar.specs.Spliced.{read_operations, Apart}
use Rattle.bases.specs.Alignment.{MatchedIn, EditedIn, LiesOn}
use Rattle.segment.specs.declared.Placed.{Placed}
pub use Rattle.segment.specs.Segment.{edits_in, pieces_at, bases_listed, table92, table94}

-- ---- as it is listed (`aligned_bytes`)

abbrev pub listed_bases : Unit → (reference symbols frame : List ℕ) → Placed → List ℕ
listed_bases u reference symbols frame q = bases_listed u reference symbols frame q

abbrev pub listed_ecigar : Unit → (symbols frame : List ℕ) → Placed → List ℕ
listed_ecigar u symbols frame q = table94 u symbols frame q

-- rows of Table 90 that the E-CIGAR is written by
abbrev pub listed_operations : Unit → (symbols frame : List ℕ) → Placed → List Operation
listed_operations u symbols frame q = read_operations u.alphabet q.block.rcomp q.block.clips (pieces_at u symbols frame q)

-- how many of its bases are mapped
abbrev pub mapped_in : Placed → ℕ
mapped_in q = mapped_length q.block.length q.block.clips

-- ---- where its bases come from

-- mapped base i matches the reference at a position: that of its piece, as far from its beginning as 10.6.1 moves pointer R
abbrev pub Matches : Unit → (symbols frame : List ℕ) → Placed → ℕ → ℕ → Type 0
Matches u symbols frame q i at = MatchedIn (pieces_at u symbols frame q) i at

-- mapped base i is brought by an edit, a substitution or an insertion
abbrev pub Brought : Unit → (symbols frame : List ℕ) → Placed → ℕ → Edit → Type 0
Brought u symbols frame q i e = EditedIn (pieces_at u symbols frame q) i e

-- mapped base i lies on the reference at a position: it matches there, or is substituted there
abbrev pub Lies : Unit → (symbols frame : List ℕ) → Placed → ℕ → ℕ → Type 0
Lies u symbols frame q i at = LiesOn (pieces_at u symbols frame q) i at

-- a deletion of the read stands at an offset
abbrev pub Deleted : Unit → (frame : List ℕ) → Placed → ℕ → Type 0
Deleted u frame q offset = DeletionAt offset (edits_in u frame q)

-- a letter of the alphabet (Table 35)
abbrev pub Letter : ℕ → ℕ → Type 0
Letter alphabet letter = (symbol : ℕ) × ((symbol < size_of alphabet) × (letter ≡ letter_of alphabet symbol))

-- ---- where its pieces lie

-- a piece has a position, and lies inside the unit
abbrev pub InUnit : Unit → Piece → Type 0
InUnit u p = (below_zero p.at ≡ false) × ((u.start ≤ begins_at p) × (end_of p ≤ u.end + 1))

-- each piece begins behind the end of the one before it: they are in order and apart, so that every splice counts a position
unfoldable pub Follow : List Piece → Type 0
Follow [] = Apart 0 []
Follow (p ∷ ps) = Apart (end_of p) ps
