-- The pieces of a read over introns (the standard's spliced segments, splicedSeg): where each begins and ends among the mapped bases, and which edits are its own.
-- Offsets count over the mapped bases of the whole read, through all pieces (Table 48 carries previousOffset on; Table 49 takes splicedSegStartOffset off).
-- Assumes nothing.
use Rattle.std.specs.Prelude.{ℕ, ◌+◌, ◌-◌, ◌≡◌, Bool, cond, List, [], ◌∷◌, ltb}
use Rattle.edits.specs.Edits.{taken_from}
use Rattle.edits.specs.declared.edit.Edit.{Edit}

-- ---- where a piece maps

-- a position that may come out below 0, as Table 62's delta may be negative: `above` less `below`
pub record SignedPosition : Type 0 where
  pub above : ℕ
  pub below : ℕ

-- a position as it is given
abbrev pub straight : ℕ → SignedPosition
straight position = record { above = position; below = 0 }

-- so many further on
abbrev pub onwards : ℕ → SignedPosition → SignedPosition
onwards n p = record { above = p.above + n; below = p.below }

-- so many back
abbrev pub backwards : ℕ → SignedPosition → SignedPosition
backwards n p = record { above = p.above; below = p.below + n }

-- it lies below 0
abbrev pub below_zero : SignedPosition → Bool
below_zero p = ltb p.above p.below

-- the position, where it does not
abbrev pub position_of : SignedPosition → ℕ
position_of p = p.above - p.below

-- ---- which edits belong to it

-- "An edit belongs to the piece that has the base at its offset; so a deletion between two pieces belongs to the one that begins there": those before an offset
unfoldable pub edits_before : (offset : ℕ) → List Edit → List Edit
edits_before offset [] = []
edits_before offset (e ∷ es) = cond (ltb e.offset offset) (e ∷ edits_before offset es) []

-- and those from it on
unfoldable pub edits_behind : (offset : ℕ) → List Edit → List Edit
edits_behind offset [] = []
edits_behind offset (e ∷ es) = cond (ltb e.offset offset) (edits_behind offset es) (e ∷ es)

-- ---- a piece

-- splicedSegMappingPos, splicedSegStartOffset and splicedSegEndOffset (Table 49), and its edits with the offsets that they have in the whole read
pub record Piece : Type 0 where
  pub at : SignedPosition
  pub start : ℕ
  pub until : ℕ
  pub edits : List Edit

-- where it begins
abbrev pub begins_at : Piece → ℕ
begins_at p = position_of p.at

-- splicedSegMappedLength, as Table 51 leaves it: the reference positions that it takes
abbrev pub spliced_seg_mapped_length : Piece → ℕ
spliced_seg_mapped_length p = taken_from p.until p.start p.edits

-- the reference position behind it
abbrev pub end_of : Piece → ℕ
end_of p = begins_at p + spliced_seg_mapped_length p

-- the pieces, from a start offset on: each ends where its length does and the next begins there; the last ends with the mapped bases, and has all edits that are left
unfoldable pub pieces_from : (mapped start : ℕ) → List Edit → (spliced_seg_length : List ℕ) → (spliced_seg_mapping_pos : List SignedPosition) → List Piece
pieces_from mapped start es [] ps = []
pieces_from mapped start es (n ∷ ns) [] = []
pieces_from mapped start es (n ∷ []) (p ∷ ps) = record { at = p; start = start; until = mapped; edits = es } ∷ []
pieces_from mapped start es (n ∷ m ∷ ns) (p ∷ ps) =
    record { at = p; start = start; until = start + n; edits = edits_before (start + n) es } ∷ pieces_from mapped (start + n) (edits_behind (start + n) es) (m ∷ ns) ps

-- the left soft clip is taken off the first length (splicedSegEndOffset = splicedSegStartOffset + splicedSegLength[0] - softClipSizes[0])
unfoldable pub less_first : (soft : ℕ) (lengths : List ℕ) → List ℕ
less_first soft [] = []
less_first soft (n ∷ ns) = (n - soft) ∷ ns

-- THE PIECES OF A READ, of its mapped bases, left soft clip and edits
abbrev pub pieces_of : (mapped leftSoft : ℕ) → List Edit → (spliced_seg_length : List ℕ) → (spliced_seg_mapping_pos : List SignedPosition) → List Piece
pieces_of mapped leftSoft es lengths positions = pieces_from mapped 0 es (less_first leftSoft lengths) positions

-- ---- what is known of them

-- lengths, added up
unfoldable pub sum_of : List ℕ → ℕ
sum_of [] = 0
sum_of (n ∷ ns) = n + sum_of ns

-- the last of them
unfoldable pub last_length : List ℕ → ℕ
last_length [] = 0
last_length (n ∷ []) = n
last_length (n ∷ m ∷ ns) = last_length (m ∷ ns)

-- each of some pieces
pub data EachPiece (P : Piece → Type 0) : List Piece → Type 0 where
  nil : EachPiece P []
  cons : (p : Piece) {ps : List Piece} → P p → EachPiece P ps → EachPiece P (p ∷ ps)

-- the first of some pieces
abbrev pub OfFirst : (Piece → Type 0) → List Piece → Type 0
OfFirst P [] = Unit
OfFirst P (p ∷ ps) = P p

-- the last of them
abbrev pub OfLast : (Piece → Type 0) → List Piece → Type 0
OfLast P [] = Unit
OfLast P (p ∷ []) = P p
OfLast P (p ∷ q ∷ ps) = OfLast P (q ∷ ps)

-- pieces that follow each other without a gap, from one place of the mapped bases to another
unfoldable pub Spans : (from : ℕ) → List Piece → (to : ℕ) → Type 0
Spans from [] to = from ≡ to
Spans from (p ∷ ps) to = (p.start ≡ from) × Spans p.until ps to
