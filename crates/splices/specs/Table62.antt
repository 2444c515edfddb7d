-- Table 62 of the standard: decoding process of the pair descriptor subsequences for spliced reads, for one segment i of a record of class I or HM.
-- One definition a decoding case, under the page's names (`spliced_seg_mapping_pos` is the page's splicedSegMappingPos). How to read a case: taking's Steps.
-- Its outer loop, for(i = 0; i < numberOfAlignedRecordSegments; i++), is the aligned blocks of the record: each takes its symbols behind its last length.
-- The loop before it, which sets splicedSegMappingPos[i][0], runs to numberOfMappedRecordSegments: by 10.4.10 the same number, but in class U with a
-- computed reference, which document 01 leaves out.
-- What the page says oddly: prevSpliceMappingEnd is the piece's position plus its length in the READ (soft clips and insertions count, deletions do not), while Table 94
-- counts a splice from what the piece takes of the REFERENCE. The sign of delta is the low bit, so a delta of 0 may have either sign. Table 59 calls a distance of up to 65,535
-- short, but a delta has 15 bits. Code 1, splice_diff_ref_seq of Table 59, has no case here: with every other value it is reserved.
-- Assumes nothing.
use Rattle.std.specs.Prelude.{ℕ, ◌/◌, ◌%◌, cond, List, [], ◌∷◌, eqb}
use Rattle.taking.specs.Steps.{Steps, sets, takes, within16, reserved, and_then}
use Rattle.edits.specs.Pieces.{SignedPosition, straight, onwards, backwards}

-- prevSpliceMappingEnd + delta, where delta = value >> 1, and if(value & 0x0001) delta = - delta: it may come out below 0
unfoldable pub by_delta : (prevSpliceMappingEnd : SignedPosition) (value : ℕ) → SignedPosition
by_delta prevSpliceMappingEnd value = cond (eqb (value % 2) 1) (backwards (value / 2) prevSpliceMappingEnd) (onwards (value / 2) prevSpliceMappingEnd)

-- 0: same_rec_short. value = subsequence1[j8,1], j8,1++
unfoldable pub same_rec_short : (prevSpliceMappingEnd : SignedPosition) → Steps SignedPosition
same_rec_short prevSpliceMappingEnd = takes 1 (λ value. within16 value (sets (by_delta prevSpliceMappingEnd value)))

-- 2: same_rec_long. splicedSegMappingPos = subsequence3[j8,3], j8,3++: "Absolute mapping position of the splice on the same reference sequence"
unfoldable pub same_rec_long : Steps SignedPosition
same_rec_long = takes 3 (λ position. sets (straight position))

-- the case by the code, which is the page's subsequence0 at j8,0; "other subsequence0 values: reserved"
unfoldable pub table62 : (prevSpliceMappingEnd : SignedPosition) (code : ℕ) → Steps SignedPosition
table62 prevSpliceMappingEnd code =
    cond (eqb code 0) (same_rec_short prevSpliceMappingEnd)
    (cond (eqb code 2) same_rec_long
    reserved)

-- splicedSegMappingPos[i][j] by prevSpliceMappingEnd: a turn of the inner loop, with its j8,0++
unfoldable pub next_mapping_pos : (prevSpliceMappingEnd : SignedPosition) → Steps SignedPosition
next_mapping_pos prevSpliceMappingEnd = takes 0 (λ code. table62 prevSpliceMappingEnd code)

-- splicedSegMappingPos[i][j] for every j from a piece on: that piece's own, and for(j = 1; j < numberOfSplicedSeg[i]; j++) those behind it, with
-- prevSpliceMappingEnd = splicedSegMappingPos[i][j - 1] + splicedSegLength[i][j - 1]. For a whole read it begins with splicedSegMappingPos[i][0] = mappingPos[0][i]
unfoldable pub spliced_seg_mapping_pos : (position : SignedPosition) (spliced_seg_length : List ℕ) → Steps (List SignedPosition)
spliced_seg_mapping_pos position [] = sets []
spliced_seg_mapping_pos position (n ∷ []) = sets (position ∷ [])
spliced_seg_mapping_pos position (n ∷ m ∷ ns) =
    and_then (next_mapping_pos (onwards n position)) (λ next. and_then (spliced_seg_mapping_pos next (m ∷ ns)) (λ rest. sets (position ∷ rest)))
