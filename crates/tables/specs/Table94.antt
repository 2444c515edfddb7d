-- Table 94: decoding process for the e-cigar strings of a genomic record with spliced reads, for one segment s.
-- The variables have the table's names, without their index [s], in this language's spelling where a definition or a field has them (`spliced_seg_length` is splicedSegLength); its outer loop is Table 92's. A for loop is a function that calls itself once for each turn left.
-- Of the page: reverseComp's indexes are spliced segment, segment, 0 here, and spliced segment, mapping, segment in Table 45; the first mapping's is meant.
-- The sign of an undirected splice stands there as "***", in Table 90 as *, which it is. A brace is lost behind two tests of reverseComp, and a bracket in each
-- clip: the clips are Table 92's. Where a spliced segment has no mismatches mmEndIdx is mmStartIdx - 1: [mmStartIdx, mmEndIdx] is then empty.
-- splicedSegMappedLength is cited from 10.4.9 (Table 56: the length less the soft clips); meant is the array as Table 51 leaves it, less the insertions and with the deletions (edits, Pieces).
-- No difference here is below 0 in a read that is accepted: a spliced segment keeps a base beside its clips (refusal 9), and spliceOffset is at least 1 (refusal 13).
-- Assumes nothing.
use Rattle.std.specs.Prelude.{ℕ, zero, suc, ◌+◌, ◌-◌, cond, ◌||◌, List, [], ◌∷◌, ◌++◌, map, ltb, eqb, length, take, drop, get_or}
use Rattle.unit.specs.Unit.{class_p, class_n, class_m, class_i, class_hm}
use Rattle.edits.specs.Pieces as edits
use Rattle.edits.specs.Pieces.{Piece, begins_at}
use Rattle.edits.specs.declared.edit.Edit.{Edit}
use Rattle.ecigar.specs.Table90.{slash_sign, percent_sign, star_sign}
use Rattle.tables.specs.Table93.{inttostr, decode_ecigar_mismatches}
use Rattle.tables.specs.Table92.{left_clipped, right_clipped}

-- the items [s][i] of the arrays of spliced segments; of reverseComp, [i][s][0]
pub record SplicedSeg : Type 0 where
  pub spliced_seg_length : ℕ
  pub spliced_seg_mapping_pos : ℕ
  pub spliced_seg_mapped_length : ℕ
  pub spliced_seg_mismatch_idx : ℕ
  pub spliced_seg_mismatch_number : ℕ
  pub spliced_seg_mismatch_offsets : List ℕ
  pub reverse_comp : ℕ

-- past the end of the arrays, where the loop never looks
abbrev no_spliced_seg : SplicedSeg
no_spliced_seg =
    record {
      spliced_seg_length = 0;
      spliced_seg_mapping_pos = 0;
      spliced_seg_mapped_length = 0;
      spliced_seg_mismatch_idx = 0;
      spliced_seg_mismatch_number = 0;
      spliced_seg_mismatch_offsets = [];
      reverse_comp = 0;
    }

-- what stands at [i]
abbrev pub seg_at : List SplicedSeg → ℕ → SplicedSeg
seg_at segs i = get_or segs i no_spliced_seg

-- a[mmStartIdx, mmEndIdx], where mmEndIdx = mmStartIdx + number - 1
abbrev pub between : (a : List ℕ) (mmStartIdx number : ℕ) → List ℕ
between a mmStartIdx number = take number (drop mmStartIdx a)

-- length = splicedSegLength[s][i]; if(i == 0) length -= softClipSizes[s][0]; if(i == (numberOfSplicedSeg[s] - 1)) length -= softClipSizes[s][1]
unfoldable pub unclipped_length : (numberOfSplicedSeg leftSize rightSize i spliced_seg_length : ℕ) → ℕ
unclipped_length numberOfSplicedSeg leftSize rightSize i spliced_seg_length =
    let length : ℕ = cond (eqb i 0) (spliced_seg_length - leftSize) spliced_seg_length in
    cond (eqb i (numberOfSplicedSeg - 1)) (length - rightSize) length

-- spliceOffset = splicedSegMappingPos[s][i] - splicedSegMappingPos[s][i - 1] - splicedSegMappedLength[s][i - 1]
abbrev pub splice_offset : (previous here : SplicedSeg) → ℕ
splice_offset previous here = here.spliced_seg_mapping_pos - previous.spliced_seg_mapping_pos - previous.spliced_seg_mapped_length

-- ecigar = strcat(ecigar, inttostr(spliceOffset)), and by reverseComp the sign behind it: '/' for 0, '%' for 1, '*' for 2; others are reserved
unfoldable pub with_splice : (reverse_comp offset : ℕ) (ecigar : List ℕ) → List ℕ
with_splice reverse_comp offset ecigar =
    cond (eqb reverse_comp 0) (ecigar ++ inttostr offset ++ slash_sign ∷ [])
    (cond (eqb reverse_comp 1) (ecigar ++ inttostr offset ++ percent_sign ∷ [])
    (cond (eqb reverse_comp 2) (ecigar ++ inttostr offset ++ star_sign ∷ [])
    (ecigar ++ inttostr offset)))

-- decodeECigarMismatches(classId, length, splicedSegMismatchNumber[s][i], splicedSegMismatchOffsets[s][i],
-- mismatches[s][mmStartIdx, mmEndIdx], mismatchTypes[s][mmStartIdx, mmEndIdx])
abbrev pub decode_spliced_seg : (classId length : ℕ) (mismatches mismatchTypes : List ℕ) → SplicedSeg → List ℕ
decode_spliced_seg classId length mismatches mismatchTypes here =
    decode_ecigar_mismatches classId length here.spliced_seg_mismatch_number here.spliced_seg_mismatch_offsets
    (between mismatches here.spliced_seg_mismatch_idx here.spliced_seg_mismatch_number)
    (between mismatchTypes here.spliced_seg_mismatch_idx here.spliced_seg_mismatch_number)

-- for(i = 0; i < numberOfSplicedSeg[s]; i++) { .. if(i > 0) { the splice } .. ecigar = strcat(ecigar, decodedEcigar) }
unfoldable pub spliced_loop : (classId numberOfSplicedSeg leftSize rightSize : ℕ) (segs : List SplicedSeg) (mismatches mismatchTypes : List ℕ) (left i : ℕ) (ecigar : List ℕ) → List ℕ
spliced_loop classId numberOfSplicedSeg leftSize rightSize segs mismatches mismatchTypes zero i ecigar = ecigar
spliced_loop classId numberOfSplicedSeg leftSize rightSize segs mismatches mismatchTypes (suc left) i ecigar =
    let here : SplicedSeg = seg_at segs i in
    let length : ℕ = unclipped_length numberOfSplicedSeg leftSize rightSize i here.spliced_seg_length in
    let spliced : List ℕ = cond (ltb 0 i) (with_splice here.reverse_comp (splice_offset (seg_at segs (i - 1)) here) ecigar) ecigar in
    spliced_loop classId numberOfSplicedSeg leftSize rightSize segs mismatches mismatchTypes left (i + 1) (spliced ++ decode_spliced_seg classId length mismatches mismatchTypes here)

-- ecigarString[s] of Table 94; softClipSizes[s][0] is strlen(leftSoftClips), softClipSizes[s][1] strlen(rightSoftClips)
unfoldable pub spliced_ecigar_string : (classId readLength numMismatches : ℕ) (mismatchOffsets mismatches mismatchTypes : List ℕ)
    (numberOfSplicedSeg : ℕ) (segs : List SplicedSeg)
    (left_soft_clips right_soft_clips : List ℕ) (leftHardClips rightHardClips : ℕ) → List ℕ
spliced_ecigar_string classId readLength numMismatches mismatchOffsets mismatches mismatchTypes numberOfSplicedSeg segs left_soft_clips right_soft_clips leftHardClips rightHardClips =
    cond (eqb classId class_p) (decode_ecigar_mismatches classId readLength 0 [] [] [])
    (cond (eqb classId class_n) (decode_ecigar_mismatches classId readLength numMismatches mismatchOffsets [] [])
    (cond (eqb classId class_m) (decode_ecigar_mismatches classId readLength numMismatches mismatchOffsets mismatches [])
    (cond (eqb classId class_i || eqb classId class_hm)
    (let ecigar : List ℕ = spliced_loop classId numberOfSplicedSeg (length left_soft_clips) (length right_soft_clips) segs mismatches mismatchTypes numberOfSplicedSeg 0 [] in
    right_clipped right_soft_clips rightHardClips (left_clipped left_soft_clips leftHardClips ecigar))
    [])))

-- ---- what Table 94 is given for a read's pieces

-- one of them: splicedSegMismatchOffsets by Table 49, less splicedSegStartOffset; splicedSegMismatchIdx is the number of mismatches before it (Table 48)
abbrev pub spliced_seg_of : (rcomp mmStartIdx spliced_seg_length : ℕ) → Piece → SplicedSeg
spliced_seg_of rcomp mmStartIdx spliced_seg_length p =
    record {
      spliced_seg_length = spliced_seg_length;
      spliced_seg_mapping_pos = begins_at p;
      spliced_seg_mapped_length = edits.spliced_seg_mapped_length p;
      spliced_seg_mismatch_idx = mmStartIdx;
      spliced_seg_mismatch_number = length p.edits;
      spliced_seg_mismatch_offsets = map (λ (e : Edit). e.offset - p.start) p.edits;
      reverse_comp = rcomp;
    }

-- all of them, with splicedSegLength as the block gives it, clips and all
unfoldable pub spliced_segs_from : (rcomp mmStartIdx : ℕ) (spliced_seg_length : List ℕ) → List Piece → List SplicedSeg
spliced_segs_from rcomp mmStartIdx [] ps = []
spliced_segs_from rcomp mmStartIdx (n ∷ ns) [] = []
spliced_segs_from rcomp mmStartIdx (n ∷ ns) (p ∷ ps) = spliced_seg_of rcomp mmStartIdx n p ∷ spliced_segs_from rcomp (mmStartIdx + length p.edits) ns ps
