-- Table 92: decoding process for the e-cigar strings of a genomic record without spliced reads, for one segment s.
-- The variables have the table's names, without their index [s]; its outer loop, for(s = 0; s < numberOfAlignedRecordSegments; s++), is the aligned segments of
-- the record (10.4.10: 1 in HM, 0 in U, else numberOfRecordSegments), which plan's `first_segment` and `second_segment` tell by the class.
-- Assumes nothing.
use Rattle.std.specs.Prelude.{ℕ, ◌-◌, cond, not, ◌||◌, List, [], ◌∷◌, ◌++◌, map, eqb, length}
use Rattle.unit.specs.Unit.{class_p, class_n, class_m, class_i, class_hm}
use Rattle.alphabet.specs.Table35.{letter_of}
use Rattle.edits.specs.declared.edit.Edit.{Edit}
use Rattle.ecigar.specs.Table90.{round_open, round_close, square_open, square_close}
use Rattle.tables.specs.Table93.{inttostr, decode_ecigar_mismatches}

-- if(strlen(leftSoftClips) != 0) ecigar = strcat('(', inttostr(strlen(leftSoftClips)), ')', ecigar)
-- else if(leftHardClips != 0) ecigar = strcat('[', inttostr(leftHardClips), ']', ecigar)
unfoldable pub left_clipped : (left_soft_clips : List ℕ) (leftHardClips : ℕ) (ecigar : List ℕ) → List ℕ
left_clipped left_soft_clips leftHardClips ecigar =
    cond (not (eqb (length left_soft_clips) 0)) (round_open ∷ [] ++ inttostr (length left_soft_clips) ++ round_close ∷ [] ++ ecigar)
    (cond (not (eqb leftHardClips 0)) (square_open ∷ [] ++ inttostr leftHardClips ++ square_close ∷ [] ++ ecigar)
    ecigar)

-- if(strlen(rightSoftClips) != 0) ecigar = strcat(ecigar, '(', inttostr(strlen(rightSoftClips)), ')')
-- else if(rightHardClips != 0) ecigar = strcat(ecigar, '[', inttostr(rightHardClips), ']')
unfoldable pub right_clipped : (right_soft_clips : List ℕ) (rightHardClips : ℕ) (ecigar : List ℕ) → List ℕ
right_clipped right_soft_clips rightHardClips ecigar =
    cond (not (eqb (length right_soft_clips) 0)) (ecigar ++ round_open ∷ [] ++ inttostr (length right_soft_clips) ++ round_close ∷ [])
    (cond (not (eqb rightHardClips 0)) (ecigar ++ square_open ∷ [] ++ inttostr rightHardClips ++ square_close ∷ [])
    ecigar)

-- ecigarString[s]; ecigarLength[s] is its length
unfoldable pub ecigar_string : (classId readLength numMismatches : ℕ) (mismatchOffsets mismatches mismatchTypes : List ℕ)
    (left_soft_clips right_soft_clips : List ℕ) (leftHardClips rightHardClips : ℕ) → List ℕ
ecigar_string classId readLength numMismatches mismatchOffsets mismatches mismatchTypes left_soft_clips right_soft_clips leftHardClips rightHardClips =
    cond (eqb classId class_p) (decode_ecigar_mismatches classId readLength 0 [] [] [])
    (cond (eqb classId class_n) (decode_ecigar_mismatches classId readLength numMismatches mismatchOffsets [] [])
    (cond (eqb classId class_m) (decode_ecigar_mismatches classId readLength numMismatches mismatchOffsets mismatches [])
    (cond (eqb classId class_i || eqb classId class_hm)
    (let mapped_length : ℕ = readLength - length left_soft_clips - length right_soft_clips in
    let ecigar : List ℕ = decode_ecigar_mismatches classId mapped_length numMismatches mismatchOffsets mismatches mismatchTypes in
    right_clipped right_soft_clips rightHardClips (left_clipped left_soft_clips leftHardClips ecigar))
    [])))

-- ---- what Table 92 is given for a segment

-- mismatchOffsets[s]
abbrev pub offsets_of : List Edit → List ℕ
offsets_of es = map (λ (e : Edit). e.offset) es

-- mismatches[s] (Table 52: letters; undefined for a deletion, and not looked at)
abbrev pub letters_in : (alphabet : ℕ) → List Edit → List ℕ
letters_in alphabet es = map (λ (e : Edit). letter_of alphabet e.symbol) es

-- mismatchTypes[s]
abbrev pub types_of : List Edit → List ℕ
types_of es = map (λ (e : Edit). e.kind) es
