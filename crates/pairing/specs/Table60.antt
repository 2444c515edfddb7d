-- Table 60 of the standard: decoding process of the pair descriptor subsequences for the first alignment in the record or class U.
-- One definition a decoding case, in the order of the page and under its names (`same_rec` is the page's same_rec). The page's i is 1, since a template has at most two segments.
-- How to read a case: `takes N (λ value. ..)` is value = subsequenceN[j8,N], then j8,N++; `within16 value ..` is Table 30's limit, else refusal 7; `sets` is what the case assigns (taking's Steps).
-- The page has lost the brace that closes case 5 (R1_unpaired): read as printed, case 6 and j8,0++ would stand inside it.
-- Assumes nothing.
use Rattle.std.specs.Prelude.{ℕ, ◌+◌, ◌-◌, ◌/◌, ◌%◌, cond, eqb}
use Rattle.unit.specs.Unit.{class_u}
use Rattle.taking.specs.Steps.{Steps, sets, takes, within16, reserved}
use Rattle.pairing.specs.declared.Mate.{Mate}
use Rattle.pairing.specs.declared.Mate.TheVariants.{Unpaired, Near, Far}

-- What a case leaves. numberOfRecordSegments stands above the table, among the outputs of 10.4.10; document 01 makes it a column.
pub record Decoded : Type 0 where
  pub number_of_record_segments : ℕ
  pub split_mate : ℕ
  pub read1_first : ℕ
  pub mate : Mate

-- if(classId != Class_U) mateSeqId and mappingPos are set, else pairingMate = -1, which is no aligned mate
unfoldable pub mate_at : (classId sequence position : ℕ) → Mate
mate_at classId sequence position = cond (eqb classId class_u) Unpaired (Far sequence position)

-- read1First = (value & 0x0001) ? 0 : 1 (Table 30 calls the low bit read1_first itself: document 01 follows Table 60)
abbrev pub read_first : ℕ → ℕ
read_first value = 1 - value % 2

-- delta = value >> 1
abbrev pub delta_of : ℕ → ℕ
delta_of value = value / 2

-- class HM: same_rec
unfoldable pub HM_same_rec : Steps Decoded
HM_same_rec =
    takes 1
    (λ value. within16 value
    (sets record { number_of_record_segments = 2; split_mate = 0; read1_first = read_first value; mate = Unpaired }))

-- 0: same_rec. In class U the page takes a value where crps_flag is set and cr_alg_ID is 2 or 4; document 01 has no computed reference, so nothing is taken.
unfoldable pub same_rec : (classId : ℕ) → Steps Decoded
same_rec classId =
    cond (eqb classId class_u)
    (sets record { number_of_record_segments = 2; split_mate = 0; read1_first = 1; mate = Unpaired })
    (takes 1
    (λ value. within16 value
    (sets record { number_of_record_segments = 2; split_mate = 0; read1_first = read_first value; mate = Near (delta_of value) })))

-- splitMate = 1, read1First as given; the mate's position from subsequenceN, on this sequence; in class U it is passed over
unfoldable pub split : (classId sequence N read1_first : ℕ) → Steps Decoded
split classId sequence N read1_first =
    takes N
    (λ position.
    sets record { number_of_record_segments = 1; split_mate = 1; read1_first = read1_first; mate = mate_at classId sequence position })

-- 1: R1_split. read1First = 0; mappingPos = subsequence2[j8,2], mateSeqId = seqId, j8,2++
abbrev pub R1_split : (classId seqId : ℕ) → Steps Decoded
R1_split classId seqId = split classId seqId 2 0

-- 2: R2_split. read1First = 1; mappingPos = subsequence3[j8,3], mateSeqId = seqId, j8,3++
abbrev pub R2_split : (classId seqId : ℕ) → Steps Decoded
R2_split classId seqId = split classId seqId 3 1

-- a different reference sequence: its id from subsequenceN, the mate's position there from subsequenceQ. In class U the value of N is no sequence id (Table 30) and has no limit.
unfoldable pub diff_ref_seq : (classId N Q read1_first : ℕ) → Steps Decoded
diff_ref_seq classId N Q read1_first =
    takes N
    (λ id.
    cond (eqb classId class_u) (split classId id Q read1_first) (within16 id (split classId id Q read1_first)))

-- 3: R1_diff_ref_seq. read1First = 0; mateSeqId = subsequence4[j8,4], mappingPos = subsequence6[j8,6], j8,4++, j8,6++
abbrev pub R1_diff_ref_seq : (classId : ℕ) → Steps Decoded
R1_diff_ref_seq classId = diff_ref_seq classId 4 6 0

-- 4: R2_diff_ref_seq. read1First = 1; mateSeqId = subsequence5[j8,5], mappingPos = subsequence7[j8,7], j8,5++, j8,7++
abbrev pub R2_diff_ref_seq : (classId : ℕ) → Steps Decoded
R2_diff_ref_seq classId = diff_ref_seq classId 5 7 1

-- 5: R1_unpaired
abbrev pub R1_unpaired : Steps Decoded
R1_unpaired = sets record { number_of_record_segments = 1; split_mate = 2; read1_first = 1; mate = Unpaired }

-- 6: R2_unpaired
abbrev pub R2_unpaired : Steps Decoded
R2_unpaired = sets record { number_of_record_segments = 1; split_mate = 2; read1_first = 0; mate = Unpaired }

-- the case by the code, which is the page's subsequence0 at j8,0
unfoldable pub table60 : (classId seqId code : ℕ) → Steps Decoded
table60 classId seqId code =
    cond (eqb code 0) (same_rec classId)
    (cond (eqb code 1) (R1_split classId seqId)
    (cond (eqb code 2) (R2_split classId seqId)
    (cond (eqb code 3) (R1_diff_ref_seq classId)
    (cond (eqb code 4) (R2_diff_ref_seq classId)
    (cond (eqb code 5) R1_unpaired
    (cond (eqb code 6) R2_unpaired
    reserved))))))

-- The mate's two values are kept as a `Mate`, since the pair symbols are taken before pos is read: pos is the page's mappingPos[0][0].

-- mateSeqId[0][1] in a unit of sequence id seqId; 0 where no mate is aligned (document 01, The listing)
abbrev pub mate_seq_id : ℕ → Mate → ℕ
mate_seq_id seqId Unpaired = 0
mate_seq_id seqId (Near delta) = seqId
mate_seq_id seqId (Far sequence position) = sequence

-- mappingPos[0][1] in a record at pos; 0 where no mate is aligned (document 01, The listing)
abbrev pub mapping_pos : ℕ → Mate → ℕ
mapping_pos pos Unpaired = 0
mapping_pos pos (Near delta) = pos + delta
mapping_pos pos (Far sequence position) = position
