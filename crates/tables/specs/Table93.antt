-- Table 93: decoding process for the mismatches within one e-cigar string.
-- The variables have the table's names, in this language's spelling where a definition or a field has them (`previous_offset` is previousOffset). A while loop is a function that calls itself; `left` only makes it end, and mmNumber turns are always enough.
-- The page has lost the brace that closes Class_I: the last "delta = len - previousOffset" is that case's own, as N and M have theirs; "tostr" there is inttostr.
-- Where offsets are in order, as in every list that is accepted, no difference here is below 0.
-- Assumes nothing.
use Rattle.std.specs.Prelude.{ℕ, zero, suc, ◌+◌, ◌-◌, cond, ◌&&◌, ◌||◌, List, [], ◌∷◌, ◌++◌, ltb, eqb, get_or}
use Rattle.writing.specs.Decimal.{decimal}
use Rattle.unit.specs.Unit.{class_p, class_n, class_m, class_i, class_hm}
use Rattle.alphabet.specs.Table35.{letter_n}
use Rattle.ecigar.specs.Table90.{equals_sign, plus_sign, minus_sign}

-- inttostr(i): the base-10 representation
abbrev pub inttostr : ℕ → List ℕ
inttostr i = decimal i

-- a[i]
abbrev pub item : List ℕ → ℕ → ℕ
item a i = get_or a i 0

-- if(delta > 0) ecigar = strcat(ecigar, inttostr(delta), '=')
unfoldable pub with_match : (ecigar : List ℕ) (delta : ℕ) → List ℕ
with_match ecigar delta = cond (ltb 0 delta) (ecigar ++ inttostr delta ++ equals_sign ∷ []) ecigar

-- Class_N and Class_M, from while(i < mmNumber) on: the table writes them twice, with 'N' and with mms[i] for the character
unfoldable pub mismatch_loop : (character : ℕ → ℕ) (len mmNumber : ℕ) (mmOffsets : List ℕ) (left i previous_offset : ℕ) (ecigar : List ℕ) → List ℕ
mismatch_loop character len mmNumber mmOffsets zero i previous_offset ecigar = with_match ecigar (len - previous_offset)
mismatch_loop character len mmNumber mmOffsets (suc left) i previous_offset ecigar =
    cond (ltb i mmNumber)
    (let delta : ℕ = item mmOffsets i - previous_offset in
    cond (eqb delta 0)
    (mismatch_loop character len mmNumber mmOffsets left (i + 1) (item mmOffsets i + 1) (ecigar ++ character i ∷ []))
    (mismatch_loop character len mmNumber mmOffsets left (i + 1) (item mmOffsets i + 1) (ecigar ++ inttostr delta ++ equals_sign ∷ [] ++ character i ∷ [])))
    (with_match ecigar (len - previous_offset))

-- where an inner loop of Class_I stands
pub record IndelRun : Type 0 where
  pub i : ℕ
  pub previous_offset : ℕ
  pub count : ℕ

-- Insertion: while(i < mmNumber && mmTypes[i] == 1 && mmOffsets[i] - previousOffset == 0) { previousOffset = mmOffsets[i] + 1; count++, i++ }
unfoldable pub insertion_loop : (mmNumber : ℕ) (mmOffsets mmTypes : List ℕ) (left : ℕ) → IndelRun → IndelRun
insertion_loop mmNumber mmOffsets mmTypes zero r = r
insertion_loop mmNumber mmOffsets mmTypes (suc left) r =
    cond (ltb r.i mmNumber && eqb (item mmTypes r.i) 1 && eqb (item mmOffsets r.i - r.previous_offset) 0)
    (insertion_loop mmNumber mmOffsets mmTypes left (record { i = r.i + 1; previous_offset = item mmOffsets r.i + 1; count = r.count + 1 }))
    r

-- Deletion: while(i < mmNumber && mmTypes[i] == 2 && mmOffsets[i] - previousOffset == 0) { previousOffset = mmOffsets[i]; count++, i++ }
unfoldable pub deletion_loop : (mmNumber : ℕ) (mmOffsets mmTypes : List ℕ) (left : ℕ) → IndelRun → IndelRun
deletion_loop mmNumber mmOffsets mmTypes zero r = r
deletion_loop mmNumber mmOffsets mmTypes (suc left) r =
    cond (ltb r.i mmNumber && eqb (item mmTypes r.i) 2 && eqb (item mmOffsets r.i - r.previous_offset) 0)
    (deletion_loop mmNumber mmOffsets mmTypes left (record { i = r.i + 1; previous_offset = item mmOffsets r.i; count = r.count + 1 }))
    r

-- behind an inner loop: ecigar = strcat(ecigar, inttostr(count)), ecigar = strcat(ecigar, sign), and the outer loop again
abbrev pub after_run : (again : ℕ → ℕ → List ℕ → List ℕ) (sign : ℕ) (ecigar : List ℕ) → IndelRun → List ℕ
after_run again sign ecigar run = again run.i run.previous_offset (ecigar ++ (inttostr run.count ++ sign ∷ []))

-- Class_I and Class_HM, from while(i < mmNumber) on. A type that the table does not have would never let its loop end
unfoldable pub indel_loop : (len mmNumber : ℕ) (mmOffsets mms mmTypes : List ℕ) (left i previous_offset : ℕ) (ecigar : List ℕ) → List ℕ
indel_loop len mmNumber mmOffsets mms mmTypes zero i previous_offset ecigar = with_match ecigar (len - previous_offset)
indel_loop len mmNumber mmOffsets mms mmTypes (suc left) i previous_offset ecigar =
    let again : ℕ → ℕ → List ℕ → List ℕ = indel_loop len mmNumber mmOffsets mms mmTypes left in
    let matched : List ℕ = with_match ecigar (item mmOffsets i - previous_offset) in
    let fresh : IndelRun = record { i = i; previous_offset = item mmOffsets i; count = 0 } in
    cond (ltb i mmNumber)
    (cond (eqb (item mmTypes i) 0) (again (i + 1) (item mmOffsets i + 1) (matched ++ item mms i ∷ []))
    (cond (eqb (item mmTypes i) 1) (after_run again plus_sign matched (insertion_loop mmNumber mmOffsets mmTypes mmNumber fresh))
    (cond (eqb (item mmTypes i) 2) (after_run again minus_sign matched (deletion_loop mmNumber mmOffsets mmTypes mmNumber fresh))
    (again i (item mmOffsets i) matched))))
    (with_match ecigar (len - previous_offset))

-- decodedEcigar
unfoldable pub decode_ecigar_mismatches : (classId len mmNumber : ℕ) (mmOffsets mms mmTypes : List ℕ) → List ℕ
decode_ecigar_mismatches classId len mmNumber mmOffsets mms mmTypes =
    cond (eqb classId class_p) (inttostr len ++ equals_sign ∷ [])
    (cond (eqb classId class_n) (mismatch_loop (λ i. letter_n) len mmNumber mmOffsets mmNumber 0 0 [])
    (cond (eqb classId class_m) (mismatch_loop (λ i. item mms i) len mmNumber mmOffsets mmNumber 0 0 [])
    (cond (eqb classId class_i || eqb classId class_hm) (indel_loop len mmNumber mmOffsets mms mmTypes mmNumber 0 0 [])
    [])))
