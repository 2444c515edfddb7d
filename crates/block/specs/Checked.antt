-- The fields of a block (document 01, Lines: blocks), each refused when it is complete: 2 where the frame ends before that.
-- Assumes nothing.
use Rattle.std.specs.Prelude.{ℕ, zero, suc, ◌+◌, cond, List, ltb, eqb, Ok, Err}
use Rattle.refusal.specs.declared.Refusal.{Refusal}
use Rattle.refusal.specs.declared.Refusal.TheVariants.{LengthOut, FieldOut}
use Rattle.frame.specs.Field.{Field, with_field}
use Rattle.limits.specs.Limits.{most_pieces}
use Rattle.unit.specs.Unit.{class_i}
use Rattle.edits.specs.Lengths.{most_read, most_edits}

-- a value, and the place behind its field
abbrev pub value_before : (v next : ℕ) → Field
value_before v next = Ok (v, record { at = next })

-- the same of a value that may be `least` to `most`, else the refusal
abbrev pub value_within : (least most : ℕ) → Refusal → (v next : ℕ) → Field
value_within least most refusal v next = cond (ltb v least) (Err refusal) (cond (ltb most v) (Err refusal) (value_before v next))

-- read length u16: 1 to 1,000, else 8
abbrev pub length_in : (v next : ℕ) → Field
length_in v next = value_within 1 most_read LengthOut v next

unfoldable pub length_at : (frame : List ℕ) (at : ℕ) → Field
length_at frame at = with_field Err 2 frame at length_in

-- the greatest rcomp: 1, and 2 in I and HM, whose splices may have no direction (Table 94)
abbrev pub most_rcomp : (class : ℕ) → ℕ
most_rcomp class = cond (ltb class class_i) 1 2

-- rcomp, a byte: 0 or 1, in I and HM 2 as well, else 11
abbrev pub rcomp_in : (class v next : ℕ) → Field
rcomp_in class v next = value_within 0 (most_rcomp class) FieldOut v next

unfoldable pub rcomp_at : (class : ℕ) (frame : List ℕ) (at : ℕ) → Field
rcomp_at class frame at = with_field Err 1 frame at (rcomp_in class)

-- numberOfSplicedSeg, a byte: 1 to 16, else 8
abbrev pub number_in : (v next : ℕ) → Field
number_in v next = value_within 1 most_pieces LengthOut v next

unfoldable pub number_at : (frame : List ℕ) (at : ℕ) → Field
number_at frame at = with_field Err 1 frame at number_in

-- the lengths of the pieces add up to the read length, else 8
abbrev pub sum_in : (length sum next : ℕ) → Field
sum_in length sum next = cond (eqb sum length) (value_before sum next) (Err LengthOut)

-- splicedSegLength u16 for each of the pieces that are left, behind those that come to `sum`: 8 for a length of 0, and for lengths not adding up to the read length once all are read
unfoldable pub lengths_from : (frame : List ℕ) (length sum left at : ℕ) → Field
lengths_from frame length sum zero at = sum_in length sum at
lengths_from frame length sum (suc k) at =
    with_field Err 2 frame at (λ v next. cond (ltb v 1) (Err LengthOut) (lengths_from frame length (sum + v) k next))

abbrev pub lengths_at : (frame : List ℕ) (length count at : ℕ) → Field
lengths_at frame length count at = lengths_from frame length 0 count at

-- edit count u16: 0 to 1,000, else 11
abbrev pub count_in : (v next : ℕ) → Field
count_in v next = value_within 0 most_edits FieldOut v next

unfoldable pub count_at : (frame : List ℕ) (at : ℕ) → Field
count_at frame at = with_field Err 2 frame at count_in
