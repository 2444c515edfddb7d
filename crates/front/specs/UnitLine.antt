-- The unit line (document 01, Lines: 01 unit): fields left to right, each checked when it is complete, left-over bytes last.
-- Assumes nothing.
use Rattle.std.specs.Prelude.{cond, List, ◌++◌, ℕ, eqb, ltb, length, Ok, Err}
use Rattle.refusal.specs.Answers.{OrRefused}
use Rattle.refusal.specs.declared.Refusal.TheVariants.{Misframed, UnitOut}
use Rattle.frame.specs.Hex.{unhex, be}
use Rattle.frame.specs.Line.{line_of}
use Rattle.frame.specs.Field.{with_field}
use Rattle.unit.specs.Kinds.{kind_unit}
use Rattle.frame.specs.Steps.{unless, after_line}
use Rattle.unit.specs.Unit.{class_p, class_u, last_alphabet, most_segments, least_segments, most_records}
use Rattle.unit.specs.declared.Unit.{Unit}

-- the bytes of the unit line
abbrev pub unit_line_bytes : ℕ
unit_line_bytes = 20

-- kind, class, alphabet, template segments, sequence id u16, position of the first lent reference base u32, AU start u32, AU end u32, record count u16
unfoldable pub unit_bytes : Unit → List ℕ
unit_bytes u =
    be 1 kind_unit ++ be 1 u.class ++ be 1 u.alphabet ++ be 1 u.segments ++ be 2 u.sequence
    ++ be 4 u.first ++ be 4 u.start ++ be 4 u.end ++ be 2 u.records

-- another kind, or bytes left over
abbrev pub unit_misframed : OrRefused Unit
unit_misframed = Err Misframed

-- a field outside its values
abbrev pub unit_field_out : OrRefused Unit
unit_field_out = Err UnitOut

-- AU start, AU end (not below start), record count, and nothing behind it
unfoldable pub unit_ends : (frame : List ℕ) (at class alphabet segments sequence first : ℕ) → OrRefused Unit
unit_ends frame at class alphabet segments sequence first =
    with_field Err 4 frame at (λ start at2.
    with_field Err 4 frame at2 (λ end at3.
    cond (ltb end start) unit_field_out
    (with_field Err 2 frame at3 (λ records at4.
    cond (ltb most_records records) unit_field_out
    (cond (ltb at4 (length frame)) unit_misframed
    (Ok (record { class = class; alphabet = alphabet; segments = segments; sequence = sequence; first = first; start = start; end = end; records = records })))))))

-- template segments (1 or 2; HM needs 2), sequence id, position of the first lent reference base
unfoldable pub unit_template : (frame : List ℕ) (at class alphabet : ℕ) → OrRefused Unit
unit_template frame at class alphabet =
    with_field Err 1 frame at (λ segments at2.
    cond (ltb most_segments segments) unit_field_out
    (cond (ltb segments (least_segments class)) unit_field_out
    (with_field Err 2 frame at2 (λ sequence at3.
    with_field Err 4 frame at3 (λ first at4.
    unit_ends frame at4 class alphabet segments sequence first)))))

-- class (1 to 6), alphabet (0 or 1)
unfoldable pub unit_class : (frame : List ℕ) (at : ℕ) → OrRefused Unit
unit_class frame at =
    with_field Err 1 frame at (λ class at2.
    cond (ltb class class_p) unit_field_out
    (cond (ltb class_u class) unit_field_out
    (with_field Err 1 frame at2 (λ alphabet at3.
    cond (ltb last_alphabet alphabet) unit_field_out
    (unit_template frame at3 class alphabet)))))

-- hexadecimal, kind 01, then the fields
unfoldable pub unit_line : List ℕ → OrRefused Unit
unit_line line =
    after_line Err (line_of line)
    (with_field Err 1 (unhex line) 0 (λ kind at.
    unless (eqb kind kind_unit) unit_misframed
    (unit_class (unhex line) at)))
