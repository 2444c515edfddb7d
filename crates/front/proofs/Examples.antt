-- Lines and their answers, computed: the unit of document 01's small example, and the order in which two faults are answered.
-- Assumes nothing.
use mathlib.Core.Path.{◌≡◌, refl}
use mathlib.Core.List.{List, [], ◌∷◌, ◌++◌, map}
use Prim.Native.Nat.{ℕ}
use Rattle.std.specs.Prelude.{Ok, Err}
use Rattle.refusal.specs.declared.Refusal.TheVariants.{Malformed, Misframed, UnitOut, CountOut, NoRoom}
use Rattle.frame.specs.Hex.{is_digit, glyph, nib, hex_of, unhex, all_digits}
use Rattle.frame.specs.Line.{line_within, line_of_bytes}
use Rattle.frame.specs.Field.{big_at, field_at}
use Rattle.unit.specs.Unit.{class_m, least_segments}
use Rattle.unit.specs.Pairs.{table_length}
use Rattle.front.specs.UnitLine.{unit_ends, unit_template, unit_class, unit_line}
use Rattle.front.specs.PairLine.{pair_symbols, pair_count, pair_line}
use Rattle.front.specs.ReferenceLine.{added_bases, reference_line}

-- document 01's example: class M, alphabet 0, one template segment, sequence 2, positions 100 to 109, one record
abbrev pub example : List ℕ
example = 1 ∷ 3 ∷ 0 ∷ 1 ∷ 0 ∷ 2 ∷ 0 ∷ 0 ∷ 0 ∷ 100 ∷ 0 ∷ 0 ∷ 0 ∷ 100 ∷ 0 ∷ 0 ∷ 0 ∷ 109 ∷ 0 ∷ 1 ∷ []

pub example_unit : unit_line (line_of_bytes example) ≡ Ok (record { class = class_m; alphabet = 0; segments = 1; sequence = 2; first = 100; start = 100; end = 109; records = 1 })
unfolding is_digit glyph nib hex_of unhex all_digits line_within big_at field_at least_segments unit_ends unit_template unit_class unit_line
example_unit = refl

-- class 9 and then nothing; nothing but the kind; an empty line; class HM with one template segment; bytes left over; another kind; no 0A
pub unit_refusals : map (λ (s : List ℕ). unit_line s)
    (line_of_bytes (1 ∷ 9 ∷ []) ∷ line_of_bytes (1 ∷ []) ∷ line_of_bytes [] ∷ line_of_bytes (1 ∷ 5 ∷ 0 ∷ 1 ∷ []) ∷ line_of_bytes (example ++ 0 ∷ []) ∷ line_of_bytes (2 ∷ 9 ∷ []) ∷ hex_of example ∷ [])
    ≡ Err UnitOut ∷ Err Misframed ∷ Err Misframed ∷ Err UnitOut ∷ Err Misframed ∷ Err Misframed ∷ Err Malformed ∷ []
unfolding is_digit glyph nib hex_of unhex all_digits line_within big_at field_at least_segments unit_ends unit_template unit_class unit_line
unit_refusals = refl

-- subsequence 3: no symbol; one; one byte less than one; another number; a count above the limit and then nothing
pub pair_answers : map (λ (s : List ℕ). pair_line (line_of_bytes s) 3 table_length)
    ((2 ∷ 3 ∷ 0 ∷ 0 ∷ []) ∷ (2 ∷ 3 ∷ 0 ∷ 1 ∷ 0 ∷ 0 ∷ 0 ∷ 7 ∷ []) ∷ (2 ∷ 3 ∷ 0 ∷ 1 ∷ 0 ∷ 0 ∷ 0 ∷ []) ∷ (2 ∷ 4 ∷ 0 ∷ 0 ∷ []) ∷ (2 ∷ 3 ∷ 4 ∷ 1 ∷ []) ∷ [])
    ≡ Ok 0 ∷ Ok 1 ∷ Err Misframed ∷ Err Misframed ∷ Err CountOut ∷ []
unfolding is_digit glyph nib hex_of unhex all_digits line_within big_at field_at pair_symbols pair_count pair_line
pair_answers = refl

-- eight bases into ten places, of which 0, 2, 3 or 11 are said to hold one already
pub reference_answers : map (λ (used : ℕ). reference_line (line_of_bytes (7 ∷ 0 ∷ 1 ∷ 2 ∷ 3 ∷ 0 ∷ 1 ∷ 2 ∷ 3 ∷ [])) used 10) (0 ∷ 2 ∷ 3 ∷ 11 ∷ []) ≡ Ok 8 ∷ Ok 10 ∷ Err NoRoom ∷ Err Misframed ∷ []
unfolding is_digit glyph nib hex_of unhex all_digits line_within big_at field_at added_bases reference_line
reference_answers = refl
