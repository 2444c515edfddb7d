-- The laws of the unit line: its bytes, what an accepted line is, and that a unit's line is read back as the unit.
-- Assumes nothing.
use mathlib.Core.Path.{◌≡◌, sym, ◌∙◌}
use mathlib.Core.List.{List, [], ◌++◌, append_assoc, append-nil}
use Prim.Native.Nat.{ℕ, ◌^◌, ◌<◌, ◌≤◌}
use native.Mathlib.Omega.{arith}
use borrow.Author.Tests.{le-ltb}
use lib.Dec.{lit<}
use lib.ListN.{length, length-append, drop_of_length-le}
use Rattle.std.specs.Prelude.{Ok, Err}
use Rattle.refusal.specs.Answers.{OrRefused, no_refusal}
use Rattle.refusal.specs.declared.Refusal.{Refusal}
use Rattle.frame.specs.Line.{line_digits, line_of, line_of_bytes}
use Rattle.frame.specs.Field.{big_at}
use Rattle.frame.specs.Hex.{unhex, be, Bytes}
use Rattle.frame.proofs.HexLaws.{byte_lt, length_be, bytes_be, bytes_append}
use Rattle.frame.proofs.FieldLaws.{big_at_lt}
use Rattle.frame.proofs.LineLaws.{unhex_line, line_is_frame, frame_is_line}
use Rattle.unit.specs.Kinds.{kind_unit}
use Rattle.unit.specs.Unit.{class_p, class_u, last_alphabet, most_segments, most_records, least_segments, unit_refusal}
use Rattle.unit.proofs.ValidLaws.{valid_is, valid_unit}
use Rattle.front.specs.UnitLine.{unit_line_bytes, unit_bytes, unit_ends, unit_template, unit_class, unit_line}
use Rattle.unit.specs.declared.Unit.{Unit}
use Rattle.frame.proofs.AnswerLaws.{field_cut, field_read}
use Rattle.frame.proofs.StepLaws.{past_line, past_field, past_refusal, past_match_lem}

-- ---- the bytes

pub length_unit : (u : Unit) → length (unit_bytes u) ≡ unit_line_bytes
unfolding unit_bytes
length_unit u = simp (length-append, length_be)

pub bytes_unit : (u : Unit) → Bytes (unit_bytes u)
unfolding unit_bytes
bytes_unit u =
    simp append_assoc
    (bytes_append (be 1 kind_unit) _ (bytes_be 1 kind_unit)
    (bytes_append (be 1 u.class) _ (bytes_be 1 u.class)
    (bytes_append (be 1 u.alphabet) _ (bytes_be 1 u.alphabet)
    (bytes_append (be 1 u.segments) _ (bytes_be 1 u.segments)
    (bytes_append (be 2 u.sequence) _ (bytes_be 2 u.sequence)
    (bytes_append (be 4 u.first) _ (bytes_be 4 u.first)
    (bytes_append (be 4 u.start) _ (bytes_be 4 u.start)
    (bytes_append (be 4 u.end) (be 2 u.records) (bytes_be 4 u.end)
    (bytes_be 2 u.records)))))))))

-- ---- what an accepted line is

never : {u : Unit} (n : Refusal) → ◌≡◌ {A = OrRefused Unit} (Err n) (Ok u) → ⊥
never n e = let z : ◌≡◌ {A = ℕ} 0 1 = cc in omega arith

-- the fields of a frame, in document 01's order
abbrev pub unit_at : List ℕ → Unit
unit_at s = record { class = big_at 1 s 1; alphabet = big_at 1 s 2; segments = big_at 1 s 3; sequence = big_at 2 s 4; first = big_at 4 s 6; start = big_at 4 s 10; end = big_at 4 s 14; records = big_at 2 s 18 }

-- the frame has the unit line's kind and length, and its fields are the unit's, each within its values
pub record IsUnit (line : List ℕ) (u : Unit) : Type 0 where
  pub whole : line ≡ line_of_bytes (unhex line)
  pub kind : big_at 1 (unhex line) 0 ≡ kind_unit
  pub long : length (unhex line) ≡ unit_line_bytes
  pub fields : u ≡ unit_at (unhex line)
  pub valid : unit_refusal u ≡ no_refusal

-- the last fields
record IsEnds (s : List ℕ) (class alphabet segments sequence first : ℕ) (u : Unit) : Type 0 where
  fields : u ≡ record { class = class; alphabet = alphabet; segments = segments; sequence = sequence; first = first; start = big_at 4 s 10; end = big_at 4 s 14; records = big_at 2 s 18 }
  order : big_at 4 s 10 ≤ big_at 4 s 14
  few : big_at 2 s 18 ≤ most_records
  long : length s ≡ unit_line_bytes

ends_read : (s : List ℕ) (class alphabet segments sequence first : ℕ) (u : Unit) → unit_ends s 10 class alphabet segments sequence first ≡ Ok u → IsEnds s class alphabet segments sequence first u
unfolding unit_ends
ends_read s class alphabet segments sequence first u e =
    let a = past_field {X = OrRefused Unit} Err never 4 s 10 _ e in
    let b = past_field {X = OrRefused Unit} Err never 4 s 14 _ a.rest in
    let d = past_refusal _ (never _) (big_at 4 s 14) (big_at 4 s 10) _ b.rest in
    let f = past_field {X = OrRefused Unit} Err never 2 s 18 _ d.1 in
    let g = past_refusal _ (never _) most_records (big_at 2 s 18) _ f.rest in
    let h = past_refusal _ (never _) 20 (length s) _ g.1 in
    let k : ◌≡◌ {A = OrRefused Unit} (Ok (record { class = class; alphabet = alphabet; segments = segments; sequence = sequence; first = first; start = big_at 4 s 10; end = big_at 4 s 14; records = big_at 2 s 18 })) (Ok u) = h.1 in
    record { fields = cc; order = d.0; few = g.0; long = omega (arith, f.fits, h.0) }

pub unit_accepted : (line : List ℕ) (u : Unit) → Ok u ≡ unit_line line → IsUnit line u
unfolding unit_line unit_class unit_template
unit_accepted line u e =
    let s = unhex line in
    let l = past_line {X = OrRefused Unit} Err never (line_of line) _ (sym e) in
    let a = past_field {X = OrRefused Unit} Err never 1 s 0 _ l.rest in
    let k = past_match_lem _ (never _) (big_at 1 s 0) kind_unit _ a.rest in
    let b = past_field {X = OrRefused Unit} Err never 1 s 1 _ k.1 in
    let d = past_refusal _ (never _) (big_at 1 s 1) class_p _ b.rest in
    let f = past_refusal _ (never _) class_u (big_at 1 s 1) _ d.1 in
    let g = past_field {X = OrRefused Unit} Err never 1 s 2 _ f.1 in
    let h = past_refusal _ (never _) last_alphabet (big_at 1 s 2) _ g.rest in
    let i = past_field {X = OrRefused Unit} Err never 1 s 3 _ h.1 in
    let j = past_refusal _ (never _) most_segments (big_at 1 s 3) _ i.rest in
    let m = past_refusal _ (never _) (big_at 1 s 3) (least_segments (big_at 1 s 1)) _ j.1 in
    let n = past_field {X = OrRefused Unit} Err never 2 s 4 _ m.1 in
    let o = past_field {X = OrRefused Unit} Err never 4 s 6 _ n.rest in
    let w = ends_read s (big_at 1 s 1) (big_at 1 s 2) (big_at 1 s 3) (big_at 2 s 4) (big_at 4 s 6) u o.rest in
    record {
      whole = (frame_is_line line_digits line l.bytes l.frame).line;
      kind = k.0;
      long = w.long;
      fields = w.fields;
      valid = rw w.fields (valid_unit (unit_at s) d.0 f.0 h.0 j.0 m.0 w.order w.few (omega (arith, big_at_lt 2 s 4 (byte_lt line))));
    }

-- an accepted unit is within its values
pub unit_valid : (line : List ℕ) (u : Unit) → Ok u ≡ unit_line line → unit_refusal u ≡ no_refusal
unit_valid line u e = (unit_accepted line u e).valid

-- and its numbers fit their fields; the others are within their values
pub record UnitFits (u : Unit) : Type 0 where
  pub sequence : u.sequence < 256 ^ 2
  pub first : u.first < 256 ^ 4
  pub start : u.start < 256 ^ 4
  pub end : u.end < 256 ^ 4

pub unit_fits : (line : List ℕ) (u : Unit) → Ok u ≡ unit_line line → UnitFits u
unit_fits line u e =
    let s = unhex line in
    rw (unit_accepted line u e).fields
    record {
      sequence = big_at_lt 2 s 4 (byte_lt line);
      first = big_at_lt 4 s 6 (byte_lt line);
      start = big_at_lt 4 s 10 (byte_lt line);
      end = big_at_lt 4 s 14 (byte_lt line);
    }

-- ---- there and back

-- the bytes of an accepted line are the unit's
pub unit_bytes_lem : (line : List ℕ) (u : Unit) → Ok u ≡ unit_line line → unhex line ≡ unit_bytes u
unfolding unit_bytes
unit_bytes_lem line u e =
    let w = unit_accepted line u e in
    let s = unhex line in
    let n : length s ≡ 20 = w.long in
    rw w.fields
    simp append_assoc
    (field_cut 1 line 0 (omega arith)
    ∙ rw (
      field_cut 1 line 1 (omega arith),
      field_cut 1 line 2 (omega arith),
      field_cut 1 line 3 (omega arith),
      field_cut 2 line 4 (omega arith),
      field_cut 4 line 6 (omega arith),
      field_cut 4 line 10 (omega arith),
      field_cut 4 line 14 (omega arith),
      field_cut 2 line 18 (omega arith),
      drop_of_length-le s {i = 20} (omega arith),
      append-nil,
      w.kind,
    ))

-- field after field
nested : (u : Unit) → unit_bytes u ≡ be 1 kind_unit ++ (be 1 u.class ++ (be 1 u.alphabet ++ (be 1 u.segments ++ (be 2 u.sequence
    ++ (be 4 u.first ++ (be 4 u.start ++ (be 4 u.end ++ (be 2 u.records ++ []))))))))
unfolding unit_bytes
nested u = simp (append_assoc, append-nil)

-- the line of a unit within its values is read back as the unit
pub unit_back : (u : Unit) → unit_refusal u ≡ no_refusal → UnitFits u → unit_line (line_of_bytes (unit_bytes u)) ≡ Ok u
unfolding unit_line unit_class unit_template unit_ends
unit_back u valid fits =
    let bs = unit_bytes u in
    let v = valid_is u valid in
    let n = length_unit u in
    let a = field_read 1 kind_unit bs 0 _ (omega arith) (lit< tt) (nested u) in
    let b = field_read 1 u.class bs 1 _ a.within (omega arith) a.next in
    let d = field_read 1 u.alphabet bs 2 _ b.within (omega arith) b.next in
    let e = field_read 1 u.segments bs 3 _ d.within (omega arith) d.next in
    let f = field_read 2 u.sequence bs 4 _ e.within fits.sequence e.next in
    let g = field_read 4 u.first bs 6 _ f.within fits.first f.next in
    let h = field_read 4 u.start bs 10 _ g.within fits.start g.next in
    let i = field_read 4 u.end bs 14 _ h.within fits.end h.next in
    let j = field_read 2 u.records bs 18 _ i.within (omega arith) i.next in
    simp (
      line_is_frame line_digits bs (bytes_unit u) (omega arith),
      unhex_line bs (bytes_unit u),
      a.field,
      b.field,
      le-ltb _ _ v.class_least,
      le-ltb _ _ v.class_most,
      d.field,
      le-ltb _ _ v.alphabet,
      e.field,
      le-ltb _ _ v.segments_most,
      le-ltb _ _ v.segments_least,
      f.field,
      g.field,
      h.field,
      i.field,
      le-ltb _ _ v.order,
      j.field,
      le-ltb _ _ v.records,
      n,
    )
