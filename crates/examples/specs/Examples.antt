-- Document 01's small examples 1 to 12, as one table under one statement, `Examples`; proofs/Examples shows it. Each row is a record call, and what the document prints of its answer.
-- In class I the frames have the number of pieces, 1, and its length behind rcomp (document 02, Wish 1).
-- Assumes nothing.
use Rattle.std.specs.Prelude.{ℕ, zero, suc, ◌+◌, ◌-◌, ◌≡◌, List, [], ◌∷◌, ◌++◌, map, replicate, take, drop, Ok, Err}
use Prim.Native.String.{String, len, char_at}
use Prim.Native.Char.{code}
use Rattle.refusal.specs.Answers.{OrRefused}
use Rattle.refusal.specs.declared.Refusal.TheVariants.{OffsetOut}
use Rattle.limits.specs.Limits.{segment_fields}
use Rattle.frame.specs.Line.{line_end}
use Rattle.unit.specs.Unit.{class_p, class_n, class_m, class_i, class_u}
use Rattle.state.specs.State.{fresh_state}
use Rattle.unit.specs.Pairs.{subsequences, most_symbols, table_length}
use Rattle.state.specs.Listed.{Step, refused, accepted, index_place, head_bytes, link_fields, least_listed}
use Rattle.unit.specs.declared.Unit.{Unit}
use Rattle.frame.specs.Hex.{unhex}
use Rattle.record.specs.Record.{step_of}

-- ---- text

-- the codes of k characters from index i on, and of a whole text
abbrev codes : String → ℕ → ℕ → List ℕ
codes s zero i = []
codes s (suc k) i = code (char_at s i) ∷ codes s k (i + 1)

abbrev text : String → List ℕ
text s = codes s (len s) 0

-- a line: its digits, and 0A
abbrev line : String → List ℕ
line s = text s ++ (line_end ∷ [])

-- ---- the calls

-- a unit of one record on sequence 2, from 100 to 1,109, the first lent base at 100: class, alphabet, template segments
abbrev unit : ℕ → ℕ → ℕ → Unit
unit class alphabet segments = record { class = class; alphabet = alphabet; segments = segments; sequence = 2; first = 100; start = 100; end = 1109; records = 1 }

-- the unit that document 01 prints ends at 109
abbrev printed_unit : Unit
printed_unit = record { class = class_m; alphabet = 0; segments = 1; sequence = 2; first = 100; start = 100; end = 109; records = 1 }

-- ACGTACGT
abbrev reference : List ℕ
reference = 0 ∷ 1 ∷ 2 ∷ 3 ∷ 0 ∷ 1 ∷ 2 ∷ 3 ∷ []

-- subsequence 0 has the code 0, subsequence 1 the value 5, the others nothing
abbrev symbols : List ℕ
symbols = replicate most_symbols 0 ++ (5 ∷ []) ++ replicate (table_length - most_symbols - 1) 0

abbrev counts : List ℕ
counts = 1 ∷ 1 ∷ replicate (subsequences - 2) 0

-- the first record of a unit
abbrev call : Unit → String → Step
call u digits = step_of u reference symbols counts fresh_state (line digits)

-- ---- what is looked at in an answer

-- a refusal, or something of the 04 line
abbrev outcome : (List ℕ → List ℕ) → Step → OrRefused (List ℕ)
outcome look (refused refusal) = Err refusal
outcome look (accepted frame next) = Ok (look frame)

-- the E-CIGAR of the only segment, behind its position, rcomp, read length, so many bases and the E-CIGAR's length
abbrev ecigar : ℕ → Step → OrRefused (List ℕ)
ecigar bases s = outcome (drop (least_listed + segment_fields + bases)) s

-- the indexes of subsequences 0 and 1, read1First, splitMate, segments, and the mate's sequence id and position
abbrev link : Step → OrRefused (List ℕ)
link s = outcome (λ frame. take 4 (drop index_place frame) ++ take link_fields (drop head_bytes frame)) s

abbrev whole : Step → OrRefused (List ℕ)
whole s = outcome (λ frame. frame) s

-- ---- the table

pub record Example : Type 0 where
  pub number : ℕ
  pub found : OrRefused (List ℕ)
  pub expected : OrRefused (List ℕ)

abbrev row : ℕ → OrRefused (List ℕ) → OrRefused (List ℕ) → Example
row number found expected = record { number = number; found = found; expected = expected }

abbrev pub table : List Example
table =
    -- P, length 5: 5=
    row 1 (ecigar 5 (call (unit class_p 0 1) "0300000064000500")) (Ok (text "5="))
    -- N, length 4, offsets 0, 3: N2=N
    ∷ row 2 (ecigar 4 (call (unit class_n 0 1) "0300000064000400000200000003")) (Ok (text "N2=N"))
    -- the unit that document 01 prints: GAACCTNN, 1=A2=C3=
    ∷ row 3 (whole (call printed_unit "03000000660008000002000100000401")) (Ok (unhex (text "04000000000000000000000000000000000000010001000000000000000000660000084741414343544e4e0008313d41323d43333d")))
    -- I, length 6, left soft 2, right hard 3, insertions at 1, 2
    ∷ row 4 (ecigar 6 (call (unit class_i 0 1) "03000000640006000100060002000000000003000000020001010000020100")) (Ok (text "(2)1=2+1=[3]"))
    -- I, length 3, deletions at 1, 1
    ∷ row 5 (ecigar 3 (call (unit class_i 0 1) "0300000064000300010003000000000000000000020001020000010200")) (Ok (text "1=2-2="))
    -- I, length 3, deletion then substitution G, both at 1
    ∷ row 6 (ecigar 3 (call (unit class_i 0 1) "0300000064000300010003000000000000000000020001020000010002")) (Ok (text "1=1-G1="))
    -- I, length 4, insertions at 1, 3
    ∷ row 7 (ecigar 4 (call (unit class_i 0 1) "0300000064000400010004000000000000000000020001010000030100")) (Ok (text "1=1+1=1+"))
    -- I, length 3, left soft 1, left hard 2
    ∷ row 8 (ecigar 3 (call (unit class_i 0 1) "03000000640003000100030001000200000000000000")) (Ok (text "(1)2="))
    -- M, alphabet 1, length 3, symbol 15 at 1
    ∷ row 9 (ecigar 3 (call (unit class_m 1 1) "0300000064000300000100010f")) (Ok (text "1=-1="))
    -- code 0, value 5, pos 1000: read1First 0, mate 1002
    ∷ row 10 (link (call (unit class_p 0 2) "03000003e8000100000100")) (Ok (unhex (text "000100010000020002000003ea")))
    -- class U, code 0: two segments, subsequence 1 not touched
    ∷ row 11 (link (call (unit class_u 0 2) "0300000000000100000103")) (Ok (unhex (text "00010000010002000000000000")))
    -- I, substitution at 1, then deletion at 1: 12
    ∷ row 12 (ecigar 3 (call (unit class_i 0 1) "0300000064000300010003000000000000000000020001000200010200")) (Err OffsetOut)
    ∷ []

-- every row: what the definitions answer is what the document prints
abbrev pub Examples : Type 0
Examples = map (λ (x : Example). x.found) table ≡ map (λ (x : Example). x.expected) table
