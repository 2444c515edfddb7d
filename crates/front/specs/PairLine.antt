-- A pair line (document 01, Lines: 02 pair): kind, subsequence number, count u16, then that many u32; each field is checked when it is complete, left-over bytes last.
-- Assumes nothing.
use Rattle.std.specs.Prelude.{cond, List, [], ◌∷◌, ℕ, zero, suc, ◌+◌, ◌*◌, eqb, ltb, length, Ok, Err}
use Rattle.refusal.specs.Answers.{OrRefused}
use Rattle.refusal.specs.declared.Refusal.TheVariants.{Misframed, CountOut}
use Rattle.frame.specs.Hex.{unhex}
use Rattle.frame.specs.Line.{line_of}
use Rattle.frame.specs.Field.{big_at, with_field}
use Rattle.unit.specs.Kinds.{kind_pair}
use Rattle.unit.specs.Pairs.{subsequences, most_symbols, symbol_place, table_length}
use Rattle.frame.specs.Steps.{unless, after_line, stored_at}

-- the bytes of a symbol
abbrev pub symbol_bytes : ℕ
symbol_bytes = 4

-- the bytes before the symbols: kind, subsequence number and count
abbrev pub pair_head : ℕ
pair_head = 4

-- another kind or subsequence number, too few symbols, or bytes left over
abbrev pub pair_misframed : OrRefused ℕ
pair_misframed = Err Misframed

-- the count is within the limit (4); so many symbols follow it, and nothing behind them (2)
unfoldable pub pair_symbols : (frame : List ℕ) (count at : ℕ) → OrRefused ℕ
pair_symbols frame count at =
    cond (ltb most_symbols count) (Err CountOut)
    (unless (eqb (at + symbol_bytes * count) (length frame)) pair_misframed
    (Ok count))

-- hexadecimal, kind 02, the subsequence's own number, then the count
unfoldable pub pair_count : (line : List ℕ) (number : ℕ) → OrRefused ℕ
pair_count line number =
    after_line Err (line_of line)
    (with_field Err 1 (unhex line) 0 (λ kind at.
    unless (eqb kind kind_pair) pair_misframed
    (with_field Err 1 (unhex line) at (λ sub at2.
    unless (eqb sub number) pair_misframed
    (with_field Err 2 (unhex line) at2 (λ count at3.
    pair_symbols (unhex line) count at3))))))

-- the line of subsequence `number`, for a table of so many places: a table of another shape is refused by 4, a number that is no subsequence by 2, before the line is looked at
unfoldable pub pair_line : (line : List ℕ) (number places : ℕ) → OrRefused ℕ
pair_line line number places =
    unless (eqb places table_length) (Err CountOut)
    (unless (ltb number subsequences) pair_misframed
    (pair_count line number))

-- n symbols, from byte `at` of a frame on
unfoldable pub symbol_list : ℕ → List ℕ → ℕ → List ℕ
symbol_list zero s at = []
symbol_list (suc n) s at = big_at symbol_bytes s at ∷ symbol_list n s (at + symbol_bytes)

-- the table after an answer: the symbols stand at the front of their subsequence's row, and nothing else differs
unfoldable pub table_by : OrRefused ℕ → List ℕ → ℕ → List ℕ → List ℕ
table_by (Ok n) line number t = stored_at t (symbol_place number 0) (symbol_list n (unhex line) pair_head)
table_by (Err refusal) line number t = t

-- the table after the line of subsequence `number`
unfoldable pub table_after : List ℕ → ℕ → List ℕ → List ℕ
table_after line number t = table_by (pair_line line number (length t)) line number t
