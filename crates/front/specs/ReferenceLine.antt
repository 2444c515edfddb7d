-- A reference line (document 01, Lines: 07 reference): kind, then 1 to 1,000 symbol indexes; lines are joined. Any byte is accepted as an index: it is looked at where it stands under a match.
-- Assumes nothing.
use Rattle.std.specs.Prelude.{cond, List, ℕ, ◌+◌, eqb, ltb, length, drop, Ok, Err}
use Rattle.refusal.specs.Answers.{OrRefused}
use Rattle.refusal.specs.declared.Refusal.TheVariants.{Misframed, NoRoom}
use Rattle.frame.specs.Hex.{unhex}
use Rattle.frame.specs.Line.{line_of}
use Rattle.frame.specs.Field.{with_field}
use Rattle.unit.specs.Kinds.{kind_reference}
use Rattle.unit.specs.Unit.{most_reference}
use Rattle.frame.specs.Steps.{unless, after_line, stored_at}

-- the most symbol indexes of a reference line
abbrev pub most_line_bases : ℕ
most_line_bases = 1000

-- the symbol indexes of a frame: all behind its kind
abbrev pub bases_of : List ℕ → List ℕ
bases_of s = drop 1 s

-- n bases more, where `used` are there and `places` are lent: the counts (2), and last the room for what the limit allows (17)
unfoldable pub added_bases : (n used places : ℕ) → OrRefused ℕ
added_bases n used places =
    cond (ltb n 1) (Err Misframed)
    (cond (ltb most_line_bases n) (Err Misframed)
    (cond (ltb places used) (Err Misframed)
    (cond (ltb most_reference (used + n)) (Err Misframed)
    (cond (ltb places (used + n)) (Err NoRoom)
    (Ok (used + n))))))

-- hexadecimal, kind 07, then the symbol indexes
unfoldable pub reference_line : (line : List ℕ) (used places : ℕ) → OrRefused ℕ
reference_line line used places =
    after_line Err (line_of line)
    (with_field Err 1 (unhex line) 0 (λ kind at.
    unless (eqb kind kind_reference) (Err Misframed)
    (added_bases (length (bases_of (unhex line))) used places)))

-- the reference after an answer: the indexes stand behind those that were there, and nothing else differs
unfoldable pub reference_by : OrRefused ℕ → List ℕ → ℕ → List ℕ → List ℕ
reference_by (Ok n) line used t = stored_at t used (bases_of (unhex line))
reference_by (Err refusal) line used t = t

-- the reference after a line
unfoldable pub reference_after : List ℕ → ℕ → List ℕ → List ℕ
reference_after line used t = reference_by (reference_line line used (length t)) line used t
