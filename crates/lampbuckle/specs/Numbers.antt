-- A unit and what is known of a found file, as the numbers that C lends.
-- Assumes nothing.
use Rattle.std.specs.Prelude.{ℕ, Bool, cond, not, List, [], ◌∷◌, eqb, length, get_or, ⊤, Err}
use Rattle.refusal.specs.Answers.{OrRefused}
use Rattle.refusal.specs.declared.Refusal.TheVariants.{UnitOut}
use Rattle.unit.specs.Unit.{unit_refusal}
use Rattle.unit.specs.declared.Unit.{Unit}
use Rattle.kept.specs.declared.keep.Keep.{Keep}

-- how many numbers a unit is
abbrev pub unit_length : ℕ
unit_length = 8

-- the numbers of a unit: the values of the unit line, in its order (document 01, Lines: 01 unit)
abbrev pub unit_numbers : Unit → List ℕ
unit_numbers u =
    u.class ∷ u.alphabet ∷ u.segments ∷ u.sequence ∷ u.first ∷ u.start ∷ u.end ∷ u.records ∷ []

-- the unit that lent numbers are
abbrev pub unit_of : List ℕ → Unit
unit_of numbers =
    record {
      class = get_or numbers 0 0;
      alphabet = get_or numbers 1 0;
      segments = get_or numbers 2 0;
      sequence = get_or numbers 3 0;
      first = get_or numbers 4 0;
      start = get_or numbers 5 0;
      end = get_or numbers 6 0;
      records = get_or numbers 7 0;
    }

-- numbers of another shape, or a value outside its range: 3
unfoldable pub unit_numbers_refusal : List ℕ → OrRefused ⊤
unit_numbers_refusal numbers = cond (eqb (length numbers) unit_length) (unit_refusal (unit_of numbers)) (Err UnitOut)

-- how many numbers say what is known of a found file
abbrev pub keep_length : ℕ
keep_length = 5

-- 1 for true
abbrev pub flag : Bool → ℕ
flag b = cond b 1 0

-- the numbers of what is known of a found file: the length of its first kept line, where its last kept line starts, how many bytes are kept, how many are counted, and whether nothing that follows is kept
abbrev pub keep_numbers : Keep → List ℕ
keep_numbers k = k.first ∷ k.last ∷ k.kept ∷ k.seen ∷ flag k.done ∷ []

-- what lent numbers say; five zeros say that nothing is read
abbrev pub keep_of : List ℕ → Keep
keep_of numbers =
    record {
      first = get_or numbers 0 0;
      last = get_or numbers 1 0;
      kept = get_or numbers 2 0;
      seen = get_or numbers 3 0;
      done = not (eqb (get_or numbers 4 0) 0);
    }
