-- For the code, not for the reader.
-- What the private functions under a match promise, and how far a pointer can come.
-- Assumes nothing.
use Rattle.std.specs.Prelude.{ℕ, zero, suc, ◌+◌, ◌-◌, cond, List, ltb, leb, get_or, ⊤, Err}
use Rattle.refusal.specs.Answers.{OrRefused, no_refusal}
use Rattle.refusal.specs.declared.Refusal.TheVariants.{SymbolOut}
use Rattle.alphabet.specs.Table35.{size_of}

-- ---- Figure 5: a run of positions is padding, lent bases and padding

-- the smaller of two numbers
unfoldable pub least : (a b : ℕ) → ℕ
least a b = cond (ltb a b) a b

-- how many lent bases stand before a position
abbrev pub lent_before : (lent first position : ℕ) → ℕ
lent_before lent first position = least (position - first) lent

-- the higher of two numbers
unfoldable pub higher : (a b : ℕ) → ℕ
higher a b = cond (ltb a b) b a

-- the highest of a number and of n symbols, from a place on
unfoldable pub highest : (most : ℕ) (symbols : List ℕ) (at n : ℕ) → ℕ
highest most symbols at zero = most
highest most symbols at (suc n) = highest (higher most (get_or symbols at 0)) symbols (at + 1) n

-- refusal 10 of n symbols, from a place on
unfoldable pub symbols_refusal : (alphabet : ℕ) (symbols : List ℕ) (at n : ℕ) → OrRefused ⊤
symbols_refusal alphabet symbols at zero = no_refusal
symbols_refusal alphabet symbols at (suc n) =
    cond (leb (size_of alphabet) (get_or symbols at 0)) (Err SymbolOut) (symbols_refusal alphabet symbols (at + 1) n)

-- no pointer R comes so far: it starts at 32 bits, and at most 2 ^ 32 edits move it by at most 2 ^ 16 each
abbrev pub farthest : ℕ
farthest = 1000000000000000
