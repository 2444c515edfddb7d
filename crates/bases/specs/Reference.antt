-- The lent reference (document 01, Lines: 07 reference): its bases from the position `first` on, and N where it is missing (10.2.2).
-- Assumes nothing.
use Rattle.std.specs.Prelude.{ℕ, zero, suc, ◌+◌, ◌-◌, Bool, false, cond, List, [], ◌∷◌, ltb, leb, length, get_or, ⊤, Err}
use Rattle.refusal.specs.Answers.{OrRefused, no_refusal, checked}
use Rattle.refusal.specs.declared.Refusal.TheVariants.{SymbolOut}
use Rattle.alphabet.specs.Table35.{letter_n, size_of, letter_of}

-- a position inside the lent reference: from that of its first base on, as many as there are bases
unfoldable pub is_lent : (reference : List ℕ) (first position : ℕ) → Bool
is_lent reference first position = cond (ltb position first) false (ltb position (first + length reference))

-- the symbol index that is lent for a position
abbrev pub lent_symbol : (reference : List ℕ) (first position : ℕ) → ℕ
lent_symbol reference first position = get_or reference (position - first) 0

-- the letter at a position; what is missing of the reference is padded with N (10.2.2)
unfoldable pub base_at : (alphabet : ℕ) (reference : List ℕ) (first position : ℕ) → ℕ
base_at alphabet reference first position =
    cond (is_lent reference first position) (letter_of alphabet (lent_symbol reference first position)) letter_n

-- refusal 10 at a position: a lent byte outside the alphabet. A padded base is never refused
unfoldable pub base_refusal : (alphabet : ℕ) (reference : List ℕ) (first position : ℕ) → OrRefused ⊤
base_refusal alphabet reference first position =
    cond (is_lent reference first position)
    (cond (leb (size_of alphabet) (lent_symbol reference first position)) (Err SymbolOut) no_refusal)
    no_refusal

-- the bases of n positions, from a position on
unfoldable pub matched_bases : (alphabet : ℕ) (reference : List ℕ) (first position n : ℕ) → List ℕ
matched_bases alphabet reference first position zero = []
matched_bases alphabet reference first position (suc n) =
    base_at alphabet reference first position ∷ matched_bases alphabet reference first (position + 1) n

-- refusal 10 of n positions, from a position on
unfoldable pub match_refusal : (alphabet : ℕ) (reference : List ℕ) (first position n : ℕ) → OrRefused ⊤
match_refusal alphabet reference first position zero = no_refusal
match_refusal alphabet reference first position (suc n) =
    checked (base_refusal alphabet reference first position) (match_refusal alphabet reference first (position + 1) n)
