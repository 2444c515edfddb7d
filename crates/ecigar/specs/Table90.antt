-- Table 90: the operations of an E-CIGAR string, how each is written, and how far it moves pointer r and pointer R.
-- Assumes nothing.
use Rattle.std.specs.Prelude.{ℕ, ◌+◌, ◌≤◌, List, [], ◌∷◌, ◌++◌}
use Prim.Native.Char.{code}
use Rattle.writing.specs.Decimal.{decimal}

-- the rows of the table: a match, a substitution by a letter, an insertion, a deletion, a soft clip, a hard clip, and the splices: undirected, forward, reverse
pub data Operation : Type 0 where
  matched : ℕ → Operation
  substituted : ℕ → Operation
  inserted : ℕ → Operation
  deleted : ℕ → Operation
  soft_clipped : ℕ → Operation
  hard_clipped : ℕ → Operation
  spliced_undirected : ℕ → Operation
  spliced_forward : ℕ → Operation
  spliced_reverse : ℕ → Operation

-- the signs of the table
abbrev pub equals_sign : ℕ
equals_sign = code "="

abbrev pub plus_sign : ℕ
plus_sign = code "+"

abbrev pub minus_sign : ℕ
minus_sign = code "-"

abbrev pub round_open : ℕ
round_open = code "("

abbrev pub round_close : ℕ
round_close = code ")"

abbrev pub square_open : ℕ
square_open = code "["

abbrev pub square_close : ℕ
square_close = code "]"

abbrev pub star_sign : ℕ
star_sign = code "*"

abbrev pub slash_sign : ℕ
slash_sign = code "/"

abbrev pub percent_sign : ℕ
percent_sign = code "%"

-- a count in base 10, and the sign behind it
abbrev pub counted : (n sign : ℕ) → List ℕ
counted n sign = decimal n ++ sign ∷ []

-- the column "E-CIGAR representation": n= b n+ n- (n) [n] n* n/ n%
abbrev pub print : Operation → List ℕ
print (matched n) = counted n equals_sign
print (substituted b) = b ∷ []
print (inserted n) = counted n plus_sign
print (deleted n) = counted n minus_sign
print (soft_clipped n) = round_open ∷ counted n round_close
print (hard_clipped n) = square_open ∷ counted n square_close
print (spliced_undirected n) = counted n star_sign
print (spliced_forward n) = counted n slash_sign
print (spliced_reverse n) = counted n percent_sign

-- operations, one written behind the other
unfoldable pub print_all : List Operation → List ℕ
print_all [] = []
print_all (o ∷ os) = print o ++ print_all os

-- the column "Operation": how far it moves pointer-to-read r
abbrev pub moves_read : Operation → ℕ
moves_read (matched n) = n
moves_read (substituted b) = 1
moves_read (inserted n) = n
moves_read (deleted n) = 0
moves_read (soft_clipped n) = n
moves_read (hard_clipped n) = 0
moves_read (spliced_undirected n) = 0
moves_read (spliced_forward n) = 0
moves_read (spliced_reverse n) = 0

-- the column "Operation": how far it moves pointer-to-reference R
abbrev pub moves_reference : Operation → ℕ
moves_reference (matched n) = n
moves_reference (substituted b) = 1
moves_reference (inserted n) = 0
moves_reference (deleted n) = n
moves_reference (soft_clipped n) = 0
moves_reference (hard_clipped n) = 0
moves_reference (spliced_undirected n) = n
moves_reference (spliced_forward n) = n
moves_reference (spliced_reverse n) = n

-- what operations move a pointer by, together
unfoldable pub total : (moves : Operation → ℕ) → List Operation → ℕ
total moves [] = 0
total moves (o ∷ os) = moves o + total moves os

-- a count is never 0 (document 01, Building a read)
abbrev pub Positive : Operation → Type 0
Positive (matched n) = 1 ≤ n
Positive (substituted b) = Unit
Positive (inserted n) = 1 ≤ n
Positive (deleted n) = 1 ≤ n
Positive (soft_clipped n) = 1 ≤ n
Positive (hard_clipped n) = 1 ≤ n
Positive (spliced_undirected n) = 1 ≤ n
Positive (spliced_forward n) = 1 ≤ n
Positive (spliced_reverse n) = 1 ≤ n

unfoldable pub AllPositive : List Operation → Type 0
AllPositive [] = Unit
AllPositive (o ∷ os) = Positive o × AllPositive os
