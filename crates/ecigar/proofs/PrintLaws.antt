-- The laws of printed operations: how long a count and its sign are, and pieces printed one behind the other.
-- Assumes nothing.
use mathlib.Core.Path.{◌≡◌, refl}
use mathlib.Core.List.{List, [], ◌∷◌, ◌++◌, append-nil, append_assoc}
use Prim.Native.Nat.{ℕ, ◌+◌}
use lib.ListN.{length, length-append}
use Rattle.writing.specs.Decimal.{decimal}
use Rattle.ecigar.specs.Table90.{Operation, counted, print, print_all}

-- ---- a count and its sign

pub length_counted : (n sign : ℕ) → length (counted n sign) ≡ length (decimal n) + 1
length_counted n sign = rw length-append

-- ---- operations, one printed behind the other

pub printed_append : (xs ys : List Operation) → print_all (xs ++ ys) ≡ print_all xs ++ print_all ys
unfolding print_all
printed_append [] ys = refl
printed_append (x ∷ xs) ys = rw (printed_append xs ys, append_assoc)

pub printed_one : (o : Operation) → print_all (o ∷ []) ≡ print o
unfolding print_all
printed_one o = append-nil (print o)

pub length_printed : (xs ys : List Operation) → length (print_all (xs ++ ys)) ≡ length (print_all xs) + length (print_all ys)
length_printed xs ys = rw (printed_append xs ys, length-append)
