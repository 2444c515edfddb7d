-- The laws of a splice: its text by the direction, and how long it is.
-- Assumes nothing.
use mathlib.Core.Path.{◌≡◌}
use mathlib.Core.List.{[], ◌∷◌}
use Prim.Native.Nat.{ℕ}
use native.Mathlib.Omega.{arith}
use borrow.Author.Tests.{eq-eqb, ne_eqb}
use lib.Dec.{eqb}
use lib.ListN.{length}
use Rattle.frame.proofs.Tests.{one_of}
use Rattle.ecigar.specs.Table90.{Operation, spliced_undirected, spliced_forward, spliced_reverse, counted, star_sign, slash_sign, percent_sign, print, print_all}
use Rattle.ecigar.specs.Spliced.{splice_of, splice_length}
use Rattle.ecigar.proofs.PrintLaws.{length_counted, printed_one}

-- what holds of a splice of each direction holds of every splice
pub splice_by : (P : Operation → Type 0) (rcomp n : ℕ) → P (spliced_forward n) → P (spliced_reverse n) → P (spliced_undirected n) → P (splice_of rcomp n)
unfolding splice_of
splice_by P rcomp n f r u = one_of P (eqb rcomp 0) _ _ f (one_of P (eqb rcomp 1) _ _ r u)

pub splice_forward : (rcomp n : ℕ) → rcomp ≡ 0 → print_all (splice_of rcomp n ∷ []) ≡ counted n slash_sign
unfolding splice_of
splice_forward rcomp n h = rw (eq-eqb _ _ h) (printed_one (spliced_forward n))

pub splice_reverse : (rcomp n : ℕ) → rcomp ≡ 1 → print_all (splice_of rcomp n ∷ []) ≡ counted n percent_sign
unfolding splice_of
splice_reverse rcomp n h = rw (ne_eqb rcomp 0 (λ z. omega arith), eq-eqb rcomp 1 h) (printed_one (spliced_reverse n))

pub splice_undirected : (rcomp n : ℕ) → (rcomp ≡ 0 → ⊥) → (rcomp ≡ 1 → ⊥) → print_all (splice_of rcomp n ∷ []) ≡ counted n star_sign
unfolding splice_of
splice_undirected rcomp n g h = rw (ne_eqb _ _ g, ne_eqb _ _ h) (printed_one (spliced_undirected n))

-- its text is as long in each direction
pub length_splice : (rcomp n : ℕ) → length (print_all (splice_of rcomp n ∷ [])) ≡ splice_length n
length_splice rcomp n =
    rw (printed_one (splice_of rcomp n))
    (splice_by (λ o. length (print o) ≡ splice_length n) rcomp n (length_counted n slash_sign) (length_counted n percent_sign) (length_counted n star_sign))
