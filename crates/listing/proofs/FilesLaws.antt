-- The laws of the front of the files: it is lawful where its readers are.
-- Assumes nothing.
use Prim.Native.Nat.{ℕ, zero, suc}
use mathlib.Core.Path.{◌≡◌, refl}
use mathlib.Core.List.{List, [], ◌∷◌}
use Rattle.refusal.specs.declared.Refusal.TheVariants.{Missing}
use Rattle.refusal.specs.Numbers.{Early}
use Rattle.refusal.proofs.RefusalLaws.{early}
use Rattle.unit.specs.Pairs.{subsequences}
use Rattle.listing.specs.Lines.{lines_of}
use Rattle.listing.specs.Record.{Setup, FirstLine, Lawful}
use Rattle.listing.specs.Listing.{LawfulFront}
use Rattle.listing.specs.Files.{Read, good, wrong, front, on_ref, on_lines, on_unit, pairs, on_pair}

-- as many values as the number says, each of them fine
pub data All {Pair : Type 0} (Fine : Pair → Type 0) : ℕ → List Pair → Type 0 where
  none : All Fine zero []
  one : {k : ℕ} {p : Pair} {ps : List Pair} → Fine p → All Fine k ps → All Fine (suc k) (p ∷ ps)

module _ {Ref Head Pair : Type 0} (readRef : List (List ℕ) → Read Ref) (read_unit : List ℕ → Read Head) (read_pair : ℕ → List ℕ → Read Pair)
    (setup : Ref → Head → List ℕ → List Pair → List (List ℕ) → Setup)
    (Fine : Pair → Type 0)
    (wrong-ref : (ls : List (List ℕ)) (n : ℕ) → readRef ls ≡ wrong n → Early n)
    (wrong-unit : (u : List ℕ) (n : ℕ) → read_unit u ≡ wrong n → Early n)
    (wrong-pair : (i : ℕ) (l : List ℕ) (n : ℕ) → read_pair i l ≡ wrong n → Early n)
    (good-unit : (u : List ℕ) (h : Head) → read_unit u ≡ good h → FirstLine u)
    (good-pair : (i : ℕ) (l : List ℕ) (p : Pair) → read_pair i l ≡ good p → Fine p)
    (lawful : (R : Ref) (u : List ℕ) (h : Head) → read_unit u ≡ good h → (ps : List Pair) (ls : List (List ℕ)) → All Fine subsequences ps → Lawful (setup R h u ps ls)) where
  pairs_lawful : (k i : ℕ) (u : List ℕ) → FirstLine u → (ls : List (List ℕ)) (done : List Pair → List (List ℕ) → Setup)
      → ((ps : List Pair) (rest : List (List ℕ)) → All Fine k ps → Lawful (done ps rest)) → LawfulFront (pairs readRef read_unit read_pair setup k i u ls done)
  unfolding LawfulFront pairs
  pairs_lawful zero i u w ls done h = h [] ls none
  pairs_lawful (suc k) i u w [] done h = (w, early Missing tt)
  pairs_lawful (suc k) i u w (l ∷ ls) done h =
      by (read_pair i l) refl (λ p f. pairs_lawful k (suc i) u w ls (λ ps rest. done (p ∷ ps) rest) (λ ps rest fs. h (p ∷ ps) rest (one f fs)))
    where
      by : (t : Read Pair) → read_pair i l ≡ t → ((p : Pair) → Fine p → LawfulFront (pairs readRef read_unit read_pair setup k (suc i) u ls (λ ps rest. done (p ∷ ps) rest)))
          → LawfulFront (on_pair readRef read_unit read_pair setup u t (λ p. pairs readRef read_unit read_pair setup k (suc i) u ls (λ ps rest. done (p ∷ ps) rest)))
      by (good p) e go = go p (good-pair i l p e)
      by (wrong n) e go = (w, wrong-pair i l n e)

  pub front_lawful : (refFile unitFile : List ℕ) → LawfulFront (front readRef read_unit read_pair setup refFile unitFile)
  unfolding LawfulFront
  front_lawful refFile unitFile = by (readRef (lines_of refFile)) refl
    where
      unit : (R : Ref) (u : List ℕ) (ls : List (List ℕ)) (t : Read Head) → read_unit u ≡ t → LawfulFront (on_unit readRef read_unit read_pair setup R u ls t)
      unit R u ls (good h) e = pairs_lawful subsequences 0 u (good-unit u h e) ls (setup R h u) (lawful R u h e)
      unit R u ls (wrong n) e = wrong-unit u n e

      lines : (R : Ref) (ls : List (List ℕ)) → LawfulFront (on_lines readRef read_unit read_pair setup R ls)
      lines R [] = early Missing tt
      lines R (u ∷ ls) = unit R u ls (read_unit u) refl

      by : (t : Read Ref) → readRef (lines_of refFile) ≡ t → LawfulFront (on_ref readRef read_unit read_pair setup unitFile t)
      by (good R) e = lines R (lines_of unitFile)
      by (wrong n) e = wrong-ref (lines_of refFile) n e
