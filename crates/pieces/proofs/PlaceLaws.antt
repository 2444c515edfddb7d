-- The laws of a place in the unit: what is not refused lies inside it.
-- Assumes nothing.
use mathlib.Core.Path.{◌≡◌}
use Prim.Native.Nat.{ℕ, ◌+◌, ◌≤◌}
use borrow.Author.Tests.{ltb-false}
use lib.Dec.{ltb}
use Rattle.refusal.specs.Answers.{no_refusal}
use Rattle.refusal.proofs.AnswerLaws.{never_refused}
use Rattle.frame.proofs.HexLaws.{by_test}
use Rattle.pieces.specs.Place.{place_refusal}

pub record Inside (start end position taken : ℕ) : Type 0 where
  pub from : start ≤ position
  pub to : position ≤ end
  pub last : position + taken ≤ end + 1

pub place_inside : (start end position taken : ℕ) → place_refusal start end position taken ≡ no_refusal → Inside start end position taken
unfolding place_refusal
place_inside start end position taken q =
    by_test (ltb position start) (λ a. never_refused (simp a at q))
    (λ a. by_test (ltb end position) (λ b. never_refused (simp (a, b) at q))
    (λ b. by_test (ltb (end + 1) (position + taken)) (λ d. never_refused (simp (a, b, d) at q))
    (λ d. record { from = ltb-false position start a; to = ltb-false end position b; last = ltb-false (end + 1) (position + taken) d })))
