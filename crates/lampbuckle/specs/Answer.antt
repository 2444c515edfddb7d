-- What C sees of a call: the integer that it answers, and the slices that it lent.
-- Assumes nothing.
use Rattle.std.specs.Prelude.{ℕ, ◌≡◌, List, ℤ, pos, negsuc, neg_ℤ, Ok, Err}
use Rattle.refusal.specs.declared.Refusal.{Refusal}
use Rattle.refusal.specs.Numbers.{number_of}
use Rattle.refusal.specs.Answers.{OrRefused}

-- minus the number of a refusal
abbrev pub minus : ℕ → ℤ
minus n = neg_ℤ (pos n)

-- so many, or minus the number of the refusal
abbrev pub answer_of : OrRefused ℕ → ℤ
answer_of (Ok n) = pos n
answer_of (Err refusal) = minus (number_of refusal)

-- the answer, and each slice that is lent for writing, in the order of the parameters, as it is after the call
pub record Outcome : Type 0 where
  pub answer : ℤ
  pub lent : List (List ℕ)

-- the two together
abbrev pub outcome : ℤ → List (List ℕ) → Outcome
outcome answer lent = record { answer = answer; lent = lent }

-- the call is accepted, and this is its number: so many bytes, symbols or bases
abbrev pub answers : ℕ → List (List ℕ) → Outcome
answers n lent = outcome (pos n) lent

-- "a refusal returns its number .. and no lent byte differs" (document 01, Order): `lent` is what was lent
abbrev pub refuses : Refusal → List (List ℕ) → Outcome
refuses refusal lent = outcome (minus (number_of refusal)) lent

-- where the answer is negative, what is lent is as it was
abbrev pub Kept : Outcome → List (List ℕ) → Type 0
Kept x lent = (n : ℕ) → x.answer ≡ negsuc n → x.lent ≡ lent
