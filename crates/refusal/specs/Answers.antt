-- What is accepted or refused, step by step: an answer is `Ok` with what was found, or `Err` with the refusal.
-- Assumes nothing.
use Rattle.std.specs.Prelude.{ℕ, Result, Ok, Err, ⊤}
use Rattle.refusal.specs.Numbers.{number_of}
use Rattle.refusal.specs.declared.Refusal.{Refusal}

-- an answer that may be a refusal
abbrev pub OrRefused : Type 0 → Type 0
OrRefused A = Result A Refusal

-- document 01's number of an answer: that of its refusal, or 0
abbrev pub answer_number : {A : Type 0} → OrRefused A → ℕ
answer_number (Ok a) = 0
answer_number (Err refusal) = number_of refusal

-- nothing is refused, and there is nothing more to say
abbrev pub no_refusal : OrRefused ⊤
no_refusal = Ok tt

-- what was accepted, and what follows from it; a refusal stands as it is (the code's `?`)
abbrev pub after_ok : {A B : Type 0} → OrRefused A → (A → OrRefused B) → OrRefused B
after_ok (Ok a) go_on = go_on a
after_ok (Err refusal) go_on = Err refusal

-- the same of a check, which accepts or refuses and says no more: the first refusal of two, where there is one
abbrev pub checked : {B : Type 0} → OrRefused ⊤ → OrRefused B → OrRefused B
checked (Ok t) go_on = go_on
checked (Err refusal) go_on = Err refusal
