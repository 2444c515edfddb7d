-- Steps of reading a line that every kind of line shares.
-- Assumes nothing.
use Rattle.std.specs.Prelude.{Bool, cond, List, ◌++◌, ℕ, ◌+◌, length, take, drop, Ok, Err}
use Rattle.refusal.specs.Answers.{OrRefused}
use Rattle.refusal.specs.declared.Refusal.{Refusal}

-- a test that must hold, what is answered where it does not, and what follows
abbrev pub unless {ℓ} : {X : Type ℓ} → Bool → X → X → X
unless ok bad go = cond ok go bad

-- a line, and what follows where it is well formed (document 01, refusal 1)
abbrev pub after_line {ℓ} : {X : Type ℓ} → (Refusal → X) → OrRefused ℕ → X → X
after_line stop (Ok n) x = x
after_line stop (Err refusal) x = stop refusal

-- t, with the values vs in the places from `at` on
unfoldable pub stored_at : List ℕ → ℕ → List ℕ → List ℕ
stored_at t at vs = take at t ++ vs ++ drop (at + length vs) t
