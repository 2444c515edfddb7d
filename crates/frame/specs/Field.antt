-- A field of a frame (document 01, Lines): k bytes, high byte first, or a frame that ends before it is complete.
-- Assumes nothing.
use Rattle.std.specs.Prelude.{cond, List, ℕ, zero, suc, ◌+◌, ◌*◌, leb, length, get_or, Ok, Err}
use Rattle.refusal.specs.Answers.{OrRefused}
use Rattle.refusal.specs.declared.Refusal.{Refusal}
use Rattle.refusal.specs.declared.Refusal.TheVariants.{Misframed}
use Rattle.frame.specs.declared.field.Cursor.{Cursor}

-- what a field is: its value and the place behind it, or its refusal
abbrev pub Field : Type 0
Field = OrRefused (ℕ × Cursor)

-- the number that k bytes from `at` on stand for
unfoldable pub big_at : ℕ → List ℕ → ℕ → ℕ
big_at zero s at = 0
big_at (suc k) s at = big_at k s at * 256 + get_or s (at + k) 0

-- k bytes from `at` on, high byte first, with the place behind them; where the frame ends before, it is refused by 2
unfoldable pub field_at : ℕ → List ℕ → ℕ → Field
field_at k s at = cond (leb (at + k) (length s)) (Ok (big_at k s at, record { at = at + k })) (Err Misframed)

-- a field, and what follows where it is complete
abbrev pub after_field {ℓ} : {X : Type ℓ} → (Refusal → X) → Field → (ℕ → Cursor → X) → X
after_field stop (Ok (v, c)) f = f v c
after_field stop (Err refusal) f = stop refusal

-- k bytes from a place on, and what follows from the place behind them; `stop` where the frame ends before
abbrev pub with_field {ℓ} : {X : Type ℓ} → (Refusal → X) → ℕ → List ℕ → ℕ → (ℕ → ℕ → X) → X
with_field stop k frame at f = after_field stop (field_at k frame at) (λ v next. f v next.at)
