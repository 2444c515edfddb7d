-- Steps that take symbols, one after the other, and come to a value or to a refusal: the language of the standard's tables (Table 60) and of a record as a whole.
-- How to read them: `takes N (λ value. ..)` is value = subsequenceN[j8,N], then j8,N++; `within16 value ..` is Table 30's limit, else refusal 7;
-- `reserved` is refusal 6, where a table has no case; `refuses` is any other refusal; `sets` is what they come to; `and_then` goes on with that;
-- `marks (λ here. ..)` takes nothing and remembers where the next symbols stand.
-- Assumes nothing.
use Rattle.std.specs.Prelude.{ℕ, List, cond, ltb, Ok, Err}
use Rattle.refusal.specs.Numbers.{number_of}
use Rattle.refusal.specs.Answers.{OrRefused}
use Rattle.refusal.specs.declared.Refusal.{Refusal}
use Rattle.refusal.specs.declared.Refusal.TheVariants.{CodeOut, ValueOut}
use Rattle.unit.specs.Unit.{largest16}
use Rattle.state.specs.declared.State.{State}
use Rattle.taking.specs.Take.{take_of}

pub data Steps (A : Type 0) : Type 0 where
  sets : A → Steps A
  takes : ℕ → (ℕ → Steps A) → Steps A
  refuses : Refusal → Steps A
  marks : (State → Steps A) → Steps A

-- a value that must have at most 16 bits (Table 30)
abbrev pub within16 : {A : Type 0} → ℕ → Steps A → Steps A
within16 value rest = cond (ltb largest16 value) (refuses ValueOut) rest

-- no case
abbrev pub reserved : {A : Type 0} → Steps A
reserved = refuses CodeOut

-- goes on with what some steps come to
unfoldable pub and_then : {A B : Type 0} → Steps A → (A → Steps B) → Steps B
and_then (sets a) go_on = go_on a
and_then (takes s more) go_on = takes s (λ v. and_then (more v) go_on)
and_then (refuses n) go_on = refuses n
and_then (marks more) go_on = marks (λ here. and_then (more here) go_on)

-- ---- what they come to

-- a value and the state behind its symbols, or a refusal
pub data Came (A : Type 0) : Type 0 where
  came : A → State → Came A
  stopped : Refusal → Came A

-- document 01's number of what they come to: that of the refusal, or 0
abbrev pub came_number : {A : Type 0} → Came A → ℕ
came_number (came a next) = 0
came_number (stopped n) = number_of n

-- goes on with the symbol and the state after it, or refuses
abbrev pub with_symbol : {A : Type 0} → OrRefused (ℕ × State) → (ℕ → State → Came A) → Came A
with_symbol (Ok (v, next)) go_on = go_on v next
with_symbol (Err n) go_on = stopped n

-- the steps, from a state on
unfoldable pub decode : {A : Type 0} → (symbols counts : List ℕ) → State → Steps A → Came A
decode symbols counts st (sets a) = came a st
decode symbols counts st (takes s go_on) = with_symbol (take_of symbols counts st s) (λ v next. decode symbols counts next (go_on v))
decode symbols counts st (refuses n) = stopped n
decode symbols counts st (marks go_on) = decode symbols counts st (go_on st)

-- what follows what came
abbrev pub after_came : {A B : Type 0} → Came A → (A → State → Came B) → Came B
after_came (came a next) go_on = go_on a next
after_came (stopped n) go_on = stopped n
