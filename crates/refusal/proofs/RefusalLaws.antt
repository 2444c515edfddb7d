-- The laws of refusals: the number of each is one of the table.
-- Assumes nothing.
use native.Mathlib.Omega.{arith}
use borrow.Author.Tests.{eqb-false}
use Rattle.std.specs.Prelude.{◌≡◌, ⊤, Ok, Err, Bool, true, false, not, eqb, T, refl}
use Rattle.refusal.specs.declared.Refusal.{Refusal}
use Rattle.refusal.specs.declared.Refusal.TheVariants.{Malformed, Misframed, UnitOut, CountOut, UsedUp, CodeOut, ValueOut, LengthOut, ClipsOut, SymbolOut, FieldOut, OffsetOut, PositionOut, Missing, OtherFirst, OtherLast, NoRoom}
use Rattle.refusal.specs.Numbers.{number_of, no_room, InTable, Early}
use Rattle.refusal.specs.Answers.{OrRefused, after_ok, checked}

pub in_table : (refusal : Refusal) → InTable (number_of refusal)
in_table Malformed = (omega arith, omega arith)
in_table Misframed = (omega arith, omega arith)
in_table UnitOut = (omega arith, omega arith)
in_table CountOut = (omega arith, omega arith)
in_table UsedUp = (omega arith, omega arith)
in_table CodeOut = (omega arith, omega arith)
in_table ValueOut = (omega arith, omega arith)
in_table LengthOut = (omega arith, omega arith)
in_table ClipsOut = (omega arith, omega arith)
in_table SymbolOut = (omega arith, omega arith)
in_table FieldOut = (omega arith, omega arith)
in_table OffsetOut = (omega arith, omega arith)
in_table PositionOut = (omega arith, omega arith)
in_table Missing = (omega arith, omega arith)
in_table OtherFirst = (omega arith, omega arith)
in_table OtherLast = (omega arith, omega arith)
in_table NoRoom = (omega arith, omega arith)

-- ---- every refusal but 17

-- the number is one of the table but 17
abbrev pub EarlyRefusal : Refusal → Type 0
EarlyRefusal refusal = Early (number_of refusal)

-- of an answer: what it accepts, or such a refusal
abbrev pub EarlyAnswer : {A : Type 0} → OrRefused A → Type 0
EarlyAnswer (Ok a) = ⊤
EarlyAnswer (Err refusal) = EarlyRefusal refusal

-- a refusal that is written out, by a test that is computed: `early _ tt`
pub early : (refusal : Refusal) → T (not (eqb (number_of refusal) no_room)) → EarlyRefusal refusal
early refusal h = by (eqb (number_of refusal) no_room) refl h
  where
    by : (t : Bool) → eqb (number_of refusal) no_room ≡ t → T (not t) → EarlyRefusal refusal
    by true e h = elim h [ ]
    by false e h = (in_table refusal, eqb-false (number_of refusal) no_room e)

-- what follows an answer is refused early where both are
pub after_early : {A B : Type 0} (x : OrRefused A) (go_on : A → OrRefused B) → EarlyAnswer x → ((a : A) → EarlyAnswer (go_on a)) → EarlyAnswer (after_ok x go_on)
after_early (Ok a) go_on h k = k a
after_early (Err refusal) go_on h k = h

pub checked_early : {B : Type 0} (x : OrRefused ⊤) (go_on : OrRefused B) → EarlyAnswer x → EarlyAnswer go_on → EarlyAnswer (checked x go_on)
checked_early (Ok t) go_on h k = k
checked_early (Err refusal) go_on h k = h
