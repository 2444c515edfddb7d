-- Laws of `decode`, by induction on the steps. Assumes nothing.
use mathlib.Core.Path.{◌≡◌, refl, sym, ap, ◌∙◌}
use mathlib.Core.Logic.{◌⊎◌, inl, inr, ⊎_elim}
use mathlib.Core.Bool.{Bool, true, false, cond}
use mathlib.Core.List.{List}
use Prim.Native.Nat.{ℕ, ◌+◌, ◌<◌, ◌≤◌}
use native.Mathlib.Omega.{arith}
use lib.Dec.{ltb, eqb}
use lib.ListN.{length, get_or}
use lib.Seq.{set_out}
use borrow.Author.Tests.{ltb-true, ltb-false, eqb-true, eqb-false}
use Rattle.std.specs.Prelude.{Ok, Err}
use Rattle.refusal.specs.Answers.{after_ok}
use Rattle.refusal.specs.declared.Refusal.{Refusal}
use Rattle.refusal.specs.declared.Refusal.TheVariants.{UsedUp, ValueOut}
use Rattle.unit.specs.Unit.{largest16}
use Rattle.state.specs.State.{taken, raised}
use Rattle.state.specs.declared.State.{State}
use Rattle.taking.specs.Take.{symbol_of, narrow_of}
use Rattle.taking.specs.Steps.{Steps, sets, takes, refuses, marks, within16, and_then, Came, came, stopped, with_symbol, decode, after_came}
use Rattle.taking.proofs.Taking.{by_test, one_of, There, take_cases, raised_other, raised_same, raised_long}

-- ---- one after the other

pub decode_then : {A B : Type 0} (symbols counts : List ℕ) (m : Steps A) (f : A → Steps B) (st : State)
    → decode symbols counts st (and_then m f) ≡ after_came (decode symbols counts st m) (λ a next. decode symbols counts next (f a))
unfolding decode and_then
decode_then symbols counts (sets a) f st = refl
decode_then {A} {B} symbols counts (takes s more) f st =
    take_cases symbols counts st s
    (λ t. with_symbol t (λ v next. decode symbols counts next (and_then (more v) f)) ≡ after_came (with_symbol t (λ v next. decode symbols counts next (more v))) (λ a next. decode symbols counts next (f a)))
    refl
    (λ there. decode_then symbols counts (more (symbol_of symbols st s)) f (raised st s))
decode_then symbols counts (refuses n) f st = refl
decode_then symbols counts (marks more) f st = decode_then symbols counts (more st) f st

pub then_goes : {A B : Type 0} (symbols counts : List ℕ) (m : Steps A) (f : A → Steps B) (st : State) (a : A) (next : State) → decode symbols counts st m ≡ came a next
    → decode symbols counts st (and_then m f) ≡ decode symbols counts next (f a)
then_goes {A} symbols counts m f st a next e = decode_then symbols counts m f st ∙ ap (λ (x : Came A). after_came x (λ b middle. decode symbols counts middle (f b))) e

pub then_stops : {A B : Type 0} (symbols counts : List ℕ) (m : Steps A) (f : A → Steps B) (st : State) (n : Refusal) → decode symbols counts st m ≡ stopped n
    → decode symbols counts st (and_then m f) ≡ stopped n
then_stops {A} symbols counts m f st n e = decode_then symbols counts m f st ∙ ap (λ (x : Came A). after_came x (λ b middle. decode symbols counts middle (f b))) e

-- ---- a value of at most 16 bits

within_or_not : {A : Type 0} (symbols counts : List ℕ) (next : State) (v : ℕ) (go_on : ℕ → Steps A) (more : Bool)
    → decode symbols counts next (cond more (refuses ValueOut) (go_on v)) ≡ with_symbol (cond more (Err ValueOut) (Ok (v, next))) (λ v next. decode symbols counts next (go_on v))
unfolding decode
within_or_not symbols counts next v go_on true = refl
within_or_not symbols counts next v go_on false = refl

-- a step that takes such a value is the code's `take_narrow`
pub decode_narrow : {A : Type 0} (symbols counts : List ℕ) (st : State) (s : ℕ) (go_on : ℕ → Steps A)
    → decode symbols counts st (takes s (λ v. within16 v (go_on v))) ≡ with_symbol (narrow_of symbols counts st s) (λ v next. decode symbols counts next (go_on v))
unfolding decode narrow_of
decode_narrow {A} symbols counts st s go_on =
    take_cases symbols counts st s
    (λ t. with_symbol t (λ v next. decode symbols counts next (within16 v (go_on v))) ≡ with_symbol (after_ok t (λ taken. cond (ltb largest16 taken.0) (Err ValueOut) (Ok taken))) (λ v next. decode symbols counts next (go_on v)))
    refl
    (λ there. within_or_not symbols counts (raised st s) (symbol_of symbols st s) go_on (ltb largest16 (symbol_of symbols st s)))

-- ---- what both come to

pub record CameThen {A B : Type 0} (symbols counts : List ℕ) (m : Steps A) (f : A → Steps B) (st : State) (b : B) (next : State) : Type 0 where
  pub value : A
  pub middle : State
  pub first : decode symbols counts st m ≡ came value middle
  pub rest : decode symbols counts middle (f value) ≡ came b next

pub then_came : {A B : Type 0} (symbols counts : List ℕ) (m : Steps A) (f : A → Steps B) (st : State) (b : B) (next : State) → decode symbols counts st (and_then m f) ≡ came b next → CameThen symbols counts m f st b next
then_came {A} {B} symbols counts m f st b next e = by (decode symbols counts st m) refl (sym (decode_then symbols counts m f st) ∙ e)
  where
    by : (x : Came A) → decode symbols counts st m ≡ x → after_came x (λ a middle. decode symbols counts middle (f a)) ≡ came b next → CameThen symbols counts m f st b next
    by (came a middle) q w = record { value = a; middle = middle; first = q; rest = w }
    by (stopped n) q w = absurd (let z : ◌≡◌ {A = ℕ} 0 1 = cc in omega arith)

-- ---- what steps may do

-- every end has the property `end`, given that each symbol taken has the property `value`
abbrev pub Ends : {A : Type 0} → (ℕ → Type 0) → (A → Type 0) → Steps A → Type 0
Ends value end (sets a) = end a
Ends value end (takes s go_on) = (v : ℕ) → value v → Ends value end (go_on v)
Ends value end (refuses n) = Unit {0}
Ends value end (marks go_on) = (here : State) → Ends value end (go_on here)

-- of any symbol
abbrev pub Any : ℕ → Type 0
Any v = v ≡ v

-- every refusal has the property `told`
abbrev pub Tells : {A : Type 0} → (Refusal → Type 0) → Steps A → Type 0
Tells told (sets a) = Unit {0}
Tells told (takes s go_on) = told UsedUp × ((v : ℕ) → Tells told (go_on v))
Tells told (refuses n) = told n
Tells told (marks go_on) = (here : State) → Tells told (go_on here)

-- what follows from `end` holds of every end too
pub ends_as : {A : Type 0} (value : ℕ → Type 0) (end also : A → Type 0) (p : Steps A) → ((a : A) → end a → also a) → Ends value end p → Ends value also p
ends_as value end also (sets a) f h = f a h
ends_as value end also (takes s go_on) f h = λ v q. ends_as value end also (go_on v) f (h v q)
ends_as value end also (refuses n) f h = tt
ends_as value end also (marks go_on) f h = λ here. ends_as value end also (go_on here) f (h here)

pub tells_as : {A : Type 0} (told also : Refusal → Type 0) (p : Steps A) → ((n : Refusal) → told n → also n) → Tells told p → Tells also p
tells_as told also (sets a) f h = tt
tells_as told also (takes s go_on) f h = (f UsedUp h.0, λ v. tells_as told also (go_on v) f (h.1 v))
tells_as told also (refuses n) f h = f n h
tells_as told also (marks go_on) f h = λ here. tells_as told also (go_on here) f (h here)

-- one after the other
pub then_ends : {A B : Type 0} (value : ℕ → Type 0) (end : B → Type 0) (m : Steps A) (f : A → Steps B) → Ends value (λ a. Ends value end (f a)) m → Ends value end (and_then m f)
unfolding and_then
then_ends value end (sets a) f h = h
then_ends value end (takes s more) f h = λ v q. then_ends value end (more v) f (h v q)
then_ends value end (refuses n) f h = tt
then_ends value end (marks more) f h = λ here. then_ends value end (more here) f (h here)

pub then_tells : {A B : Type 0} (told : Refusal → Type 0) (m : Steps A) (f : A → Steps B) → Tells told m → ((a : A) → Tells told (f a)) → Tells told (and_then m f)
unfolding and_then
then_tells told (sets a) f h k = k a
then_tells told (takes s more) f h k = (h.0, λ v. then_tells told (more v) f (h.1 v) k)
then_tells told (refuses n) f h k = h
then_tells told (marks more) f h k = λ here. then_tells told (more here) f (h here) k

-- a value that must fit 16 bits
pub fits_ends : {A : Type 0} (value : ℕ → Type 0) (end : A → Type 0) (v : ℕ) (rest : Steps A) → (v ≤ largest16 → Ends value end rest) → Ends value end (within16 v rest)
fits_ends {A} value end v rest h = by_test (λ (p : Steps A). Ends value end p) (ltb largest16 v) _ _ (λ _. tt) (λ l. h (ltb-false _ _ l))

pub fits_tells : {A : Type 0} (told : Refusal → Type 0) (v : ℕ) (rest : Steps A) → told ValueOut → Tells told rest → Tells told (within16 v rest)
fits_tells {A} told v rest h k = one_of (λ (p : Steps A). Tells told p) (ltb largest16 v) _ _ h k

-- ---- the state

-- index j of b is that of a; or it is higher, and not above its count
abbrev pub IndexStep : List ℕ → State → State → ℕ → Type 0
IndexStep counts a b j = (taken b j ≡ taken a j) ⊎ ((taken a j < taken b j) × (taken b j ≤ get_or counts j 0))

-- b follows a: the number and how many indexes there are stay, and each index stays or goes on
pub record Follows (counts : List ℕ) (a b : State) : Type 0 where
  pub number : b.number ≡ a.number
  pub long : length b.index ≡ length a.index
  pub each : (j : ℕ) → IndexStep counts a b j

pub stays : (counts : List ℕ) (a : State) → Follows counts a a
stays counts a = record { number = refl; long = refl; each = λ j. inl refl }

pub follows_on : {counts : List ℕ} {a b d : State} → Follows counts a b → Follows counts b d → Follows counts a d
follows_on {counts} {a} {b} {d} f g =
    record {
      number = g.number ∙ f.number;
      long = g.long ∙ f.long;
      each = λ j. ⊎_elim (λ e. ⊎_elim (λ k. inl (k ∙ e)) (λ k. inr (rw e at k.0, k.1)) (g.each j)) (λ e. ⊎_elim (λ k. inr (rw k e.0, rw k e.1)) (λ k. inr (omega (arith, e.0, k.0), k.1)) (g.each j)) (f.each j);
    }

-- indexes that are not above their counts stay so
pub follows_within : {counts : List ℕ} {a b : State} → Follows counts a b → ((j : ℕ) → taken a j ≤ get_or counts j 0) → (j : ℕ) → taken b j ≤ get_or counts j 0
follows_within f h j = ⊎_elim (λ e. rw e (h j)) (λ e. e.1) (f.each j)

module _ (symbols counts : List ℕ) where
  follows_raised : (b : State) (s : ℕ) → There symbols counts b s → Follows counts b (raised b s)
  follows_raised b s there =
      record {
        number = refl;
        long = raised_long b s;
        each =
            λ j.
            by_test (λ (u : Bool). IndexStep counts b (raised b s) j) (eqb j s) true true
            (λ is.
            let at : j ≡ s = eqb-true j s is in
            rw at
            (by_test (λ (u : Bool). IndexStep counts b (raised b s) s) (ltb s (length b.index)) true true
            (λ l. let one : taken (raised b s) s ≡ taken b s + 1 = raised_same b s (ltb-true _ _ l) in inr (omega arith, omega (arith, there.left)))
            (λ l. inl (rw (set_out b.index s _ (ltb-false _ _ l)) refl))))
            (λ no. inl (raised_other b s j (eqb-false j s no)));
      }

  pub decode_follows : {A : Type 0} (p : Steps A) (b : State) (a : A) (next : State) → decode symbols counts b p ≡ came a next → Follows counts b next
  unfolding decode
  decode_follows (sets d) b a next = λ e. let is : b ≡ next = cc in rw is (stays counts next)
  decode_follows (takes s go_on) b a next =
      take_cases symbols counts b s
      (λ t. with_symbol t (λ v m. decode symbols counts m (go_on v)) ≡ came a next → Follows counts b next)
      (λ e. let z : ◌≡◌ {A = ℕ} 0 1 = cc in absurd (omega arith))
      (λ there e. follows_on (follows_raised b s there) (decode_follows (go_on (symbol_of symbols b s)) (raised b s) a next e))
  decode_follows (refuses n) b a next = λ e. let z : ◌≡◌ {A = ℕ} 0 1 = cc in absurd (omega arith)
  decode_follows (marks go_on) b a next = decode_follows (go_on b) b a next

  -- a property of every refusal is one of what is refused
  pub decode_tells : {A : Type 0} (told : Refusal → Type 0) (p : Steps A) (b : State) → Tells told p → (n : Refusal) → decode symbols counts b p ≡ stopped n → told n
  unfolding decode
  decode_tells told (sets d) b h n = λ e. let z : ◌≡◌ {A = ℕ} 0 1 = cc in absurd (omega arith)
  decode_tells told (takes s go_on) b h n =
      take_cases symbols counts b s
      (λ t. with_symbol t (λ v m. decode symbols counts m (go_on v)) ≡ stopped n → told n)
      (λ e. let is : UsedUp ≡ n = cc in rw (← is) h.0)
      (λ there. decode_tells told (go_on (symbol_of symbols b s)) (raised b s) (h.1 _) n)
  decode_tells told (refuses m) b h n = λ e. let is : m ≡ n = cc in rw is at h
  decode_tells told (marks go_on) b h n = decode_tells told (go_on b) b (h b) n

  -- a property of every end is one of what they come to
  pub decode_ends : {A : Type 0} (value : ℕ → Type 0) (end : A → Type 0) → ((at : ℕ) → value (get_or symbols at 0)) → (p : Steps A) (b : State) → Ends value end p → (a : A) (next : State) → decode symbols counts b p ≡ came a next → end a
  unfolding decode
  decode_ends value end every (sets d) b ends a next = λ e. let is : d ≡ a = cc in rw is at ends
  decode_ends value end every (takes s go_on) b ends a next =
      take_cases symbols counts b s
      (λ t. with_symbol t (λ v m. decode symbols counts m (go_on v)) ≡ came a next → end a)
      (λ e. let z : ◌≡◌ {A = ℕ} 0 1 = cc in absurd (omega arith))
      (λ there. decode_ends value end every (go_on (symbol_of symbols b s)) (raised b s) (ends _ (every _)) a next)
  decode_ends value end every (refuses n) b ends a next = λ e. let z : ◌≡◌ {A = ℕ} 0 1 = cc in absurd (omega arith)
  decode_ends value end every (marks go_on) b ends a next = decode_ends value end every (go_on b) b (ends b) a next
