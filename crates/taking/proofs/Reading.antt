-- Laws of reading: steps that come to a value take each symbol at its index, once and in order, as many of a subsequence as they like. Assumes nothing.
use mathlib.Core.Path.{◌≡◌, refl, sym, ap, ◌∙◌}
use mathlib.Core.List.{List, [], ◌∷◌, ◌++◌, append_assoc, append-nil}
use Prim.Native.Nat.{ℕ, ◌+◌, ◌<◌}
use native.Mathlib.Omega.{arith}
use native.Mathlib.Numerals.{add-one}
use lib.Dec.{eqb}
use lib.ListN.{length, get_or, take}
use lib.Seq.{take-suc}
use borrow.Author.Tests.{eqb-true, eqb-false}
use Rattle.frame.proofs.HexLaws.{by_test as by_cases}
use Rattle.unit.specs.Pairs.{symbol_place}
use Rattle.state.specs.State.{taken, raised}
use Rattle.state.specs.declared.State.{State}
use Rattle.taking.specs.Take.{symbol_of}
use Rattle.taking.specs.Steps.{Steps, sets, takes, refuses, marks, and_then, came, with_symbol, decode}
use Rattle.taking.specs.Reading.{Took, taken_in, raised_by, symbols_of}
use Rattle.taking.proofs.Taking.{take_cases, raised_other, raised_same, raised_long}

-- ---- the state is raised by what is taken

module _ (symbols counts : List ℕ) where
  pub decode_reads : {A : Type 0} (p : Steps A) (b : State) (a : A) (next : State) → decode symbols counts b p ≡ came a next → next ≡ raised_by b (taken_in symbols b p)
  unfolding decode taken_in raised_by
  decode_reads (sets d) b a next = λ e. let is : b ≡ next = cc in sym is
  decode_reads (takes s go_on) b a next =
      take_cases symbols counts b s
      (λ t. with_symbol t (λ v m. decode symbols counts m (go_on v)) ≡ came a next → next ≡ raised_by b (taken_in symbols b (takes s go_on)))
      (λ e. let z : ◌≡◌ {A = ℕ} 0 1 = cc in absurd (omega arith))
      (λ there e. decode_reads (go_on (symbol_of symbols b s)) (raised b s) a next e)
  decode_reads (refuses n) b a next = λ e. let z : ◌≡◌ {A = ℕ} 0 1 = cc in absurd (omega arith)
  decode_reads (marks go_on) b a next = decode_reads (go_on b) b a next

-- ---- one after the other

pub taken_then : {A B : Type 0} (symbols counts : List ℕ) (m : Steps A) (f : A → Steps B) (st : State) (a : A) (middle : State) → decode symbols counts st m ≡ came a middle
    → taken_in symbols st (and_then m f) ≡ taken_in symbols st m ++ taken_in symbols middle (f a)
unfolding decode taken_in and_then
taken_then symbols counts (sets d) f st a middle = λ e. let is : d ≡ a = cc in let at : st ≡ middle = cc in rw (is, at) refl
taken_then symbols counts (takes s more) f st a middle =
    take_cases symbols counts st s
    (λ t. with_symbol t (λ v m. decode symbols counts m (more v)) ≡ came a middle → taken_in symbols st (takes s (λ v. and_then (more v) f)) ≡ taken_in symbols st (takes s more) ++ taken_in symbols middle (f a))
    (λ e. let z : ◌≡◌ {A = ℕ} 0 1 = cc in absurd (omega arith))
    (λ there e. ap (λ (l : List Took). record { row = s; value = symbol_of symbols st s } ∷ l) (taken_then symbols counts (more (symbol_of symbols st s)) f (raised st s) a middle e))
taken_then symbols counts (refuses n) f st a middle = λ e. let z : ◌≡◌ {A = ℕ} 0 1 = cc in absurd (omega arith)
taken_then symbols counts (marks more) f st a middle = taken_then symbols counts (more st) f st a middle

-- ---- steps that take nothing

abbrev pub Quiet : {A : Type 0} → Steps A → Type 0
Quiet (sets a) = Unit {0}
Quiet (takes s go_on) = ⊥
Quiet (refuses n) = Unit {0}
Quiet (marks go_on) = (here : State) → Quiet (go_on here)

pub then_quiet : {A B : Type 0} (m : Steps A) (f : A → Steps B) → Quiet m → ((a : A) → Quiet (f a)) → Quiet (and_then m f)
unfolding and_then
then_quiet (sets a) f h k = k a
then_quiet (takes s more) f h k = absurd h
then_quiet (refuses n) f h k = tt
then_quiet (marks more) f h k = λ here. then_quiet (more here) f (h here) k

pub quiet_takes : {A : Type 0} (symbols : List ℕ) (st : State) (p : Steps A) → Quiet p → taken_in symbols st p ≡ []
unfolding taken_in
quiet_takes symbols st (sets a) h = refl
quiet_takes symbols st (takes s go_on) h = absurd h
quiet_takes symbols st (refuses n) h = refl
quiet_takes symbols st (marks go_on) h = quiet_takes symbols st (go_on st) (h st)

-- ---- in order, each once

next_one : (row : List ℕ) (n : ℕ) (rest : List ℕ) → n < length row → take n row ++ get_or row n 0 ∷ rest ≡ take (n + 1) row ++ rest
next_one row n rest h = rw (add-one n, take-suc row n 0 h, append_assoc) refl

-- where a row's symbols stand in the table, in their places
module _ (symbols counts row : List ℕ) (s : ℕ) (counted : get_or counts s 0 ≡ length row) (stands : (k : ℕ) → k < length row → get_or symbols (symbol_place s k) 0 ≡ get_or row k 0) where
  -- what is taken of it goes on where what was taken before stops
  pub takes_row : {A : Type 0} (p : Steps A) (b : State) (a : A) (next : State) → s < length b.index → decode symbols counts b p ≡ came a next
      → take (taken b s) row ++ symbols_of s (taken_in symbols b p) ≡ take (taken next s) row
  unfolding decode taken_in symbols_of
  takes_row (sets d) b a next h = λ e. let is : b ≡ next = cc in append-nil (take (taken b s) row) ∙ ap (λ (x : State). take (taken x s) row) is
  takes_row (takes n go_on) b a next h =
      take_cases symbols counts b n
      (λ t. with_symbol t (λ v m. decode symbols counts m (go_on v)) ≡ came a next → take (taken b s) row ++ symbols_of s (taken_in symbols b (takes n go_on)) ≡ take (taken next s) row)
      (λ e. let z : ◌≡◌ {A = ℕ} 0 1 = cc in absurd (omega arith))
      (λ there e.
      let on = takes_row (go_on (symbol_of symbols b n)) (raised b n) a next (rw raised_long h) e in
      by_cases (eqb n s)
      (λ q.
      let is : n ≡ s = eqb-true n s q in
      let left : taken b s < length row = rw (← counted, ← is) there.left in
      let higher : taken (raised b n) s ≡ taken b s + 1 = rw is (raised_same b s h) in
      let value : symbol_of symbols b n ≡ get_or row (taken b s) 0 = rw is (stands (taken b s) left) in
      rw q
      (ap (λ (v : ℕ). take (taken b s) row ++ v ∷ symbols_of s (taken_in symbols (raised b n) (go_on (symbol_of symbols b n)))) value
      ∙ next_one row (taken b s) _ left ∙ ap (λ (k : ℕ). take k row ++ symbols_of s (taken_in symbols (raised b n) (go_on (symbol_of symbols b n)))) (sym higher) ∙ on))
      (λ q.
      let other : taken (raised b n) s ≡ taken b s = raised_other b n s (λ w. eqb-false n s q (sym w)) in
      rw q (ap (λ (k : ℕ). take k row ++ symbols_of s (taken_in symbols (raised b n) (go_on (symbol_of symbols b n)))) (sym other) ∙ on)))
  takes_row (refuses n) b a next h = λ e. let z : ◌≡◌ {A = ℕ} 0 1 = cc in absurd (omega arith)
  takes_row (marks go_on) b a next h = takes_row (go_on b) b a next h
