-- The laws of the walk: each piece's text in each case, and how long it is.
-- Assumes nothing.
use mathlib.Core.Path.{◌≡◌, refl, ap}
use mathlib.Core.Bool.{true, false, cond}
use mathlib.Core.Logic.{◌⊎◌, ⊎_elim}
use mathlib.Core.List.{List, [], ◌∷◌, ◌++◌}
use Prim.Native.Nat.{ℕ, suc, ◌+◌, ◌-◌, ◌*◌, ◌≤◌}
use native.Mathlib.Omega.{arith}
use borrow.Author.Tests.{eq-eqb, ne_eqb, eqb-true, eqb-false}
use lib.Dec.{eqb}
use lib.ListN.{length, length-append}
use Rattle.frame.proofs.HexLaws.{by_test, false_true}
use Rattle.alphabet.specs.Table35.{letter_of}
use Rattle.edits.specs.Edits.{substitution, insertion, deletion, next_offset}
use Rattle.edits.specs.declared.edit.Edit.{Edit}
use Rattle.edits.proofs.EditLaws.{next_least, next_other}
use Rattle.ecigar.specs.declared.walk.Walk.{Walk}
use Rattle.ecigar.specs.Table90.{matched, substituted, inserted, deleted, soft_clipped, hard_clipped, counted, equals_sign, plus_sign, minus_sign, round_open, round_close, square_open, square_close, print_all}
use Rattle.ecigar.specs.Ecigar.{joins_run, past, matches, open_run, gap, mark, ending, clip, operations_from}
use Rattle.ecigar.proofs.PrintLaws.{length_counted, printed_append, printed_one}
use Rattle.writing.proofs.DecimalLaws.{digits_most}

-- ---- a match

pub matches_none : (n : ℕ) → n ≡ 0 → print_all (matches n) ≡ []
unfolding matches print_all
matches_none n h = simp (eq-eqb _ _ h)

pub matches_some : (n : ℕ) → (n ≡ 0 → ⊥) → print_all (matches n) ≡ counted n equals_sign
unfolding matches
matches_some n h = rw (ne_eqb _ _ h) (printed_one (matched n))

-- ---- the run that is open

pub closed_insertion : (w : Walk) → w.kind ≡ insertion → print_all (open_run w) ≡ counted w.run plus_sign
unfolding open_run
closed_insertion w h = rw (eq-eqb _ _ h) (printed_one (inserted w.run))

pub closed_deletion : (w : Walk) → (w.kind ≡ insertion → ⊥) → w.kind ≡ deletion → print_all (open_run w) ≡ counted w.run minus_sign
unfolding open_run
closed_deletion w g h = rw (ne_eqb _ _ g, eq-eqb _ _ h) (printed_one (deleted w.run))

pub closed_none : (w : Walk) → (w.kind ≡ insertion → ⊥) → (w.kind ≡ deletion → ⊥) → print_all (open_run w) ≡ []
unfolding open_run print_all
closed_none w g h = simp (ne_eqb _ _ g, ne_eqb _ _ h)

-- ---- before an edit, its letter, and behind the last

pub gap_joined : (w : Walk) (e : Edit) → joins_run w e ≡ true → print_all (gap w e) ≡ []
unfolding gap print_all
gap_joined w e h = simp h

pub gap_apart : (w : Walk) (e : Edit) → joins_run w e ≡ false → print_all (gap w e) ≡ print_all (open_run w) ++ print_all (matches (e.offset - w.next))
unfolding gap
gap_apart w e h = rw h (printed_append (open_run w) (matches (e.offset - w.next)))

pub mark_letter : (alphabet : ℕ) (e : Edit) → e.kind ≡ substitution → print_all (mark alphabet e) ≡ letter_of alphabet e.symbol ∷ []
unfolding mark
mark_letter alphabet e h = rw (eq-eqb _ _ h) (printed_one (substituted (letter_of alphabet e.symbol)))

pub mark_none : (alphabet : ℕ) (e : Edit) → (e.kind ≡ substitution → ⊥) → print_all (mark alphabet e) ≡ []
unfolding mark print_all
mark_none alphabet e h = simp (ne_eqb _ _ h)

pub length_mark : (alphabet : ℕ) (e : Edit) → length (print_all (mark alphabet e)) ≡ cond (eqb e.kind substitution) 1 0
length_mark alphabet e =
    by_test (eqb e.kind substitution)
    (λ h. rw (h, mark_letter alphabet e (eqb-true _ _ h)))
    (λ h. rw (h, mark_none alphabet e (eqb-false _ _ h)))

pub ending_both : (mapped : ℕ) (w : Walk) → print_all (ending mapped w) ≡ print_all (open_run w) ++ print_all (matches (mapped - w.next))
unfolding ending
ending_both mapped w = printed_append (open_run w) (matches (mapped - w.next))

-- ---- the clip of one side

pub clip_soft : (soft hard : ℕ) → (soft ≡ 0 → ⊥) → print_all (clip soft hard) ≡ round_open ∷ counted soft round_close
unfolding clip
clip_soft soft hard h = rw (ne_eqb _ _ h) (printed_one (soft_clipped soft))

pub clip_hard : (soft hard : ℕ) → soft ≡ 0 → (hard ≡ 0 → ⊥) → print_all (clip soft hard) ≡ square_open ∷ counted hard square_close
unfolding clip
clip_hard soft hard g h = rw (eq-eqb _ _ g, ne_eqb _ _ h) (printed_one (hard_clipped hard))

pub clip_none : (soft hard : ℕ) → soft ≡ 0 → hard ≡ 0 → print_all (clip soft hard) ≡ []
unfolding clip print_all
clip_none soft hard g h = simp (eq-eqb _ _ g, eq-eqb _ _ h)

-- ---- the text from a place of the walk on

pub text_on : (alphabet mapped : ℕ) (w : Walk) (e : Edit) (es : List Edit)
    → print_all (operations_from alphabet mapped w (e ∷ es)) ≡ print_all (gap w e ++ mark alphabet e) ++ print_all (operations_from alphabet mapped (past w e) es)
unfolding operations_from
text_on alphabet mapped w e es = printed_append (gap w e ++ mark alphabet e) (operations_from alphabet mapped (past w e) es)

pub text_end : (alphabet mapped : ℕ) (w : Walk) → print_all (operations_from alphabet mapped w []) ≡ print_all (ending mapped w)
unfolding operations_from
text_end alphabet mapped w = refl

-- ---- the walk past an edit

pub past_next : {v : Walk} (w : Walk) (e : Edit) → v ≡ past w e → v.next ≡ next_offset e
unfolding past
past_next w e q = ap (λ (x : Walk). x.next) q

pub past_kind : {v : Walk} (w : Walk) (e : Edit) → v ≡ past w e → v.kind ≡ e.kind
unfolding past
past_kind w e q = ap (λ (x : Walk). x.kind) q

pub past_run : {v : Walk} (w : Walk) (e : Edit) → v ≡ past w e → v.run ≤ w.run + 1
unfolding past
past_run w e q =
    let r = ap (λ (x : Walk). x.run) q in
    by_test (joins_run w e) (λ h. let s = simp h at r in omega arith) (λ h. let s = simp h at r in omega arith)

pub past_open : {v : Walk} (w : Walk) (e : Edit) → v ≡ past w e → 1 ≤ v.run
unfolding past
past_open w e q =
    let r = ap (λ (x : Walk). x.run) q in
    by_test (joins_run w e) (λ h. let s = simp h at r in omega arith) (λ h. let s = simp h at r in omega arith)

pub past_joined : (w : Walk) (e : Edit) → joins_run w e ≡ true → past w e ≡ record { next = next_offset e; kind = e.kind; run = w.run + 1 }
unfolding past
past_joined w e h = simp h

pub past_apart : (w : Walk) (e : Edit) → joins_run w e ≡ false → past w e ≡ record { next = next_offset e; kind = e.kind; run = 1 }
unfolding past
past_apart w e h = simp h

-- ---- which edits join the run that is open

pub joins_same : (w : Walk) (e : Edit) → (e.kind ≡ substitution → ⊥) → e.kind ≡ w.kind → e.offset ≡ w.next → joins_run w e ≡ true
unfolding joins_run
joins_same w e g h k = simp (ne_eqb _ _ g, eq-eqb _ _ h, eq-eqb _ _ k)

pub joins_not : (w : Walk) (e : Edit) → (e.kind ≡ w.kind → e.offset ≡ w.next → ⊥) → joins_run w e ≡ false
unfolding joins_run
joins_not w e h =
    by_test (eqb e.kind substitution) (λ a. simp a)
    (λ a. by_test (eqb e.kind w.kind)
    (λ b. simp (a, b, ne_eqb e.offset w.next (h (eqb-true _ _ b))))
    (λ b. simp (a, b)))

-- what an edit that joins is
pub record Joined (w : Walk) (e : Edit) : Type 0 where
  pub indel : e.kind ≡ substitution → ⊥
  pub same : e.kind ≡ w.kind
  pub there : e.offset ≡ w.next

pub joins_true : (w : Walk) (e : Edit) → joins_run w e ≡ true → Joined w e
unfolding joins_run
joins_true w e j =
    by_test (eqb e.kind substitution) (λ a. false_true (simp a at j))
    (λ a. by_test (eqb e.kind w.kind)
    (λ b. record { indel = eqb-false _ _ a; same = eqb-true _ _ b; there = eqb-true _ _ (simp (a, b) at j) })
    (λ b. false_true (simp (a, b) at j)))

-- a substitution joins no run
pub apart_letter : (w : Walk) (e : Edit) → e.kind ≡ substitution → joins_run w e ≡ false
unfolding joins_run
apart_letter w e h = simp (eq-eqb _ _ h)

-- ---- how long each piece is: two characters for each base of a match and for each edit of a run

-- a run is open only where it has an edit
abbrev pub Open : Walk → Type 0
Open w = (w.kind ≡ substitution) ⊎ (1 ≤ w.run)

counted_most : (n sign : ℕ) → 1 ≤ n → length (counted n sign) ≤ 2 * n
counted_most n sign h = omega (arith, length_counted n sign, digits_most (suc n) n (omega arith) h)

pub matches_most : (n : ℕ) → length (print_all (matches n)) ≤ 2 * n
matches_most n =
    by_test (eqb n 0) (λ h. rw (matches_none n (eqb-true _ _ h)) (omega arith))
    (λ h. let g = eqb-false n 0 h in rw (matches_some n g) (counted_most n equals_sign (omega arith)))

pub closed_most : (w : Walk) → Open w → length (print_all (open_run w)) ≤ 2 * w.run
closed_most w o =
    by_test (eqb w.kind insertion)
    (λ h. let k = eqb-true w.kind insertion h in rw (closed_insertion w k) (counted_most w.run plus_sign (⊎_elim (λ z. absurd (omega arith)) (λ z. z) o)))
    (λ h.
    let g = eqb-false w.kind insertion h in
    by_test (eqb w.kind deletion)
    (λ i. let k = eqb-true w.kind deletion i in rw (closed_deletion w g k) (counted_most w.run minus_sign (⊎_elim (λ z. absurd (omega arith)) (λ z. z) o)))
    (λ i. rw (closed_none w g (eqb-false _ _ i)) (omega arith)))

-- an edit adds to the text what the walk moves by, and leaves its own run to be `open_run` later
pub edit_most : (w : Walk) (e : Edit) → Open w → w.next ≤ e.offset
    → length (print_all (gap w e)) + cond (eqb e.kind substitution) 1 0 + 2 * (past w e).run + 2 * w.next ≤ 2 * w.run + 2 * next_offset e + 2
unfolding past
edit_most w e o h =
    by_test (eqb e.kind substitution)
    (λ s.
    let k = eqb-true e.kind substitution s in
    let j = apart_letter w e k in
    simp (s, j, gap_apart w e j, length-append) (omega (arith, closed_most w o, matches_most (e.offset - w.next), next_other e (λ d. omega arith))))
    (λ s. by_test (joins_run w e)
    (λ j. simp (s, j, gap_joined w e j) (omega (arith, next_least e)))
    (λ j. simp (s, j, gap_apart w e j, length-append) (omega (arith, closed_most w o, matches_most (e.offset - w.next), next_least e))))
