-- The laws of the operations of edits and of clips: no count is 0, and how far they move r and R.
-- Assumes nothing.
use mathlib.Core.Path.{◌≡◌, refl, sym, ap, ◌∙◌}
use mathlib.Core.Bool.{true, false, cond}
use mathlib.Core.Logic.{inr, ⊎_elim}
use mathlib.Core.List.{List, [], ◌∷◌, ◌++◌}
use Prim.Native.Nat.{ℕ, ◌+◌, ◌-◌, ◌≤◌}
use native.Mathlib.Omega.{arith}
use native.Mathlib.Nat.{zero-add, add-zero, add_assoc}
use borrow.Author.Tests.{eq-eqb, ne_eqb, eqb-true, eqb-false}
use lib.Dec.{eqb}
use Rattle.frame.proofs.HexLaws.{by_test}
use Rattle.alphabet.specs.Table35.{letter_of}
use Rattle.edits.specs.Edits.{substitution, insertion, deletion, next_offset, Sound, taken_from}
use Rattle.edits.specs.declared.edit.Edit.{Edit}
use Rattle.edits.proofs.EditLaws.{EditAccepted, sound_tail, next_deletion, next_other, sound_accepted}
use Rattle.ecigar.specs.declared.walk.Walk.{Walk}
use Rattle.ecigar.specs.Table90.{Operation, matched, substituted, inserted, deleted, moves_read, moves_reference, total, AllPositive}
use Rattle.ecigar.specs.Ecigar.{set_out_at, joins_run, past, matches, open_run, gap, mark, ending, operations_from, clip}
use Rattle.ecigar.proofs.WalkLaws.{Open, past_next, past_kind, past_open, past_joined, past_apart, joins_true}

-- ---- no count is 0

pub positive_append : (xs ys : List Operation) → AllPositive xs → AllPositive ys → AllPositive (xs ++ ys)
unfolding AllPositive
positive_append [] ys p q = q
positive_append (x ∷ xs) ys p q = (p.0, positive_append xs ys p.1 q)

positive_matches : (n : ℕ) → AllPositive (matches n)
unfolding AllPositive matches
positive_matches n = by_test (eqb n 0) (λ h. rw h tt) (λ h. let z = eqb-false n 0 h in rw h (omega arith, tt))

positive_closed : (w : Walk) → Open w → AllPositive (open_run w)
unfolding AllPositive open_run
positive_closed w o =
    by_test (eqb w.kind insertion)
    (λ h. let k = eqb-true w.kind insertion h in rw h (⊎_elim (λ z. absurd (omega arith)) (λ z. z) o, tt))
    (λ h. by_test (eqb w.kind deletion)
    (λ i. let k = eqb-true w.kind deletion i in rw (h, i) (⊎_elim (λ z. absurd (omega arith)) (λ z. z) o, tt))
    (λ i. rw (h, i) tt))

positive_edit : (alphabet : ℕ) (w : Walk) (e : Edit) → Open w → AllPositive (gap w e ++ mark alphabet e)
unfolding AllPositive gap mark
positive_edit alphabet w e o =
    positive_append (gap w e) (mark alphabet e)
    (by_test (joins_run w e) (λ j. rw j tt) (λ j. rw j (positive_append (open_run w) (matches (e.offset - w.next)) (positive_closed w o) (positive_matches (e.offset - w.next)))))
    (by_test (eqb e.kind substitution) (λ h. rw h (tt, tt)) (λ h. rw h tt))

pub positive_from : (alphabet mapped : ℕ) (w : Walk) (es : List Edit) → Open w → AllPositive (operations_from alphabet mapped w es)
unfolding operations_from ending
positive_from alphabet mapped w [] o = positive_append (open_run w) (matches (mapped - w.next)) (positive_closed w o) (positive_matches (mapped - w.next))
positive_from alphabet mapped w (e ∷ es) o =
    positive_append (gap w e ++ mark alphabet e) (operations_from alphabet mapped (past w e) es) (positive_edit alphabet w e o)
    (positive_from alphabet mapped (past w e) es (inr (past_open w e refl)))

pub positive_clip : (soft hard : ℕ) → AllPositive (clip soft hard)
unfolding AllPositive clip
positive_clip soft hard =
    by_test (eqb soft 0)
    (λ a. by_test (eqb hard 0) (λ b. rw (a, b) tt) (λ b. let z = eqb-false hard 0 b in rw (a, b) (omega arith, tt)))
    (λ a. let z = eqb-false soft 0 a in rw a (omega arith, tt))

-- ---- how far they move a pointer

pub total_append : (m : Operation → ℕ) (xs ys : List Operation) → total m (xs ++ ys) ≡ total m xs + total m ys
unfolding total
total_append m [] ys = sym (zero-add (total m ys))
total_append m (x ∷ xs) ys = rw (total_append m xs ys) (sym (add_assoc (m x) (total m xs) (total m ys)))

-- what both pointers have in common: a match and a substitution move them, and a run moves them by as much for each edit
record Moves (m : Operation → ℕ) : Type 0 where
  pub match : (n : ℕ) → m (matched n) ≡ n
  pub mismatch : (b : ℕ) → m (substituted b) ≡ 1
  pub insert : (n : ℕ) → m (inserted (n + 1)) ≡ m (inserted n) + m (inserted 1)
  pub delete : (n : ℕ) → m (deleted (n + 1)) ≡ m (deleted n) + m (deleted 1)

read_moves : Moves moves_read
read_moves = record { match = λ n. refl; mismatch = λ b. refl; insert = λ n. refl; delete = λ n. refl }

reference_moves : Moves moves_reference
reference_moves = record { match = λ n. refl; mismatch = λ b. refl; insert = λ n. refl; delete = λ n. refl }

module _ (m : Operation → ℕ) (known : Moves m) where
  -- what an edit moves the pointer by itself
  unfoldable own : Edit → ℕ
  own e = cond (eqb e.kind substitution) 1 (cond (eqb e.kind insertion) (m (inserted 1)) (m (deleted 1)))

  total_matches : (n : ℕ) → total m (matches n) ≡ n
  unfolding total matches
  total_matches n = by_test (eqb n 0) (λ h. rw h (sym (eqb-true n 0 h))) (λ h. rw (h, known.match n) (add-zero n))

  total_mark : (alphabet : ℕ) (e : Edit) → total m (mark alphabet e) ≡ cond (eqb e.kind substitution) 1 0
  unfolding total mark
  total_mark alphabet e = by_test (eqb e.kind substitution) (λ h. rw (h, known.mismatch (letter_of alphabet e.symbol))) (λ h. rw h)

  total_closed_letter : (w : Walk) → w.kind ≡ substitution → total m (open_run w) ≡ 0
  unfolding total open_run
  total_closed_letter w h = simp (ne_eqb w.kind insertion (λ z. omega arith), ne_eqb w.kind deletion (λ z. omega arith))

  total_closed_insertion : (w : Walk) → w.kind ≡ insertion → total m (open_run w) ≡ m (inserted w.run)
  unfolding total open_run
  total_closed_insertion w h = rw (eq-eqb w.kind insertion h) (add-zero (m (inserted w.run)))

  total_closed_deletion : (w : Walk) → w.kind ≡ deletion → total m (open_run w) ≡ m (deleted w.run)
  unfolding total open_run
  total_closed_deletion w h = rw (ne_eqb w.kind insertion (λ z. omega arith), eq-eqb w.kind deletion h) (add-zero (m (deleted w.run)))

  total_gap : (w : Walk) (e : Edit) → joins_run w e ≡ false → total m (gap w e) ≡ total m (open_run w) + (e.offset - w.next)
  unfolding gap
  total_gap w e j = rw (j, total_append m (open_run w) (matches (e.offset - w.next)), total_matches (e.offset - w.next))

  total_joined : (w : Walk) (e : Edit) → joins_run w e ≡ true → total m (gap w e) ≡ 0
  unfolding gap total
  total_joined w e j = rw j

  -- the pieces of one edit, with the run that is then open: the match before it, and what it moves itself
  total_step : (alphabet : ℕ) (w : Walk) (e : Edit) → w.next ≤ e.offset → e.kind ≤ deletion
      → total m (gap w e) + total m (mark alphabet e) + total m (open_run (past w e)) ≡ total m (open_run w) + (e.offset - w.next) + own e
  unfolding own
  total_step alphabet w e h k =
      by_test (joins_run w e) (λ j. joined j) (λ j. rw (total_gap w e j, total_mark alphabet e) (apart j))
    where
      joined : joins_run w e ≡ true
          → total m (gap w e) + total m (mark alphabet e) + total m (open_run (past w e))
          ≡ total m (open_run w) + (e.offset - w.next) + cond (eqb e.kind substitution) 1 (cond (eqb e.kind insertion) (m (inserted 1)) (m (deleted 1)))
      joined j =
          let i = joins_true w e j in
          let o : e.offset - w.next ≡ 0 = omega (arith, i.there) in
          rw (total_joined w e j, total_mark alphabet e, ne_eqb _ _ i.indel, o)
          (by_test (eqb e.kind insertion)
          (λ b.
          let a = eqb-true e.kind insertion b in
          rw (b, total_closed_insertion (past w e) (past_kind w e refl ∙ a), past_joined w e j, total_closed_insertion w (sym i.same ∙ a), known.insert w.run) (omega arith))
          (λ b.
          let z = i.indel in
          let y = eqb-false e.kind insertion b in
          let d : e.kind ≡ deletion = omega arith in
          rw (b, total_closed_deletion (past w e) (past_kind w e refl ∙ d), past_joined w e j, total_closed_deletion w (sym i.same ∙ d), known.delete w.run) (omega arith)))

      apart : joins_run w e ≡ false
          → total m (open_run w) + (e.offset - w.next) + cond (eqb e.kind substitution) 1 0 + total m (open_run (past w e))
          ≡ total m (open_run w) + (e.offset - w.next) + cond (eqb e.kind substitution) 1 (cond (eqb e.kind insertion) (m (inserted 1)) (m (deleted 1)))
      apart j =
          by_test (eqb e.kind substitution)
          (λ a. rw (a, total_closed_letter (past w e) (past_kind w e refl ∙ eqb-true _ _ a)) (omega arith))
          (λ a. by_test (eqb e.kind insertion)
          (λ b. rw (a, b, total_closed_insertion (past w e) (past_kind w e refl ∙ eqb-true _ _ b), past_apart w e j) (omega arith))
          (λ b.
          let z = eqb-false e.kind substitution a in
          let y = eqb-false e.kind insertion b in
          let d : e.kind ≡ deletion = omega arith in
          rw (a, b, total_closed_deletion (past w e) (past_kind w e refl ∙ d), past_apart w e j) (omega arith)))

  -- so the pointer moves from edit to edit as `left` says, and by the last match at the end
  total_from : (alphabet mapped symbols : ℕ) (left : ℕ → List Edit → ℕ)
      → ((next : ℕ) → left next [] ≡ mapped - next)
      → ((next : ℕ) (e : Edit) (es : List Edit) → EditAccepted mapped symbols next e → left next (e ∷ es) ≡ (e.offset - next) + own e + left (next_offset e) es)
      → (w : Walk) (es : List Edit) → Sound mapped symbols w.next es → total m (operations_from alphabet mapped w es) ≡ total m (open_run w) + left w.next es
  unfolding operations_from ending
  total_from alphabet mapped symbols left end on w [] s =
      rw (total_append m (open_run w) (matches (mapped - w.next)), total_matches (mapped - w.next), end w.next)
  total_from alphabet mapped symbols left end on w (e ∷ es) s =
      let a = sound_accepted mapped symbols w.next e es s in
      let n = past_next w e refl in
      let r : total m (operations_from alphabet mapped (past w e) es) ≡ total m (open_run (past w e)) + left (past w e).next es =
      total_from alphabet mapped symbols left end on (past w e) es (rw n (sound_tail mapped symbols w.next e es s)) in
      let q : total m (operations_from alphabet mapped (past w e) es) ≡ total m (open_run (past w e)) + left (next_offset e) es = r ∙ ap (λ (x : ℕ). total m (open_run (past w e)) + left x es) n in
      omega (
        arith,
        total_append m (gap w e ++ mark alphabet e) (operations_from alphabet mapped (past w e) es),
        total_append m (gap w e) (mark alphabet e),
        total_step alphabet w e a.order a.kind,
        on w.next e es a,
        q,
      )

-- ---- pointer r and pointer R over the edits

own_read : (e : Edit) → e.kind ≤ deletion → own moves_read read_moves e + e.offset ≡ next_offset e
unfolding own
own_read e k =
    by_test (eqb e.kind substitution)
    (λ a. let z = eqb-true e.kind substitution a in rw (a, next_other e (λ y. omega arith)) (omega arith))
    (λ a. by_test (eqb e.kind insertion)
    (λ b. let z = eqb-true e.kind insertion b in rw (a, b, next_other e (λ y. omega arith)) (omega arith))
    (λ b.
    let z = eqb-false e.kind substitution a in
    let y = eqb-false e.kind insertion b in
    let d : e.kind ≡ deletion = omega arith in
    rw (a, b, next_deletion e d) (omega arith)))

own_reference : (e : Edit) → own moves_reference reference_moves e ≡ cond (eqb e.kind insertion) 0 1
unfolding own
own_reference e =
    by_test (eqb e.kind substitution)
    (λ a. let z = eqb-true e.kind substitution a in rw (a, ne_eqb e.kind insertion (λ y. omega arith)))
    (λ a. rw a)

module _ (alphabet start mapped symbols : ℕ) (es : List Edit) (sound : Sound mapped symbols start es) where
  pub piece_read : total moves_read (operations_from alphabet mapped (set_out_at start) es) ≡ mapped - start
  piece_read =
      total_from moves_read read_moves alphabet mapped symbols (λ next rest. mapped - next) (λ next. refl)
      (λ next e rest a. omega (arith, a.order, a.inside, own_read e a.kind)) (set_out_at start) es sound
      ∙ rw (total_closed_letter moves_read read_moves (set_out_at start) refl) (omega arith)

  pub piece_reference : total moves_reference (operations_from alphabet mapped (set_out_at start) es) ≡ taken_from mapped start es
  unfolding taken_from
  piece_reference =
      total_from moves_reference reference_moves alphabet mapped symbols (λ next rest. taken_from mapped next rest) (λ next. refl)
      (λ next e rest a. omega (arith, own_reference e)) (set_out_at start) es sound
      ∙ rw (total_closed_letter moves_reference reference_moves (set_out_at start) refl) (omega arith)

-- ---- over a clip

pub clip_read : (soft hard : ℕ) → total moves_read (clip soft hard) ≡ soft
unfolding total clip
clip_read soft hard =
    by_test (eqb soft 0)
    (λ a. by_test (eqb hard 0) (λ b. rw (a, b) (sym (eqb-true soft 0 a))) (λ b. rw (a, b) (sym (eqb-true soft 0 a))))
    (λ a. rw a (add-zero soft))

pub clip_reference : (soft hard : ℕ) → total moves_reference (clip soft hard) ≡ 0
unfolding total clip
clip_reference soft hard =
    by_test (eqb soft 0) (λ a. by_test (eqb hard 0) (λ b. rw (a, b)) (λ b. rw (a, b))) (λ a. rw a)
