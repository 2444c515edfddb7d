-- The laws of edits: what an accepted one meets, and a list of them taken one by one.
-- Assumes nothing.
use Prim.Native.Nat.{ℕ, zero, suc, ◌+◌, ◌-◌, ◌*◌, ◌<◌, ◌≤◌}
use mathlib.Core.Path.{◌≡◌, refl, ap, sym, ◌∙◌}
use mathlib.Core.Bool.{true, false}
use mathlib.Core.List.{List, [], ◌∷◌}
use native.Mathlib.Omega.{arith}
use native.Mathlib.Nat.{add-zero, suc-mul, mul-le-mul_left}
use borrow.Author.Tests.{ltb-false, leb-false, eqb-true, eqb-false, eq-eqb, ne_eqb}
use lib.Dec.{ltb, leb, eqb}
use lib.ListN.{length, get_or}
use Rattle.std.specs.Prelude.{⊤, Err}
use Rattle.refusal.specs.Answers.{OrRefused, no_refusal}
use Rattle.refusal.specs.declared.Refusal.{Refusal}
use Rattle.frame.specs.Field.{big_at}
use Rattle.frame.proofs.Tests.{by_test, false_true, one_of}
use Rattle.unit.specs.Unit.{class_n, class_m}
use Rattle.alphabet.specs.Table35.{size_of}
use Rattle.edits.specs.Edits.{substitution, deletion, edit, width_of, edit_at, edit_list_at, next_offset, deletion_refusal, edit_refusal, Sound}
use Rattle.edits.specs.Code.Runs.{substitutes_only}
use Rattle.edits.specs.Lengths.{most_edits}
use Rattle.edits.specs.declared.edit.Edit.{Edit}

-- ---- an offset is its two bytes

pub offset_bytes : (s : List ℕ) (at : ℕ) → big_at 2 s at ≡ get_or s at 0 * 256 + get_or s (at + 1) 0
unfolding big_at
offset_bytes s at = rw (add-zero at) (omega arith)

-- ---- the classes whose edits are all substitutions

pub only_m : (class : ℕ) → substitutes_only class ≡ true → (class ≡ class_n → ⊥) → class ≡ class_m
unfolding substitutes_only
only_m class t h = eqb-true class class_m (simp (ne_eqb _ _ h) at t)

pub substitution_kind : (class alphabet : ℕ) (frame : List ℕ) (at : ℕ) → substitutes_only class ≡ true → (edit_at class alphabet frame at).kind ≡ substitution
unfolding substitutes_only edit_at
substitution_kind class alphabet frame at t =
    by_test (eqb class class_n) (λ n. simp n) (λ n. let m : eqb class class_m ≡ true = simp n at t in simp (n, m))

-- the others are neither of them: there an edit has its four bytes
neither : (class : ℕ) → substitutes_only class ≡ false → (eqb class class_n ≡ false) × (eqb class class_m ≡ false)
unfolding substitutes_only
neither class t = by_test (eqb class class_n) (λ n. false_true (sym t ∙ simp n)) (λ n. (n, simp n at t))

pub edit_full : (class : ℕ) → substitutes_only class ≡ false → (alphabet : ℕ) (frame : List ℕ) (at : ℕ) → edit_at class alphabet frame at ≡ edit (big_at 2 frame at) (get_or frame (at + 2) 0) (get_or frame (at + 3) 0)
unfolding edit_at
edit_full class t alphabet frame at = simp ((neither class t).0, (neither class t).1)

pub width_full : (class : ℕ) → substitutes_only class ≡ false → width_of class ≡ 4
unfolding width_of
width_full class t = simp ((neither class t).0, (neither class t).1)

-- ---- the offset after an edit

pub next_deletion : (e : Edit) → e.kind ≡ deletion → next_offset e ≡ e.offset
unfolding next_offset
next_deletion e h = simp (eq-eqb _ _ h)

pub next_other : (e : Edit) → (e.kind ≡ deletion → ⊥) → next_offset e ≡ e.offset + 1
unfolding next_offset
next_other e h = simp (ne_eqb _ _ h)

pub next_least : (e : Edit) → e.offset ≤ next_offset e
unfolding next_offset
next_least e = by_test (eqb e.kind deletion) (λ t. simp t (omega arith)) (λ t. simp t (omega arith))

pub next_most : (e : Edit) → next_offset e ≤ e.offset + 1
unfolding next_offset
next_most e = by_test (eqb e.kind deletion) (λ t. simp t (omega arith)) (λ t. simp t (omega arith))

-- ---- what an edit that is not refused meets

-- a refusal is no acceptance
pub refused_fine : {P : Type 0} (refusal : Refusal) → ◌≡◌ {A = OrRefused ⊤} (Err refusal) no_refusal → P
refused_fine refusal z = absurd (let y : ◌≡◌ {A = ℕ} 0 1 = cc in omega arith)

pub record EditAccepted (mapped symbols next : ℕ) (e : Edit) : Type 0 where
  pub order : next ≤ e.offset
  pub inside : next_offset e ≤ mapped
  pub kind : e.kind ≤ deletion

pub edit_accepted : (mapped symbols next : ℕ) (e : Edit) → edit_refusal mapped symbols next e ≡ no_refusal → EditAccepted mapped symbols next e
unfolding edit_refusal deletion_refusal
edit_accepted mapped symbols next e z =
    by_test (ltb deletion e.kind) (λ a. refused_fine _ (simp a at z))
    (λ a.
    let k = ltb-false deletion e.kind a in
    by_test (eqb e.kind deletion)
    (λ b.
    let n = next_deletion e (eqb-true e.kind deletion b) in
    by_test (eqb e.symbol 0)
    (λ d. by_test (ltb e.offset next) (λ f. refused_fine _ (simp (a, b, d, f) at z))
    (λ f. by_test (ltb mapped e.offset) (λ g. refused_fine _ (simp (a, b, d, f, g) at z))
    (λ g. record { order = ltb-false e.offset next f; inside = omega (arith, ltb-false mapped e.offset g); kind = k })))
    (λ d. refused_fine _ (simp (a, b, d) at z)))
    (λ b.
    let n = next_other e (eqb-false e.kind deletion b) in
    by_test (leb symbols e.symbol) (λ d. refused_fine _ (simp (a, b, d) at z))
    (λ d. by_test (ltb e.offset next) (λ f. refused_fine _ (simp (a, b, d, f) at z))
    (λ f. by_test (leb mapped e.offset) (λ g. refused_fine _ (simp (a, b, d, f, g) at z))
    (λ g. record { order = ltb-false e.offset next f; inside = omega (arith, leb-false mapped e.offset g); kind = k })))))

-- a substitution or an insertion that is not refused brings a symbol of the alphabet
pub symbol_inside : (mapped symbols next : ℕ) (e : Edit) → edit_refusal mapped symbols next e ≡ no_refusal → (e.kind ≡ deletion → ⊥) → e.symbol < symbols
unfolding edit_refusal
symbol_inside mapped symbols next e z h =
    by_test (ltb deletion e.kind) (λ a. refused_fine _ (simp a at z))
    (λ a. by_test (leb symbols e.symbol) (λ d. refused_fine _ (simp (a, ne_eqb _ _ h, d) at z)) (λ d. leb-false symbols e.symbol d))

-- ---- a list of edits, one by one

pub edits_on : (class alphabet : ℕ) (frame : List ℕ) (k at : ℕ) (e : Edit) → e ≡ edit_at class alphabet frame at → 0 < k → edit_list_at class alphabet frame k at ≡ e ∷ edit_list_at class alphabet frame (k - 1) (at + width_of class)
unfolding edit_list_at
edits_on class alphabet frame zero at e q h = absurd (omega arith)
edits_on class alphabet frame (suc k) at e q h = let j : suc k - 1 ≡ k = omega arith in rw (j, q)

pub edits_none : (class alphabet : ℕ) (frame : List ℕ) (k at : ℕ) → k ≤ 0 → edit_list_at class alphabet frame k at ≡ []
unfolding edit_list_at
edits_none class alphabet frame zero at h = refl
edits_none class alphabet frame (suc k) at h = absurd (omega arith)

pub length_edits : (class alphabet : ℕ) (frame : List ℕ) (k at : ℕ) → length (edit_list_at class alphabet frame k at) ≡ k
unfolding edit_list_at
length_edits class alphabet frame zero at = refl
length_edits class alphabet frame (suc k) at = ap suc (length_edits class alphabet frame k (at + width_of class))

pub sound_head : (mapped symbols next : ℕ) (e : Edit) (es : List Edit) → Sound mapped symbols next (e ∷ es) → edit_refusal mapped symbols next e ≡ no_refusal
unfolding Sound
sound_head mapped symbols next e es p = p.0

pub sound_tail : (mapped symbols next : ℕ) (e : Edit) (es : List Edit) → Sound mapped symbols next (e ∷ es) → Sound mapped symbols (next_offset e) es
unfolding Sound
sound_tail mapped symbols next e es p = p.1

-- the first of them is accepted
pub sound_accepted : (mapped symbols next : ℕ) (e : Edit) (es : List Edit) → Sound mapped symbols next (e ∷ es) → EditAccepted mapped symbols next e
sound_accepted mapped symbols next e es p = edit_accepted mapped symbols next e (sound_head mapped symbols next e es p)

-- ---- how wide an edit is

width_by : (P : ℕ → Type 0) → P 2 → P 3 → P 4 → (class : ℕ) → P (width_of class)
unfolding width_of
width_by P n m i class = one_of P (eqb class class_n) _ _ n (one_of P (eqb class class_m) _ _ m i)

width_most : (class : ℕ) → width_of class ≤ 4
width_most class = width_by (λ n. n ≤ 4) (omega arith) (omega arith) (omega arith) class

-- the offset at least, and in every class but N a third byte
pub width_least : (class : ℕ) → 2 ≤ width_of class
width_least class = width_by (λ n. 2 ≤ n) (omega arith) (omega arith) (omega arith) class

pub width_third : (class : ℕ) → (class ≡ class_n → ⊥) → 3 ≤ width_of class
unfolding width_of
width_third class h = rw (ne_eqb _ _ h) (one_of (λ n. 3 ≤ n) (eqb class class_m) 3 4 (omega arith) (omega arith))

-- so many edits are so many bytes
pub edits_bytes : (class count : ℕ) → count ≤ most_edits → count * width_of class ≤ 4 * most_edits
edits_bytes class count h = omega (arith, mul-le-mul_left count (width_most class))

-- so many times, and one time more
times_less : (k n : ℕ) → 0 < k → k * n ≡ n + (k - 1) * n
times_less zero n h = absurd (omega arith)
times_less (suc k) n h = let p : suc k - 1 ≡ k = omega arith in rw p (omega (arith, suc-mul k n))

-- the frame has the next edit, and the others behind it
pub framed_on : (frame : List ℕ) (class at k step : ℕ) → at + k * width_of class ≤ length frame → step ≡ width_of class → 0 < k
    → (at + step ≤ length frame) × (at + step + (k - 1) * width_of class ≤ length frame)
framed_on frame class at k step h q more = let e = times_less k (width_of class) more in (omega arith, omega arith)

-- ---- a turn of a loop over edits

module _ (class alphabet : ℕ) (frame : List ℕ) (mapped k at step : ℕ) (e : Edit) (wide : step ≡ width_of class) (it : e ≡ edit_at class alphabet frame at) (more : 0 < k) where
  pub list_on : edit_list_at class alphabet frame k at ≡ e ∷ edit_list_at class alphabet frame (k - 1) (at + step)
  list_on = edits_on class alphabet frame k at e it more ∙ rw wide

  pub accepted_on : (next : ℕ) → Sound mapped (size_of alphabet) next (edit_list_at class alphabet frame k at) → EditAccepted mapped (size_of alphabet) next e
  accepted_on next s = sound_accepted mapped (size_of alphabet) next e (edit_list_at class alphabet frame (k - 1) (at + step)) (rw list_on at s)

  pub sound_on : (next : ℕ) → Sound mapped (size_of alphabet) next (edit_list_at class alphabet frame k at)
      → Sound mapped (size_of alphabet) (next_offset e) (edit_list_at class alphabet frame (k - 1) (at + step))
  sound_on next s = sound_tail mapped (size_of alphabet) next e (edit_list_at class alphabet frame (k - 1) (at + step)) (rw list_on at s)

-- ---- a loop that counts its turns

-- in a turn something is left, and behind the last nothing
pub turns_left : {n i : ℕ} → i < n → 0 < n - i
turns_left h = omega arith

pub turns_over : {n i : ℕ} → n ≤ i → n - i ≤ 0
turns_over h = omega arith
