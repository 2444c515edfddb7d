-- The laws of the check: each turn of its loop, the bounds that hold on the way, and what an accepted list of edits meets.
-- Assumes nothing.
use mathlib.Core.Path.{◌≡◌, refl, sym, ap, ◌∙◌}
use mathlib.Core.Bool.{Bool, true, false, cond}
use mathlib.Core.Logic.{inl, inr}
use mathlib.Core.List.{List, ◌∷◌, ◌++◌}
use Prim.Native.Nat.{ℕ, zero, suc, ◌+◌, ◌-◌, ◌*◌, ◌<◌, ◌≤◌}
use native.Mathlib.Omega.{arith}
use native.Mathlib.Nat.{suc-mul, zero-mul, zero-add, add-zero}
use borrow.Author.Tests.{le-ltb, ltb-true, ltb-false}
use lib.Dec.{ltb, eqb}
use lib.ListN.{length, length-append}
use Rattle.std.specs.Prelude.{⊤, Ok, Err}
use Rattle.refusal.specs.Answers.{OrRefused, no_refusal, after_ok, checked}
use Rattle.refusal.specs.declared.Refusal.{Refusal}
use Rattle.refusal.specs.declared.Refusal.TheVariants.{OffsetOut}
use Rattle.frame.proofs.Tests.{by_test}
use Rattle.alphabet.specs.Table35.{size_of}
use Rattle.edits.specs.Edits.{substitution, insertion, width_of, edit_at, edit_list_at, next_offset, edit_refusal, Sound, taken_from, taken_by}
use Rattle.edits.specs.Flanks.{flanked, all_flanked}
use Rattle.edits.specs.Code.Flank.{flank_past, flank_end, flanked_from}
use Rattle.edits.specs.Code.Runs.{substitutes_only}
use Rattle.edits.specs.Lengths.{most_read, most_edits}
use Rattle.edits.specs.declared.edit.Edit.{Edit}
use Rattle.edits.specs.declared.flank.Flank.{Flank}
use Rattle.edits.specs.declared.flank.Flank.TheVariants.{Before}
use Rattle.edits.proofs.EditLaws.{refused_fine, EditAccepted, edit_accepted, edits_on, edits_none, next_least}
use Rattle.edits.proofs.FlankLaws.{each_letters, flank_start, flank_on, flank_end_lem}
use Rattle.ecigar.specs.declared.walk.Walk.{Walk}
use Rattle.ecigar.specs.declared.check.Tally.{Tally}
use Rattle.ecigar.specs.declared.check.Extent.{Extent}
use Rattle.ecigar.specs.Table90.{print_all}
use Rattle.ecigar.specs.Ecigar.{set_out_at, past, gap, mark, operations_from, ecigar_of}
use Rattle.ecigar.specs.Check.{extent, ends_within, complete, edits_refusal, answered, piece_checked, edits_checked, check_of, check_piece}
use Rattle.ecigar.specs.Code.Tally.{start_tally_at, text_by, tallied, after_last, after_read, walked}
use Rattle.ecigar.proofs.PrintLaws.{length_printed}
use Rattle.ecigar.proofs.WalkLaws.{Open, length_mark, text_on, text_end, past_next, past_run, past_open, edit_most}

-- ---- one edit

pub taken_by_most : (next : ℕ) (e : Edit) → next ≤ e.offset → taken_by next e + next ≤ e.offset + 1
taken_by_most next e h = by_test (eqb e.kind insertion) (λ k. simp k (omega arith)) (λ k. simp k (omega arith))

-- ---- an answer by cases

pub by_answer : {P : Type 0} (x : OrRefused ⊤) → (x ≡ no_refusal → P) → ((refusal : Refusal) → x ≡ Err refusal → P) → P
by_answer (Ok t) f g = f refl
by_answer (Err refusal) f g = g refusal refl

-- what is accepted is no refusal
pub accepted_refused : {P A : Type 0} (a : A) (refusal : Refusal) → ◌≡◌ {A = OrRefused A} (Ok a) (Err refusal) → P
accepted_refused a refusal z = absurd (let y : ◌≡◌ {A = ℕ} 0 1 = cc in omega arith)

pub complete_inside : (frame : List ℕ) (at width : ℕ) → complete frame at width ≡ no_refusal → at + width ≤ length frame
complete_inside frame at width q =
    by_test (ends_within frame at width) (λ a. refused_fine _ (simp a at q)) (λ a. ltb-false (length frame) (at + width) a)

-- ---- a turn of the loop: what is left, from here, comes to what the whole comes to

-- the check of k edits from a place on, after a tally
unfoldable pub checked_from : ℕ → ℕ → List ℕ → ℕ → ℕ → ℕ → Tally → OrRefused Extent
checked_from class alphabet frame mapped k at t =
    answered
    (edits_refusal class alphabet frame mapped t.walk.next k at)
    (t.taken + taken_from mapped t.walk.next (edit_list_at class alphabet frame k at))
    (t.text + length (print_all (operations_from alphabet mapped t.walk (edit_list_at class alphabet frame k at))))

pub check_start : (class alphabet : ℕ) (frame : List ℕ) (mapped from k at : ℕ) (t : Tally) → t ≡ start_tally_at from
    → checked_from class alphabet frame mapped k at t ≡ piece_checked class alphabet frame from at k mapped
unfolding checked_from
check_start class alphabet frame mapped from k at t q = rw q (simp zero-add)

refusals_on : (class alphabet : ℕ) (frame : List ℕ) (mapped next k at : ℕ) → 0 < k → edits_refusal class alphabet frame mapped next k at
    ≡ checked (complete frame at (width_of class))
    (checked (edit_refusal mapped (size_of alphabet) next (edit_at class alphabet frame at))
    (edits_refusal class alphabet frame mapped (next_offset (edit_at class alphabet frame at)) (k - 1) (at + width_of class)))
unfolding edits_refusal
refusals_on class alphabet frame mapped next zero at h = absurd (omega arith)
refusals_on class alphabet frame mapped next (suc k) at h = let p : suc k - 1 ≡ k = omega arith in rw p

module _ (class alphabet : ℕ) (frame : List ℕ) (mapped k at step symbols : ℕ) (t : Tally) (wide : step ≡ width_of class) (size : symbols ≡ size_of alphabet) (more : 0 < k) where
  refusal_here : edits_refusal class alphabet frame mapped t.walk.next k at
      ≡ checked (complete frame at step)
      (checked (edit_refusal mapped symbols t.walk.next (edit_at class alphabet frame at))
      (edits_refusal class alphabet frame mapped (next_offset (edit_at class alphabet frame at)) (k - 1) (at + step)))
  refusal_here = refusals_on class alphabet frame mapped t.walk.next k at more ∙ rw (wide, size)

  pub check_short : (refusal : Refusal) → Err refusal ≡ complete frame at step → checked_from class alphabet frame mapped k at t ≡ Err refusal
  unfolding checked_from answered
  check_short refusal h = rw (refusal_here, ← h)

  module _ (e : Edit) (it : e ≡ edit_at class alphabet frame at) (whole : no_refusal ≡ complete frame at step) where
    pub check_out : (refusal : Refusal) → Err refusal ≡ edit_refusal mapped symbols t.walk.next e → checked_from class alphabet frame mapped k at t ≡ Err refusal
    unfolding checked_from answered
    check_out refusal q = rw (refusal_here, ← whole, ← it, ← q)

    pub check_on : (r : Tally) → edit_refusal mapped symbols t.walk.next e ≡ no_refusal → r ≡ tallied t e
        → checked_from class alphabet frame mapped k at t ≡ checked_from class alphabet frame mapped (k - 1) (at + step) r
    unfolding checked_from taken_from tallied text_by past
    check_on r z q =
        let es = edit_list_at class alphabet frame (k - 1) (at + step) in
        let list : edit_list_at class alphabet frame k at ≡ e ∷ es = edits_on class alphabet frame k at e it more ∙ rw wide in
        let refused : edits_refusal class alphabet frame mapped t.walk.next k at ≡ edits_refusal class alphabet frame mapped (next_offset e) (k - 1) (at + step) =
        refusal_here ∙ rw (← whole, ← it, z) in
        let taken : t.taken + taken_from mapped t.walk.next (e ∷ es) ≡ t.taken + ((e.offset - t.walk.next) + cond (eqb e.kind insertion) 0 1) + taken_from mapped (next_offset e) es = omega arith in
        let text : t.text + length (print_all (operations_from alphabet mapped t.walk (e ∷ es)))
        ≡ t.text + (length (print_all (gap t.walk e)) + cond (eqb e.kind substitution) 1 0) + length (print_all (operations_from alphabet mapped (past t.walk e) es)) =
        omega (arith, ap length (text_on alphabet mapped t.walk e es), length-append (print_all (gap t.walk e ++ mark alphabet e)) (print_all (operations_from alphabet mapped (past t.walk e) es)), length_printed (gap t.walk e) (mark alphabet e), length_mark alphabet e) in
        rw (q, list, refused, taken, text)

pub check_end : (class alphabet : ℕ) (frame : List ℕ) (mapped k at : ℕ) (t : Tally) → k ≤ 0
    → checked_from class alphabet frame mapped k at t ≡ Ok (after_last mapped t)
unfolding checked_from answered edits_refusal taken_from after_last
check_end class alphabet frame mapped k at t h =
    let z : k ≡ 0 = omega arith in rw (edits_none class alphabet frame k at h, z, text_end alphabet mapped t.walk)

-- ---- a whole read, whose deletions are looked at together

module _ (class alphabet : ℕ) (frame : List ℕ) (start count mapped : ℕ) where
  abbrev all : List Edit
  all = edit_list_at class alphabet frame count start

  -- what was kept of them so far comes to what all of them come to, where the edits that are left are accepted
  abbrev pub Flanking : (k at : ℕ) → Tally → Flank → Type 0
  Flanking k at t f =
      Sound mapped (size_of alphabet) t.walk.next (edit_list_at class alphabet frame k at)
      → flanked_from f mapped t.walk.next (edit_list_at class alphabet frame k at) ≡ all_flanked mapped all

  pub flanking_start : (t : Tally) → t ≡ start_tally_at 0 → Flanking count start t Before
  flanking_start t q s = rw q (flank_start mapped all)

  pub flanking_on : (k at step : ℕ) (t r : Tally) (f g : Flank) (e : Edit) → step ≡ width_of class → 0 < k → e ≡ edit_at class alphabet frame at
      → edit_refusal mapped (size_of alphabet) t.walk.next e ≡ no_refusal → r ≡ tallied t e → g ≡ flank_past f t.walk.next e
      → Flanking k at t f → Flanking (k - 1) (at + step) r g
  unfolding tallied Sound
  flanking_on k at step t r f g e wide more it z q p h s =
      let es = edit_list_at class alphabet frame (k - 1) (at + step) in
      let next : r.walk.next ≡ next_offset e = past_next t.walk e (ap (λ (x : Tally). x.walk) q) in
      let list : edit_list_at class alphabet frame k at ≡ e ∷ es = edits_on class alphabet frame k at e it more ∙ rw wide in
      let sound : Sound mapped (size_of alphabet) t.walk.next (e ∷ es) = (z, rw next at s) in
      rw (next, p) (sym (flank_on mapped (size_of alphabet) e es f t.walk.next sound) ∙ rw list at h sound)

  -- an edit's own refusal is the read's
  pub read_refused : (refusal : Refusal) → piece_checked class alphabet frame 0 start count mapped ≡ Err refusal → edits_checked class alphabet frame start count mapped ≡ Err refusal
  unfolding edits_checked answered
  read_refused refusal q =
      by_answer (edits_refusal class alphabet frame mapped 0 count start) (λ d. accepted_refused _ _ (rw d at q)) (λ n d. rw d (rw d at q))

  -- where none is refused, and each deletion is flanked, the read comes to what its edits come to
  read_flanked : all_flanked mapped all ≡ true → edits_checked class alphabet frame start count mapped ≡ piece_checked class alphabet frame 0 start count mapped
  unfolding edits_checked answered
  read_flanked h =
      by_answer (edits_refusal class alphabet frame mapped 0 count start) (λ d. rw (d, h)) (λ n d. rw d)

  -- else it is refused
  read_bare : (x : Extent) → piece_checked class alphabet frame 0 start count mapped ≡ Ok x → all_flanked mapped all ≡ false
      → edits_checked class alphabet frame start count mapped ≡ Err OffsetOut
  unfolding edits_checked answered
  read_bare x q h =
      by_answer (edits_refusal class alphabet frame mapped 0 count start) (λ d. rw (d, h)) (λ n d. accepted_refused _ _ (sym (rw d at q)))

  -- in N and M there is no deletion
  pub read_letters : substitutes_only class ≡ true → edits_checked class alphabet frame start count mapped ≡ piece_checked class alphabet frame 0 start count mapped
  read_letters only = read_flanked (each_letters (flanked mapped all) class alphabet frame count start only)

  pub read_end : (k at : ℕ) (t : Tally) (f : Flank) → k ≤ 0 → checked_from class alphabet frame mapped k at t ≡ piece_checked class alphabet frame 0 start count mapped → Flanking k at t f
      → after_read mapped f t ≡ edits_checked class alphabet frame start count mapped
  unfolding after_read after_last Sound
  read_end k at t f none q h =
      let here = sym (check_end class alphabet frame mapped k at t none) ∙ q in
      let e : flank_end f t.walk.next mapped ≡ cond (all_flanked mapped all) no_refusal (Err OffsetOut) =
      flank_end_lem f t.walk.next mapped ∙ ap (λ (b : Bool). cond b no_refusal (Err OffsetOut)) (rw (edits_none class alphabet frame k at none) at h tt) in
      by_test (all_flanked mapped all)
      (λ b. rw (e, b) (here ∙ sym (read_flanked b)))
      (λ b. rw (e, b) (sym (read_bare _ (sym here) b)))

-- ---- the bounds on the way

-- where a tally stands when k of n edits are left
pub record TallyWithin (mapped n k : ℕ) (t : Tally) : Type 0 where
  pub next : t.walk.next ≤ mapped
  pub run : t.walk.run + k ≤ n
  pub begun : Open t.walk
  pub taken : t.taken + k ≤ t.walk.next + n
  pub text : t.text + 2 * t.walk.run + 2 * k ≤ 2 * t.walk.next + 2 * n

pub within_on : (mapped symbols n k : ℕ) (t r : Tally) (e : Edit) → TallyWithin mapped n k t → 0 < k → EditAccepted mapped symbols t.walk.next e → r ≡ tallied t e
    → TallyWithin mapped n (k - 1) r
unfolding tallied text_by
within_on mapped symbols n k t r e w h a q =
    let walk : r.walk ≡ past t.walk e = ap (λ (x : Tally). x.walk) q in
    let there = past_next t.walk e walk in
    let least = next_least e in
    record {
      next = omega (arith, a.inside);
      run = omega (arith, w.run, past_run t.walk e walk);
      begun = inr (past_open t.walk e walk);
      taken = omega (arith, w.taken, a.order, taken_by_most t.walk.next e a.order, ap (λ (x : Tally). x.taken) q);
      text = omega (arith, w.text, a.order, edit_most t.walk e w.begun a.order, ap (λ (x : Walk). x.run) walk, ap (λ (x : Tally). x.text) q);
    }

-- ---- the walk that is shared, turn by turn

module _ (class alphabet : ℕ) (frame : List ℕ) (mapped : ℕ) where
  pub walked_on : (k at : ℕ) (t : Tally) (f : Flank) → 0 < k → walked class alphabet frame mapped k at t f
      ≡ checked (complete frame at (width_of class))
      (checked (edit_refusal mapped (size_of alphabet) t.walk.next (edit_at class alphabet frame at))
      (walked class alphabet frame mapped (k - 1) (at + width_of class) (tallied t (edit_at class alphabet frame at)) (flank_past f t.walk.next (edit_at class alphabet frame at))))
  unfolding walked
  walked_on zero at t f h = absurd (omega arith)
  walked_on (suc k) at t f h = let p : suc k - 1 ≡ k = omega arith in rw p

  pub walked_end : (k at : ℕ) (t : Tally) (f : Flank) → k ≤ 0 → walked class alphabet frame mapped k at t f ≡ Ok (t, f)
  unfolding walked
  walked_end k at t f h = let z : k ≡ 0 = omega arith in rw z

  -- the bounds hold behind the last edit
  pub walked_within : (n k at : ℕ) (t : Tally) (f : Flank) (r : Tally × Flank) → TallyWithin mapped n k t → walked class alphabet frame mapped k at t f ≡ Ok r → TallyWithin mapped n 0 r.0
  unfolding walked
  walked_within n zero at t f r w q = let both : ◌≡◌ {A = Tally × Flank} (t, f) r = cc in rw (ap (λ (x : Tally × Flank). x.0) both) at w
  walked_within n (suc k) at t f r w q =
      let e = edit_at class alphabet frame at in
      by_answer (complete frame at (width_of class))
      (λ a. by_answer (edit_refusal mapped (size_of alphabet) t.walk.next e)
      (λ b.
      let p : suc k - 1 ≡ k = omega arith in
      let on = within_on mapped (size_of alphabet) n (suc k) t (tallied t e) e w (omega arith) (edit_accepted mapped (size_of alphabet) t.walk.next e b) refl in
      walked_within n k (at + width_of class) (tallied t e) (flank_past f t.walk.next e) r (rw p at on) (rw (a, b) at q))
      (λ m b. accepted_refused _ _ (sym (rw (a, b) at q))))
      (λ m a. accepted_refused _ _ (sym (rw a at q)))

  -- what a piece's edits come to
  pub walked_piece : (k at : ℕ) (t : Tally) (f : Flank) → checked_from class alphabet frame mapped k at t ≡ after_ok (walked class alphabet frame mapped k at t f) (λ r. Ok (after_last mapped r.0))
  unfolding walked
  walked_piece zero at t f = check_end class alphabet frame mapped zero at t (omega arith)
  walked_piece (suc k) at t f =
      let e = edit_at class alphabet frame at in
      let more : 0 < suc k = omega arith in
      let p : suc k - 1 ≡ k = omega arith in
      let size = size_of alphabet in
      by_answer (complete frame at (width_of class))
      (λ a. by_answer (edit_refusal mapped size t.walk.next e)
      (λ b.
      rw (a, b)
      (check_on class alphabet frame mapped (suc k) at (width_of class) size t refl refl more e refl (sym a) (tallied t e) b refl
      ∙ rw p (walked_piece k (at + width_of class) (tallied t e) (flank_past f t.walk.next e))))
      (λ m b. rw (a, b) (check_out class alphabet frame mapped (suc k) at (width_of class) size t refl refl more e refl (sym a) m (sym b))))
      (λ m a. rw a (check_short class alphabet frame mapped (suc k) at (width_of class) size t refl refl more m (sym a)))

  -- and a whole read's
  pub walked_read : (start count k at : ℕ) (t : Tally) (f : Flank) → checked_from class alphabet frame mapped k at t ≡ piece_checked class alphabet frame 0 start count mapped
      → Flanking class alphabet frame start count mapped k at t f
      → edits_checked class alphabet frame start count mapped ≡ after_ok (walked class alphabet frame mapped k at t f) (λ r. after_read mapped r.1 r.0)
  unfolding walked
  walked_read start count zero at t f q h = sym (read_end class alphabet frame start count mapped zero at t f (omega arith) q h)
  walked_read start count (suc k) at t f q h =
      let e = edit_at class alphabet frame at in
      let more : 0 < suc k = omega arith in
      let p : suc k - 1 ≡ k = omega arith in
      let size = size_of alphabet in
      let wide = width_of class in
      by_answer (complete frame at (width_of class))
      (λ a. by_answer (edit_refusal mapped (size_of alphabet) t.walk.next e)
      (λ b.
      let on = check_on class alphabet frame mapped (suc k) at wide size t refl refl more e refl (sym a) (tallied t e) b refl in
      let flanks = flanking_on class alphabet frame start count mapped (suc k) at wide t (tallied t e) f (flank_past f t.walk.next e) e refl more refl b refl refl h in
      rw (a, b) (walked_read start count k (at + wide) (tallied t e) (flank_past f t.walk.next e) (rw p at (sym on ∙ q)) (rw p at flanks)))
      (λ m b.
      rw (a, b)
      (read_refused class alphabet frame start count mapped m (sym q ∙ check_out class alphabet frame mapped (suc k) at wide size t refl refl more e refl (sym a) m (sym b)))))
      (λ m a. rw a (read_refused class alphabet frame start count mapped m (sym q ∙ check_short class alphabet frame mapped (suc k) at wide size t refl refl more m (sym a))))

-- before the first edit
pub within_start : (mapped from n : ℕ) → from ≤ mapped → TallyWithin mapped n n (start_tally_at from)
within_start mapped from n h = record { next = h; run = omega arith; begun = inl refl; taken = omega arith; text = omega arith }

-- ---- what an accepted list of edits meets

-- nothing is refused: each edit is accepted where it stands, and the frame has them all
pub refusal_fine : (class alphabet : ℕ) (frame : List ℕ) (mapped next k at : ℕ) → edits_refusal class alphabet frame mapped next k at ≡ no_refusal
    → Sound mapped (size_of alphabet) next (edit_list_at class alphabet frame k at) × (at ≤ length frame → at + k * width_of class ≤ length frame)
unfolding edits_refusal Sound edit_list_at
refusal_fine class alphabet frame mapped next zero at q = (tt, λ h. omega arith)
refusal_fine class alphabet frame mapped next (suc k) at q =
    by_test (ends_within frame at (width_of class)) (λ a. refused_fine _ (simp a at q))
    (λ a. by_answer (edit_refusal mapped (size_of alphabet) next (edit_at class alphabet frame at))
    (λ b.
    let r = refusal_fine class alphabet frame mapped (next_offset (edit_at class alphabet frame at)) k (at + width_of class) (simp (a, b) at q) in
    let l : at + width_of class ≤ length frame = ltb-false (length frame) (at + width_of class) a in
    ((b, r.0), λ h. omega (arith, suc-mul k (width_of class), r.1 l)))
    (λ n b. refused_fine _ (simp (a, b) at q)))

-- where there is an edit, it begins in the frame
begin : (class alphabet : ℕ) (frame : List ℕ) (mapped next k at : ℕ) → edits_refusal class alphabet frame mapped next k at ≡ no_refusal → 0 < k → at ≤ length frame
unfolding edits_refusal
begin class alphabet frame mapped next zero at q h = absurd (omega arith)
begin class alphabet frame mapped next (suc k) at q h =
    by_test (ends_within frame at (width_of class)) (λ a. refused_fine _ (simp a at q))
    (λ a. omega (arith, ltb-false (length frame) (at + width_of class) a))

-- what `Ok (extent positions characters)` says
pub record IsFine (class alphabet : ℕ) (frame : List ℕ) (at count mapped positions characters : ℕ) : Type 0 where
  pub few : count ≤ most_edits
  pub short : mapped ≤ most_read
  pub begun : 0 < count → at ≤ length frame
  pub framed : at ≤ length frame → at + count * width_of class ≤ length frame
  pub sound : Sound mapped (size_of alphabet) 0 (edit_list_at class alphabet frame count at)
  pub flanks : all_flanked mapped (edit_list_at class alphabet frame count at) ≡ true
  pub taken : positions ≡ taken_from mapped 0 (edit_list_at class alphabet frame count at)
  pub text : characters ≡ length (ecigar_of alphabet mapped (edit_list_at class alphabet frame count at))

pub checked_fine : (class alphabet : ℕ) (frame : List ℕ) (at count mapped taken text : ℕ) → check_of class alphabet frame at count mapped ≡ Ok (extent taken text)
    → IsFine class alphabet frame at count mapped taken text
unfolding check_of edits_checked answered ecigar_of
checked_fine class alphabet frame at count mapped taken text q =
    by_test (ltb most_edits count) (λ a. never (simp a at q))
    (λ a. by_test (ltb most_read mapped) (λ b. never (simp (a, b) at q))
    (λ b. by_answer (edits_refusal class alphabet frame mapped 0 count at)
    (λ d. by_test (all_flanked mapped (edit_list_at class alphabet frame count at))
    (λ f.
    let p = ok_same (simp (a, b, d, f) at q) in
    let s = refusal_fine class alphabet frame mapped 0 count at d in
    record {
      few = ltb-false _ _ a;
      short = ltb-false _ _ b;
      begun = begin class alphabet frame mapped 0 count at d;
      framed = s.1;
      sound = s.0;
      flanks = f;
      taken = sym (ap (λ (x : Extent). x.taken) p);
      text = sym (ap (λ (x : Extent). x.text) p);
    })
    (λ f. never (simp (a, b, d, f) at q)))
    (λ n d. never (simp (a, b, d) at q))))
  where
    never : {P : Type 0} {refusal : Refusal} → Err refusal ≡ Ok (extent taken text) → P
    never e = accepted_refused _ _ (sym e)

    ok_same : {x y : Extent} → ◌≡◌ {A = OrRefused Extent} (Ok x) (Ok y) → x ≡ y
    ok_same e = cc

-- what is accepted where it stands, and stands in the frame, is not refused
sound_fine : (class alphabet : ℕ) (frame : List ℕ) (mapped next k at : ℕ) → at + k * width_of class ≤ length frame → Sound mapped (size_of alphabet) next (edit_list_at class alphabet frame k at)
    → edits_refusal class alphabet frame mapped next k at ≡ no_refusal
unfolding edits_refusal Sound edit_list_at
sound_fine class alphabet frame mapped next zero at h s = refl
sound_fine class alphabet frame mapped next (suc k) at h s =
    let wide = suc-mul k (width_of class) in
    rw (le-ltb (length frame) (at + width_of class) (omega arith), s.0)
    (sound_fine class alphabet frame mapped (next_offset (edit_at class alphabet frame at)) k (at + width_of class) (omega arith) s.1)

-- so each piece of an accepted read is accepted
pub piece_checked_lem : (class alphabet : ℕ) (frame : List ℕ) (from at count until : ℕ) → count ≤ most_edits → until ≤ most_read → from ≤ until
    → at + count * width_of class ≤ length frame
    → Sound until (size_of alphabet) from (edit_list_at class alphabet frame count at)
    → check_piece class alphabet frame from at count until
    ≡ Ok (extent (taken_from until from (edit_list_at class alphabet frame count at)) (length (print_all (operations_from alphabet until (set_out_at from) (edit_list_at class alphabet frame count at)))))
unfolding check_piece answered
piece_checked_lem class alphabet frame from at count until few short order framed sound =
    simp (le-ltb _ _ few, le-ltb _ _ short, le-ltb _ _ order, sound_fine class alphabet frame until from count at framed sound)

-- where there is an edit, the frame has them all
pub edits_inside : (class alphabet : ℕ) (frame : List ℕ) (at count mapped taken text : ℕ) → check_of class alphabet frame at count mapped ≡ Ok (extent taken text) → 0 < count → at + count * width_of class ≤ length frame
edits_inside class alphabet frame at count mapped taken text q h =
    let f = checked_fine class alphabet frame at count mapped taken text q in f.framed (f.begun h)

-- the place behind the edits fits
pub behind_fits : (class alphabet : ℕ) (frame : List ℕ) (at count mapped taken text most : ℕ) → check_of class alphabet frame at count mapped ≡ Ok (extent taken text)
    → at ≤ most → length frame ≤ most → at + count * width_of class ≤ most
behind_fits class alphabet frame at count mapped taken text most q h k =
    by_test (ltb 0 count)
    (λ t. omega (arith, edits_inside class alphabet frame at count mapped taken text q (ltb-true 0 count t)))
    (λ t. let z : count ≡ 0 = omega (arith, ltb-false 0 count t) in rw (z, zero-mul, add-zero) h)
