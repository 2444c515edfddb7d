-- The laws of flanked deletions: what is kept from edit to edit comes to the refusal of them all, and what a list meets that is not refused.
-- Assumes nothing.
use Prim.Native.Nat.{ℕ, zero, suc, ◌+◌, ◌-◌, ◌<◌, ◌≤◌}
use mathlib.Core.Path.{◌≡◌, refl, sym, ◌∙◌}
use mathlib.Core.Logic.{inl, inr, ⊎_elim}
use mathlib.Core.Bool.{Bool, true, false, cond, ◌&&◌, ◌||◌}
use mathlib.Core.List.{List, [], ◌∷◌}
use native.Mathlib.Omega.{arith}
use native.Mathlib.Nat.{sub-zero}
use borrow.Author.Tests.{ltb-true, ltb-false, eqb-true, eqb-false, eq-eqb, ne_eqb}
use lib.Dec.{ltb, eqb}
use Rattle.std.specs.Prelude.{Err}
use Rattle.refusal.specs.Answers.{no_refusal}
use Rattle.refusal.specs.declared.Refusal.TheVariants.{OffsetOut}
use Rattle.frame.proofs.Tests.{by_test, false_true}
use Rattle.edits.specs.Edits.{insertion, deletion, width_of, edit_list_at, next_offset, Sound}
use Rattle.edits.specs.Flanks.{inserted_at, some_base, flanked, each_deletion, all_flanked, DeletionAt}
use Rattle.edits.specs.Code.Runs.{substitutes_only}
use Rattle.edits.specs.Code.Flank.{past_base, flank_of, flank_past, open_end, flank_end, backed, flanked_from}
use Rattle.edits.specs.declared.edit.Edit.{Edit}
use Rattle.edits.specs.declared.flank.Flank.{Flank}
use Rattle.edits.specs.declared.flank.Flank.TheVariants.{Before, Based, Open, Bare}
use Rattle.edits.proofs.EditLaws.{substitution_kind, next_deletion, next_other, next_least, sound_tail, sound_accepted}
use Rattle.edits.proofs.PieceLaws.{sound_later}

-- ---- two tests

pub and_both : (a b : Bool) → (a && b) ≡ true → (a ≡ true) × (b ≡ true)
and_both true b q = (refl, q)
and_both false b q = false_true q

pub or_neither : (a b : Bool) → (a || b) ≡ false → (a ≡ false) × (b ≡ false)
or_neither true b q = false_true (sym q)
or_neither false b q = (refl, q)

and_twice : (a b : Bool) → (a && (a && b)) ≡ (a && b)
and_twice true b = refl
and_twice false b = refl

-- ---- which bases are inserted

-- an edit that does not insert the base at an offset changes nothing there
pub unseen : (e : Edit) (es : List Edit) (i : ℕ) → (e.kind ≡ insertion → e.offset ≡ i → ⊥) → inserted_at i (e ∷ es) ≡ inserted_at i es
unfolding inserted_at
unseen e es i h =
    by_test (eqb e.kind insertion) (λ k. rw (k, ne_eqb _ _ (h (eqb-true _ _ k))) refl) (λ k. rw k refl)

-- no base before the least offset is inserted
pub none_inserted : (mapped symbols next : ℕ) (es : List Edit) → Sound mapped symbols next es → (i : ℕ) → i < next → inserted_at i es ≡ false
unfolding inserted_at
none_inserted mapped symbols next [] s i h = refl
none_inserted mapped symbols next (e ∷ es) s i h =
    let a = sound_accepted mapped symbols next e es s in
    unseen e es i (λ k o. omega (arith, a.order))
    ∙ none_inserted mapped symbols (next_offset e) es (sound_tail mapped symbols next e es s) i (omega (arith, a.order, next_least e))

-- ---- some base

-- there is none among no bases
pub some_none : (es : List Edit) (from : ℕ) → some_base es from 0 ≡ false
unfolding some_base
some_none es from = refl

-- the first of them is one
pub some_first : (es : List Edit) (from n : ℕ) → inserted_at from es ≡ false → 0 < n → some_base es from n ≡ true
unfolding some_base
some_first es from zero q h = absurd (omega arith)
some_first es from (suc n) q h = rw q refl

-- or is not
some_next : (es : List Edit) (from n : ℕ) → inserted_at from es ≡ true → 0 < n → some_base es from n ≡ some_base es (from + 1) (n - 1)
unfolding some_base
some_next es from zero q h = absurd (omega arith)
some_next es from (suc n) q h = let p : suc n - 1 ≡ n = omega arith in rw (q, p) refl

-- an edit that inserts none of them changes nothing
some_unseen : (e : Edit) (es : List Edit) (from n : ℕ) → ((i : ℕ) → from ≤ i → e.kind ≡ insertion → e.offset ≡ i → ⊥) → some_base (e ∷ es) from n ≡ some_base es from n
unfolding some_base
some_unseen e es from zero h = refl
some_unseen e es from (suc n) h = rw (unseen e es from (h from (omega arith)), some_unseen e es (from + 1) n (λ i l. h i (omega arith))) refl

-- so one that stands before them
pub some_behind : (e : Edit) (es : List Edit) (from n : ℕ) → next_offset e ≤ from → some_base (e ∷ es) from n ≡ some_base es from n
some_behind e es from n h = some_unseen e es from n (λ i l k o. omega (arith, next_other e (λ d. omega arith)))

-- which base it is
pub some_base_lem : (es : List Edit) (from n : ℕ) → some_base es from n ≡ true → (i : ℕ) × ((from ≤ i) × ((i < from + n) × (inserted_at i es ≡ false)))
unfolding some_base
some_base_lem es from zero q = false_true q
some_base_lem es from (suc n) q =
    by_test (inserted_at from es)
    (λ t. let r = some_base_lem es (from + 1) n (rw t at q) in (r.0, (omega (arith, r.1.0), (omega (arith, r.1.1.0), r.1.1.1))))
    (λ t. (from, (omega arith, (omega arith, t))))

-- and any that is not inserted is one
pub some_of : (es : List Edit) (from n i : ℕ) → from ≤ i → i < from + n → inserted_at i es ≡ false → some_base es from n ≡ true
unfolding some_base
some_of es from zero i h l q = absurd (omega arith)
some_of es from (suc n) i h l q =
    by_test (inserted_at from es)
    (λ t. by_test (eqb from i)
    (λ z. false_true (sym q ∙ rw (← eqb-true from i z) t))
    (λ z. rw (t, some_of es (from + 1) n i (omega (arith, eqb-false from i z)) (omega arith) q) refl))
    (λ t. rw t refl)

-- ---- each deletion

module _ (f g : ℕ → Bool) where
  -- two tests that agree wherever a deletion may stand
  pub each_same : (mapped symbols next : ℕ) (es : List Edit) → Sound mapped symbols next es → ((o : ℕ) → next ≤ o → o ≤ mapped → f o ≡ g o) → each_deletion f es ≡ each_deletion g es
  unfolding each_deletion
  each_same mapped symbols next [] s h = refl
  each_same mapped symbols next (e ∷ es) s h =
      let a = sound_accepted mapped symbols next e es s in
      let rest = each_same mapped symbols (next_offset e) es (sound_tail mapped symbols next e es s) (λ o l. h o (omega (arith, a.order, next_least e))) in
      by_test (eqb e.kind deletion)
      (λ k. rw (k, rest, h e.offset a.order (omega (arith, a.inside, next_deletion e (eqb-true _ _ k)))) refl)
      (λ k. rw (k, rest) refl)

  -- that agree everywhere
  each_equal : (es : List Edit) → ((o : ℕ) → f o ≡ g o) → each_deletion f es ≡ each_deletion g es
  unfolding each_deletion
  each_equal [] h = refl
  each_equal (e ∷ es) h = rw (h e.offset, each_equal es h) refl

  -- a weaker one
  pub each_weaker : (es : List Edit) → ((o : ℕ) → f o ≡ true → g o ≡ true) → each_deletion f es ≡ true → each_deletion g es ≡ true
  unfolding each_deletion
  each_weaker [] h q = refl
  each_weaker (e ∷ es) h q =
      by_test (eqb e.kind deletion)
      (λ k.
      let b = and_both (f e.offset) (each_deletion f es) (rw k at q) in
      rw (k, h e.offset b.0, each_weaker es h b.1) refl)
      (λ k. rw (k, each_weaker es h (rw k at q)) refl)

-- of the first edit, and of those behind it
pub each_head : (f : ℕ → Bool) (e : Edit) (es : List Edit) → e.kind ≡ deletion → each_deletion f (e ∷ es) ≡ true → f e.offset ≡ true
unfolding each_deletion
each_head f e es k q = (and_both (f e.offset) (each_deletion f es) (rw (eq-eqb _ _ k) at q)).0

pub each_tail : (f : ℕ → Bool) (e : Edit) (es : List Edit) → each_deletion f (e ∷ es) ≡ true → each_deletion f es ≡ true
unfolding each_deletion
each_tail f e es q = (and_both (cond (eqb e.kind deletion) (f e.offset) true) (each_deletion f es) q).1

-- of one that stands somewhere among them
pub each_holds : (f : ℕ → Bool) (o : ℕ) (es : List Edit) → each_deletion f es ≡ true → DeletionAt o es → f o ≡ true
unfolding DeletionAt
each_holds f o [] q d = absurd d
each_holds f o (e ∷ es) q d =
    ⊎_elim (λ w. rw (← w.1) (each_head f e es w.0 q)) (λ w. each_holds f o es (each_tail f e es q) w) d

pub each_of : (f : ℕ → Bool) (es : List Edit) → ((o : ℕ) → DeletionAt o es → f o ≡ true) → each_deletion f es ≡ true
unfolding each_deletion DeletionAt
each_of f [] h = refl
each_of f (e ∷ es) h =
    let rest = each_of f es (λ o d. h o (inr d)) in
    by_test (eqb e.kind deletion) (λ k. rw (k, h e.offset (inl (eqb-true _ _ k, refl)), rest) refl) (λ k. rw (k, rest) refl)

-- no other read is refused: where each deletion has a base before it that is not inserted, and one from it on, all are flanked
pub flanked_of : (mapped : ℕ) (es : List Edit)
    → ((o : ℕ) → DeletionAt o es → ((i : ℕ) × ((i < o) × (inserted_at i es ≡ false))) × ((i : ℕ) × ((o ≤ i) × ((i < mapped) × (inserted_at i es ≡ false)))))
    → all_flanked mapped es ≡ true
flanked_of mapped es h =
    each_of (flanked mapped es) es
    (λ o d.
    let a = (h o d).0 in
    let b = (h o d).1 in
    simp (some_of es 0 o a.0 (omega arith) (omega (arith, a.1.0)) a.1.1, some_of es o (mapped - o) b.0 b.1.0 (omega (arith, b.1.0, b.1.1.0)) b.1.1.1))

-- where every edit is a substitution there is none
pub each_letters : (f : ℕ → Bool) (class alphabet : ℕ) (frame : List ℕ) (k at : ℕ) → substitutes_only class ≡ true → each_deletion f (edit_list_at class alphabet frame k at) ≡ true
unfolding edit_list_at each_deletion
each_letters f class alphabet frame zero at only = refl
each_letters f class alphabet frame (suc k) at only =
    rw (substitution_kind class alphabet frame at only, each_letters f class alphabet frame k (at + width_of class) only) refl

-- ---- from edit to edit

module _ (mapped symbols : ℕ) (e : Edit) (es : List Edit) where
  -- an edit has no say in what stands behind the deletions that follow it
  pub backed_tail : Sound mapped symbols (next_offset e) es → each_deletion (λ o. some_base (e ∷ es) o (mapped - o)) es ≡ backed mapped es
  backed_tail s = each_same _ _ mapped symbols (next_offset e) es s (λ o l m. some_behind e es o (mapped - o) l)

  -- the match before it
  on_match : (f : Flank) (next : ℕ) → Sound mapped symbols next (e ∷ es) → next < e.offset → flanked_from f mapped next (e ∷ es) ≡ flanked_from (past_base f) mapped e.offset (e ∷ es)
  unfolding flanked_from
  on_match Before next s h =
      let t = sound_later mapped symbols next e es s in
      each_same _ _ mapped symbols e.offset (e ∷ es) t
      (λ o l m. rw (some_first (e ∷ es) next (o - next) (none_inserted mapped symbols e.offset (e ∷ es) t next h) (omega arith)) refl)
  on_match Based next s h = refl
  on_match Open next s h =
      let t = sound_later mapped symbols next e es s in
      let a = sound_accepted mapped symbols next e es s in
      rw (some_first (e ∷ es) next (mapped - next) (none_inserted mapped symbols e.offset (e ∷ es) t next h) (omega (arith, a.inside, next_least e))) refl
  on_match Bare next s h = refl

  module _ (s : Sound mapped symbols e.offset (e ∷ es)) where
    tail : Sound mapped symbols (next_offset e) es
    tail = sound_tail mapped symbols e.offset e es s

    -- a deletion
    on_deletion : (f : Flank) → e.kind ≡ deletion → flanked_from f mapped e.offset (e ∷ es) ≡ flanked_from (flank_of f e.kind) mapped e.offset es
    unfolding flanked_from flank_of each_deletion some_base
    on_deletion Before k = let z : e.offset - e.offset ≡ 0 = omega arith in rw (eq-eqb _ _ k, z) refl
    on_deletion Based k = rw (eq-eqb _ _ k, backed_tail tail, some_behind e es e.offset (mapped - e.offset) (omega (arith, next_deletion e k))) refl
    on_deletion Open k =
        rw (eq-eqb _ _ k, backed_tail tail, some_behind e es e.offset (mapped - e.offset) (omega (arith, next_deletion e k)))
        (and_twice (some_base es e.offset (mapped - e.offset)) (backed mapped es))
    on_deletion Bare k = rw (eq-eqb _ _ k) refl

    -- an insertion
    inserted_here : e.kind ≡ insertion → inserted_at e.offset (e ∷ es) ≡ true
    unfolding inserted_at
    inserted_here k = rw (eq-eqb _ _ k, eq-eqb e.offset e.offset refl) refl

    pub past_inserted : e.kind ≡ insertion → (n : ℕ) → e.offset + 1 ≤ n → some_base (e ∷ es) e.offset (n - e.offset) ≡ some_base es (e.offset + 1) (n - (e.offset + 1))
    past_inserted k n h =
        let p : n - e.offset - 1 ≡ n - (e.offset + 1) = omega arith in
        some_next (e ∷ es) e.offset (n - e.offset) (inserted_here k) (omega arith)
        ∙ rw p (some_behind e es (e.offset + 1) (n - (e.offset + 1)) (omega (arith, next_other e (λ d. omega arith))))

    on_insertion : (f : Flank) → e.kind ≡ insertion → flanked_from f mapped e.offset (e ∷ es) ≡ flanked_from (flank_of f e.kind) mapped (e.offset + 1) es
    unfolding flanked_from flank_of each_deletion
    on_insertion Before k =
        let next = next_other e (λ d. omega arith) in
        rw (ne_eqb e.kind deletion (λ d. omega arith), eq-eqb _ _ k)
        (each_same _ _ mapped symbols (next_offset e) es tail (λ o l m. rw (past_inserted k o (omega arith), some_behind e es o (mapped - o) l) refl))
    on_insertion Based k = rw (ne_eqb e.kind deletion (λ d. omega arith), eq-eqb _ _ k) (backed_tail tail)
    on_insertion Open k =
        let next = next_other e (λ d. omega arith) in
        let a = sound_accepted mapped symbols e.offset e es s in
        rw (ne_eqb e.kind deletion (λ d. omega arith), eq-eqb _ _ k, past_inserted k mapped (omega (arith, a.inside)), backed_tail tail) refl
    on_insertion Bare k = rw (ne_eqb e.kind deletion (λ d. omega arith), eq-eqb _ _ k) refl

    -- a substitution
    module _ (d : e.kind ≡ deletion → ⊥) (i : e.kind ≡ insertion → ⊥) where
      base_here : inserted_at e.offset (e ∷ es) ≡ false
      base_here = unseen e es e.offset (λ k o. i k) ∙ none_inserted mapped symbols (next_offset e) es tail e.offset (omega (arith, next_other e d))

      on_substitution : (f : Flank) → flanked_from f mapped e.offset (e ∷ es) ≡ flanked_from (flank_of f e.kind) mapped (e.offset + 1) es
      unfolding flanked_from flank_of each_deletion
      on_substitution Before =
          let next = next_other e d in
          rw (ne_eqb _ _ d, ne_eqb _ _ i)
          (each_same _ _ mapped symbols (next_offset e) es tail
          (λ o l m. rw (some_first (e ∷ es) e.offset (o - e.offset) base_here (omega arith), some_behind e es o (mapped - o) l) refl))
      on_substitution Based = rw (ne_eqb _ _ d, ne_eqb _ _ i) (backed_tail tail)
      on_substitution Open =
          let next = next_other e d in
          let a = sound_accepted mapped symbols e.offset e es s in
          rw (ne_eqb _ _ d, ne_eqb _ _ i, some_first (e ∷ es) e.offset (mapped - e.offset) base_here (omega (arith, a.inside)), backed_tail tail) refl
      on_substitution Bare = rw (ne_eqb _ _ d, ne_eqb _ _ i) refl

    on_edit : (f : Flank) → flanked_from f mapped e.offset (e ∷ es) ≡ flanked_from (flank_of f e.kind) mapped (next_offset e) es
    on_edit f =
        by_test (eqb e.kind deletion)
        (λ t. let k = eqb-true e.kind deletion t in rw (next_deletion e k) (on_deletion f k))
        (λ t.
        let d = eqb-false e.kind deletion t in
        rw (next_other e d)
        (by_test (eqb e.kind insertion) (λ u. on_insertion f (eqb-true _ _ u)) (λ u. on_substitution d (eqb-false _ _ u) f)))

  -- an edit, with the match before it
  pub flank_on : (f : Flank) (next : ℕ) → Sound mapped symbols next (e ∷ es) → flanked_from f mapped next (e ∷ es) ≡ flanked_from (flank_past f next e) mapped (next_offset e) es
  unfolding flank_past
  flank_on f next s =
      let t = sound_later mapped symbols next e es s in
      by_test (ltb next e.offset)
      (λ h. on_match f next s (ltb-true _ _ h) ∙ on_edit t (past_base f) ∙ rw h refl)
      (λ h.
      let a = sound_accepted mapped symbols next e es s in
      let q : next ≡ e.offset = omega (arith, a.order, ltb-false next e.offset h) in
      rw (h, q) (on_edit t f))

-- before the first edit
pub flank_start : (mapped : ℕ) (es : List Edit) → flanked_from Before mapped 0 es ≡ all_flanked mapped es
unfolding flanked_from
flank_start mapped es = each_equal _ _ es (λ o. rw (sub-zero o) refl)

-- behind the last
pub flank_end_lem : (f : Flank) (next mapped : ℕ) → flank_end f next mapped ≡ cond (flanked_from f mapped next []) no_refusal (Err OffsetOut)
unfolding flanked_from each_deletion open_end inserted_at some_base
flank_end_lem Before next mapped = refl
flank_end_lem Based next mapped = refl
flank_end_lem Open next mapped =
    by_test (ltb next mapped)
    (λ h. let l = ltb-true next mapped h in rw (h, some_first [] next (mapped - next) refl (omega arith)) refl)
    (λ h. let z : mapped - next ≡ 0 = omega (arith, ltb-false next mapped h) in rw (h, z) refl)
flank_end_lem Bare next mapped = refl
