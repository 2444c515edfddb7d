-- The laws of flanked deletions over the pieces of a read: what the whole read's edits say of each piece's own.
-- Assumes nothing.
use Prim.Native.Nat.{ℕ, zero, suc, ◌+◌, ◌-◌, ◌<◌, ◌≤◌}
use mathlib.Core.Path.{◌≡◌, refl, sym, ◌∙◌}
use mathlib.Core.Bool.{Bool, true, false, cond, ◌&&◌}
use mathlib.Core.List.{List, [], ◌∷◌}
use native.Mathlib.Omega.{arith}
use borrow.Author.Tests.{le-leb, ltb-false, eqb-true, eqb-false}
use lib.Dec.{ltb, leb, eqb}
use lib.ListN.{length}
use Rattle.frame.proofs.Tests.{by_test, false_true}
use Rattle.edits.specs.Edits.{insertion, deletion, next_offset, Sound}
use Rattle.edits.specs.Flanks.{inserted_at, some_base, flanked, each_deletion, all_flanked}
use Rattle.edits.specs.Pieces.{SignedPosition, edits_before, edits_behind, Piece, pieces_from, EachPiece, nil, cons, OfFirst, OfLast}
use Rattle.edits.specs.Code.Flank.{backed}
use Rattle.edits.specs.declared.edit.Edit.{Edit}
use Rattle.edits.proofs.EditLaws.{sound_tail}
use Rattle.edits.proofs.PieceLaws.{sound_later, sound_before, sound_behind}
use Rattle.edits.proofs.FlankLaws.{and_both, or_neither, none_inserted, some_none, each_same, each_weaker, each_tail, backed_tail}

-- ---- a part of the edits

module _ (until : ℕ) where
  -- what no edit inserts, none of some edits does
  before_uninserted : (i : ℕ) (es : List Edit) → inserted_at i es ≡ false → inserted_at i (edits_before until es) ≡ false
  unfolding inserted_at edits_before
  before_uninserted i [] q = refl
  before_uninserted i (e ∷ es) q =
      let n = or_neither (eqb e.kind insertion && eqb e.offset i) (inserted_at i es) q in
      by_test (ltb e.offset until) (λ t. rw (t, n.0) (before_uninserted i es n.1)) (λ t. rw t refl)

  behind_uninserted : (i : ℕ) (es : List Edit) → inserted_at i es ≡ false → inserted_at i (edits_behind until es) ≡ false
  unfolding inserted_at edits_behind
  behind_uninserted i [] q = refl
  behind_uninserted i (e ∷ es) q =
      let n = or_neither (eqb e.kind insertion && eqb e.offset i) (inserted_at i es) q in
      by_test (ltb e.offset until) (λ t. rw t (behind_uninserted i es n.1)) (λ t. rw t q)

  -- what holds of each deletion holds of each of some
  each_before : (f : ℕ → Bool) (es : List Edit) → each_deletion f es ≡ true → each_deletion f (edits_before until es) ≡ true
  unfolding each_deletion edits_before
  each_before f [] q = refl
  each_before f (e ∷ es) q =
      let b = and_both (cond (eqb e.kind deletion) (f e.offset) true) (each_deletion f es) q in
      by_test (ltb e.offset until) (λ t. rw (t, b.0, each_before f es b.1) refl) (λ t. rw t refl)

  each_behind : (f : ℕ → Bool) (es : List Edit) → each_deletion f es ≡ true → each_deletion f (edits_behind until es) ≡ true
  unfolding edits_behind
  each_behind f [] q = q
  each_behind f (e ∷ es) q = by_test (ltb e.offset until) (λ t. rw t (each_behind f es (each_tail f e es q))) (λ t. rw t q)

  -- those before an offset stand before it
  before_below : (es : List Edit) → each_deletion (λ o. ltb o until) (edits_before until es) ≡ true
  unfolding each_deletion edits_before
  before_below [] = refl
  before_below (e ∷ es) =
      by_test (ltb e.offset until)
      (λ t. rw t (by_test (eqb e.kind deletion) (λ k. rw (k, t, before_below es) refl) (λ k. rw (k, before_below es) refl)))
      (λ t. rw t refl)

  module _ (mapped symbols : ℕ) where
    -- before that offset they insert what all of them insert
    before_inserted : (next i : ℕ) (es : List Edit) → Sound mapped symbols next es → i < until → inserted_at i (edits_before until es) ≡ inserted_at i es
    unfolding inserted_at edits_before
    before_inserted next i [] s h = refl
    before_inserted next i (e ∷ es) s h =
        by_test (ltb e.offset until)
        (λ t. rw (t, before_inserted (next_offset e) i es (sound_tail mapped symbols next e es s) h) refl)
        (λ t. rw t (sym (none_inserted mapped symbols e.offset (e ∷ es) (sound_later mapped symbols next e es s) i (omega (arith, ltb-false e.offset until t)))))

    some_before : (next : ℕ) (es : List Edit) → Sound mapped symbols next es → (from n : ℕ) → from + n ≤ until → some_base (edits_before until es) from n ≡ some_base es from n
    unfolding some_base
    some_before next es s from zero h = refl
    some_before next es s from (suc n) h = rw (before_inserted next from es s (omega arith), some_before next es s (from + 1) n (omega arith)) refl

    -- the base behind each deletion that is left is a base of the edits that are left
    backed_behind : (next : ℕ) (es : List Edit) → Sound mapped symbols next es → backed mapped es ≡ true → backed mapped (edits_behind until es) ≡ true
    unfolding edits_behind
    backed_behind next [] s q = q
    backed_behind next (e ∷ es) s q =
        let t = sound_tail mapped symbols next e es s in
        by_test (ltb e.offset until)
        (λ b. rw b (backed_behind (next_offset e) es t (sym (backed_tail mapped symbols e es t) ∙ each_tail _ e es q)))
        (λ b. rw b q)

-- ---- the bases before each deletion

-- each deletion has a base before it, from an offset on
abbrev pub fronted : (next : ℕ) → List Edit → Bool
fronted next es = each_deletion (λ o. some_base es next (o - next)) es

fronted_before : (until mapped symbols next : ℕ) (es : List Edit) → Sound mapped symbols next es → fronted next es ≡ true → next ≤ until → fronted next (edits_before until es) ≡ true
fronted_before until mapped symbols next es s q h =
    each_same _ _ until symbols next (edits_before until es) (sound_before mapped symbols until next es s)
    (λ o l m. some_before until mapped symbols next es s next (o - next) (omega arith))
    ∙ each_before until _ es q

-- ---- what a flanked read meets

-- a base before each deletion and one behind it, so that none stands at offset 0 or at the mapped length
module _ (mapped : ℕ) (es : List Edit) (q : all_flanked mapped es ≡ true) where
  before : (o : ℕ) → flanked mapped es o ≡ true → some_base es 0 o ≡ true
  before o h = (and_both (some_base es 0 o) (some_base es o (mapped - o)) h).0

  behind : (o : ℕ) → flanked mapped es o ≡ true → some_base es o (mapped - o) ≡ true
  behind o h = (and_both (some_base es 0 o) (some_base es o (mapped - o)) h).1

  pub flanked_front : fronted 0 es ≡ true
  flanked_front = each_weaker _ _ es (λ o h. let z : o - 0 ≡ o = omega arith in rw z (before o h)) q

  pub flanked_back : backed mapped es ≡ true
  flanked_back = each_weaker _ _ es behind q

  pub flanked_least : each_deletion (λ o. leb 1 o) es ≡ true
  flanked_least =
      each_weaker _ _ es
      (λ o h. by_test (eqb o 0) (λ z. let n = eqb-true o 0 z in false_true (sym (some_none es 0) ∙ rw n at (before o h))) (λ z. let n = eqb-false o 0 z in le-leb 1 o (omega arith))) q

  pub flanked_below : each_deletion (λ o. ltb o mapped) es ≡ true
  flanked_below =
      each_weaker _ _ es
      (λ o h. by_test (ltb o mapped) (λ t. t)
      (λ t. let z : mapped - o ≡ 0 = omega (arith, ltb-false o mapped t) in false_true (sym (some_none es o) ∙ rw z at (behind o h)))) q

-- ---- piece by piece

-- a base that no edit inserts is inserted in no piece
pub pieces_uninserted : (mapped start i : ℕ) (es : List Edit) (lengths : List ℕ) (positions : List SignedPosition) → inserted_at i es ≡ false
    → EachPiece (λ (p : Piece). inserted_at i p.edits ≡ false) (pieces_from mapped start es lengths positions)
unfolding pieces_from
pieces_uninserted mapped start i es [] ps q = nil
pieces_uninserted mapped start i es (n ∷ ns) [] q = nil
pieces_uninserted mapped start i es (n ∷ []) (p ∷ ps) q = cons (record { at = p; start = start; until = mapped; edits = es }) q nil
pieces_uninserted mapped start i es (n ∷ m ∷ ns) (p ∷ ps) q =
    cons (record { at = p; start = start; until = start + n; edits = edits_before (start + n) es }) (before_uninserted (start + n) i es q)
    (pieces_uninserted mapped (start + n) i (edits_behind (start + n) es) (m ∷ ns) ps (behind_uninserted (start + n) i es q))

-- each deletion of a piece stands before its end
abbrev pub DeletedBelow : Piece → Type 0
DeletedBelow p = each_deletion (λ o. ltb o p.until) p.edits ≡ true

pub pieces_below : (mapped start : ℕ) (es : List Edit) (lengths : List ℕ) (positions : List SignedPosition) → each_deletion (λ o. ltb o mapped) es ≡ true
    → EachPiece DeletedBelow (pieces_from mapped start es lengths positions)
unfolding pieces_from
pieces_below mapped start es [] ps q = nil
pieces_below mapped start es (n ∷ ns) [] q = nil
pieces_below mapped start es (n ∷ []) (p ∷ ps) q = cons (record { at = p; start = start; until = mapped; edits = es }) q nil
pieces_below mapped start es (n ∷ m ∷ ns) (p ∷ ps) q =
    cons (record { at = p; start = start; until = start + n; edits = edits_before (start + n) es }) (before_below (start + n) es)
    (pieces_below mapped (start + n) (edits_behind (start + n) es) (m ∷ ns) ps (each_behind (start + n) _ es q))

-- no deletion of the first piece comes before its first base
pub first_least : (mapped start : ℕ) (es : List Edit) (lengths : List ℕ) (positions : List SignedPosition) → each_deletion (λ o. leb 1 o) es ≡ true
    → OfFirst (λ (p : Piece). each_deletion (λ o. leb 1 o) p.edits ≡ true) (pieces_from mapped start es lengths positions)
unfolding pieces_from
first_least mapped start es [] ps q = tt
first_least mapped start es (n ∷ ns) [] q = tt
first_least mapped start es (n ∷ []) (p ∷ ps) q = q
first_least mapped start es (n ∷ m ∷ ns) (p ∷ ps) q = each_before (start + n) _ es q

pub first_fronted : (mapped symbols start : ℕ) (es : List Edit) (lengths : List ℕ) (positions : List SignedPosition) → Sound mapped symbols start es → fronted start es ≡ true
    → OfFirst (λ (p : Piece). fronted p.start p.edits ≡ true) (pieces_from mapped start es lengths positions)
unfolding pieces_from
first_fronted mapped symbols start es [] ps s q = tt
first_fronted mapped symbols start es (n ∷ ns) [] s q = tt
first_fronted mapped symbols start es (n ∷ []) (p ∷ ps) s q = q
first_fronted mapped symbols start es (n ∷ m ∷ ns) (p ∷ ps) s q = fronted_before (start + n) mapped symbols start es s q (omega arith)

-- each deletion of the last piece has a base behind it, in the piece
pub last_backed : (mapped symbols start : ℕ) (es : List Edit) (lengths : List ℕ) (positions : List SignedPosition) → length positions ≡ length lengths → Sound mapped symbols start es → backed mapped es ≡ true
    → OfLast (λ (p : Piece). backed p.until p.edits ≡ true) (pieces_from mapped start es lengths positions)
unfolding pieces_from
last_backed mapped symbols start es [] ps k s q = tt
last_backed mapped symbols start es (n ∷ ns) [] k s q = tt
last_backed mapped symbols start es (n ∷ []) (p ∷ ps) k s q = q
last_backed mapped symbols start es (n ∷ m ∷ ns) (p ∷ []) k s q = absurd (omega arith)
last_backed mapped symbols start es (n ∷ m ∷ []) (p ∷ o ∷ ps) k s q = backed_behind (start + n) mapped symbols start es s q
last_backed mapped symbols start es (n ∷ m ∷ l ∷ ns) (p ∷ o ∷ ps) k s q =
    last_backed mapped symbols (start + n) (edits_behind (start + n) es) (m ∷ l ∷ ns) (o ∷ ps) (omega arith) (sound_behind mapped symbols (start + n) start es s) (backed_behind (start + n) mapped symbols start es s q)
