-- The laws of an accepted edit list: how many bases it brings and how far both pointers go, where each base comes from, and what refusal 10 of the reference says.
-- Assumes nothing.
use Prim.Native.Nat.{ℕ, zero, suc, ◌+◌, ◌-◌, ◌<◌, ◌≤◌}
use mathlib.Core.Path.{◌≡◌, refl, ap, ◌∙◌}
use mathlib.Core.Logic.{◌⊎◌, inl, inr, ⊎_elim}
use mathlib.Core.Bool.{true, cond}
use mathlib.Core.List.{List, [], ◌∷◌, ◌++◌}
use native.Mathlib.Omega.{arith}
use native.Mathlib.Nat.{add-zero}
use borrow.Author.Tests.{ltb-true, ltb-false, eqb-true, eqb-false}
use lib.Dec.{ltb, eqb}
use lib.ListN.{length, get_or, length-append, get_or-append}
use lib.Seq.{get_or-append-add}
use Rattle.std.specs.Prelude.{⊤, Ok, Err}
use Rattle.std.specs.Result.{is_ok}
use Rattle.refusal.specs.Answers.{OrRefused, no_refusal, checked}
use Rattle.refusal.proofs.AnswerLaws.{past_checked}
use Rattle.frame.proofs.HexLaws.{by_test}
use Rattle.frame.proofs.Tests.{false_true}
use Rattle.alphabet.specs.Table35.{size_of, letter_of}
use Rattle.edits.specs.declared.edit.Edit.{Edit}
use Rattle.edits.specs.Edits.{insertion, deletion, next_offset, Sound, taken_from}
use Rattle.edits.proofs.EditLaws.{sound_head, sound_tail, next_deletion, next_other, next_least, next_most, symbol_inside, sound_accepted}
use Rattle.bases.specs.declared.places.Places.{Places}
use Rattle.bases.specs.Reference.{base_at, base_refusal, matched_bases, match_refusal}
use Rattle.bases.specs.Bases.{R, r, past_edit, edit_bases, bases_from, refusal_from}
use Rattle.bases.specs.Alignment.{UnderMatch, OfEdit}
use Rattle.bases.proofs.ReferenceLaws.{length_matched, match_add}
use Rattle.bases.proofs.BasesLaws.{past_read, past_reference, edit_none, edit_letter}

-- ---- an edit's bases, with the match before it

module _ (alphabet : ℕ) (reference : List ℕ) (first : ℕ) (p : Places) (e : Edit) (h : r p ≤ e.offset) where
  pub length_edit : length (matched_bases alphabet reference first (R p) (e.offset - r p) ++ edit_bases alphabet e) ≡ next_offset e - r p
  length_edit =
      by_test (eqb e.kind deletion)
      (λ t. let k = eqb-true e.kind deletion t in
      rw (length-append, length_matched, edit_none alphabet e k, next_deletion e k) (omega arith))
      (λ t. let k = eqb-false e.kind deletion t in
      rw (length-append, length_matched, edit_letter alphabet e k refl refl, next_other e k) (omega arith))

-- ---- the length of what the edits bring

module _ (alphabet : ℕ) (reference : List ℕ) (first mapped : ℕ) where
  pub length_bases_from : (p : Places) (es : List Edit) → Sound mapped (size_of alphabet) (r p) es → r p ≤ mapped → length (bases_from alphabet reference first mapped p es) ≡ mapped - r p
  unfolding bases_from
  length_bases_from p [] s h = length_matched alphabet reference first (R p) (mapped - r p)
  length_bases_from p (e ∷ es) s h =
      let a = sound_accepted mapped (size_of alphabet) (r p) e es s in
      let q = past_read e p in
      let i = length_bases_from (past_edit e p) es (rw q (sound_tail mapped (size_of alphabet) (r p) e es s)) (omega (arith, a.inside)) in
      rw (length-append, length_edit alphabet reference first p e a.order, i, q) (omega (arith, a.inside, a.order, next_least e))

-- ---- a place in one list and then another

pub get_d_back : (xs ys : List ℕ) (k : ℕ) → length xs ≤ k → get_or (xs ++ ys) k 0 ≡ get_or ys (k - length xs) 0
get_d_back xs ys k h = let e : k ≡ length xs + (k - length xs) = omega arith in ap (λ (n : ℕ). get_or (xs ++ ys) n 0) e ∙ get_or-append-add xs ys (k - length xs) 0

pub get_d_matched : (alphabet : ℕ) (reference : List ℕ) (first position n k : ℕ) → k < n → get_or (matched_bases alphabet reference first position n) k 0 ≡ base_at alphabet reference first (position + k)
unfolding matched_bases
get_d_matched alphabet reference first position zero k h = absurd (omega arith)
get_d_matched alphabet reference first position (suc n) zero h = rw (add-zero position)
get_d_matched alphabet reference first position (suc n) (suc k) h =
    let e : position + suc k ≡ position + 1 + k = omega arith in
    rw e (get_d_matched alphabet reference first (position + 1) n k (omega arith))

-- ---- where each base comes from

pub under_least : (mapped symbols : ℕ) (p : Places) (es : List Edit) (i position : ℕ) → Sound mapped symbols (r p) es → UnderMatch mapped p es i position → r p ≤ i
unfolding UnderMatch
under_least mapped symbols p [] i position s u = u.from
under_least mapped symbols p (e ∷ es) i position s u =
    ⊎_elim (λ w. w.from)
    (λ w.
    let a = sound_accepted mapped symbols (r p) e es s in
    let q = past_read e p in
    let l = under_least mapped symbols (past_edit e p) es i position (rw q (sound_tail mapped symbols (r p) e es s)) w in
    omega (arith, a.order, next_least e))
    u

pub edit_least : (mapped symbols next : ℕ) (es : List Edit) (i : ℕ) (d : Edit) → Sound mapped symbols next es → OfEdit es i d → next ≤ i
unfolding OfEdit
edit_least mapped symbols next [] i d s u = absurd u
edit_least mapped symbols next (e ∷ es) i d s u =
    let a = sound_accepted mapped symbols next e es s in
    ⊎_elim (λ w. omega (arith, a.order, w.1.1))
    (λ w. omega (arith, a.order, next_least e, edit_least mapped symbols (next_offset e) es i d (sound_tail mapped symbols next e es s) w))
    u

-- and it is one of the mapped bases
pub under_most : (mapped symbols : ℕ) (p : Places) (es : List Edit) (i position : ℕ) → Sound mapped symbols (r p) es → UnderMatch mapped p es i position → i < mapped
unfolding UnderMatch
under_most mapped symbols p [] i position s u = u.until
under_most mapped symbols p (e ∷ es) i position s u =
    let a = sound_accepted mapped symbols (r p) e es s in
    ⊎_elim (λ w. omega (arith, w.until, a.inside, next_least e))
    (λ w. under_most mapped symbols (past_edit e p) es i position (rw (past_read e p) (sound_tail mapped symbols (r p) e es s)) w)
    u

pub edit_below : (mapped symbols next : ℕ) (es : List Edit) (i : ℕ) (d : Edit) → Sound mapped symbols next es → OfEdit es i d → i < mapped
unfolding OfEdit
edit_below mapped symbols next [] i d s u = absurd u
edit_below mapped symbols next (e ∷ es) i d s u =
    let a = sound_accepted mapped symbols next e es s in
    ⊎_elim (λ w. omega (arith, a.inside, next_other e w.1.0, w.1.1))
    (λ w. edit_below mapped symbols (next_offset e) es i d (sound_tail mapped symbols next e es s) w)
    u

-- its position is one of those that the edits take
pub under_place : (mapped : ℕ) (p : Places) (es : List Edit) (i position : ℕ) → UnderMatch mapped p es i position → (R p ≤ position) × (position < R p + taken_from mapped (r p) es)
unfolding UnderMatch taken_from
under_place mapped p [] i position u = (omega (arith, u.at), omega (arith, u.from, u.until, u.at))
under_place mapped p (e ∷ es) i position u =
    ⊎_elim (λ w. (omega (arith, w.at), omega (arith, w.from, w.until, w.at)))
    (λ w.
    let l = rw (past_read e p, past_reference e p) at (under_place mapped (past_edit e p) es i position w) in
    (omega (arith, l.0), omega (arith, l.1)))
    u

module _ (alphabet : ℕ) (reference : List ℕ) (first mapped : ℕ) where
  -- what comes behind an edit is what comes behind it in the bases
  past_at : (p : Places) (e : Edit) (es : List Edit) (i : ℕ) → r p ≤ e.offset → next_offset e ≤ i
      → get_or (bases_from alphabet reference first mapped p (e ∷ es)) (i - r p) 0 ≡ get_or (bases_from alphabet reference first mapped (past_edit e p) es) (i - r (past_edit e p)) 0
  unfolding bases_from
  past_at p e es i h l =
      let n = length_edit alphabet reference first p e h in
      let q = past_read e p in
      let k : i - r p - (next_offset e - r p) ≡ i - next_offset e = omega (arith, next_least e) in
      get_d_back (matched_bases alphabet reference first (R p) (e.offset - r p) ++ edit_bases alphabet e) (bases_from alphabet reference first mapped (past_edit e p) es) (i - r p) (omega (arith, next_least e))
      ∙ rw (n, q, k)

  pub match_at : (p : Places) (es : List Edit) (i position : ℕ) → Sound mapped (size_of alphabet) (r p) es → UnderMatch mapped p es i position
      → get_or (bases_from alphabet reference first mapped p es) (i - r p) 0 ≡ base_at alphabet reference first position
  unfolding bases_from UnderMatch
  match_at p [] i position s u = rw u.at (get_d_matched alphabet reference first (R p) (mapped - r p) (i - r p) (omega (arith, u.from, u.until)))
  match_at p (e ∷ es) i position s u =
      let a = sound_accepted mapped (size_of alphabet) (r p) e es s in
      let t = rw (← past_read e p) at (sound_tail mapped (size_of alphabet) (r p) e es s) in
      ⊎_elim
      (λ w.
      let n = length_matched alphabet reference first (R p) (e.offset - r p) in
      let m = matched_bases alphabet reference first (R p) (e.offset - r p) in
      get_or-append (m ++ edit_bases alphabet e) (bases_from alphabet reference first mapped (past_edit e p) es) 0 (i - r p) (omega (arith, w.from, w.until, length-append m (edit_bases alphabet e)))
      ∙ get_or-append m (edit_bases alphabet e) 0 (i - r p) (omega (arith, w.from, w.until))
      ∙ rw w.at (get_d_matched alphabet reference first (R p) (e.offset - r p) (i - r p) (omega (arith, w.from, w.until))))
      (λ w.
      past_at p e es i a.order (omega (arith, past_read e p, under_least mapped (size_of alphabet) (past_edit e p) es i position t w))
      ∙ match_at (past_edit e p) es i position t w)
      u

  pub edit_at_lem : (p : Places) (es : List Edit) (i : ℕ) (d : Edit) → Sound mapped (size_of alphabet) (r p) es → OfEdit es i d
      → get_or (bases_from alphabet reference first mapped p es) (i - r p) 0 ≡ letter_of alphabet d.symbol
  unfolding bases_from OfEdit
  edit_at_lem p [] i d s u = absurd u
  edit_at_lem p (e ∷ es) i d s u =
      let a = sound_accepted mapped (size_of alphabet) (r p) e es s in
      let t = rw (← past_read e p) at (sound_tail mapped (size_of alphabet) (r p) e es s) in
      ⊎_elim
      (λ w.
      let m = matched_bases alphabet reference first (R p) (e.offset - r p) in
      let n = length_matched alphabet reference first (R p) (e.offset - r p) in
      let l = edit_letter alphabet e w.1.0 refl refl in
      let g = length-append m (letter_of alphabet e.symbol ∷ []) in
      let k : i - r p - length m ≡ 0 = omega (arith, a.order, w.1.1) in
      rw l
      (get_or-append (m ++ (letter_of alphabet e.symbol ∷ [])) (bases_from alphabet reference first mapped (past_edit e p) es) 0 (i - r p) (omega (arith, a.order, w.1.1))
      ∙ get_d_back m (letter_of alphabet e.symbol ∷ []) (i - r p) (omega (arith, a.order, w.1.1))
      ∙ rw (k, w.0)))
      (λ w.
      past_at p e es i a.order (edit_least mapped (size_of alphabet) (next_offset e) es i d (sound_tail mapped (size_of alphabet) (r p) e es s) w)
      ∙ edit_at_lem (past_edit e p) es i d t w)
      u

-- every mapped base comes from a match or from an edit
pub from_somewhere : (mapped symbols : ℕ) (p : Places) (es : List Edit) (i : ℕ) → Sound mapped symbols (r p) es → r p ≤ i → i < mapped
    → ((position : ℕ) × UnderMatch mapped p es i position) ⊎ ((d : Edit) × OfEdit es i d)
unfolding UnderMatch OfEdit
from_somewhere mapped symbols p [] i s h l = inl (R p + (i - r p), record { from = h; until = l; at = refl })
from_somewhere mapped symbols p (e ∷ es) i s h l =
    let t = rw (← past_read e p) at (sound_tail mapped symbols (r p) e es s) in
    by_test (ltb i e.offset)
    (λ b. inl (R p + (i - r p), inl (record { from = h; until = ltb-true i e.offset b; at = refl })))
    (λ b.
    let o = ltb-false i e.offset b in
    by_test (ltb i (next_offset e))
    (λ c. inr (e, inl (refl, (λ k. omega (arith, ltb-true i (next_offset e) c, next_deletion e k), omega (arith, ltb-true i (next_offset e) c, next_most e)))))
    (λ c.
    ⊎_elim (λ w. inl (w.0, inr w.1)) (λ w. inr (w.0, inr w.1))
    (from_somewhere mapped symbols (past_edit e p) es i t (omega (arith, past_read e p, ltb-false i (next_offset e) c)) l)))

-- ---- refusal 10 of the reference

-- a check that accepts says no more
pub is_fine : (x : OrRefused ⊤) → is_ok x ≡ true → x ≡ no_refusal
is_fine (Ok t) q = refl
is_fine (Err refusal) q = false_true q

first_left : (a b : OrRefused ⊤) → checked a b ≡ no_refusal → a ≡ no_refusal
first_left a b z = (past_checked a b tt z).0

first_right : (a b : OrRefused ⊤) → checked a b ≡ no_refusal → b ≡ no_refusal
first_right a b z = (past_checked a b tt z).1

module _ (alphabet : ℕ) (reference : List ℕ) (first : ℕ) where
  match_fine : (position n k : ℕ) → match_refusal alphabet reference first position n ≡ no_refusal → k < n → base_refusal alphabet reference first (position + k) ≡ no_refusal
  unfolding match_refusal
  match_fine position zero k z h = absurd (omega arith)
  match_fine position (suc n) zero z h = rw (add-zero position) (first_left _ _ z)
  match_fine position (suc n) (suc k) z h =
      let e : position + suc k ≡ position + 1 + k = omega arith in
      rw e (match_fine (position + 1) n k (first_right (base_refusal alphabet reference first position) _ z) (omega arith))

module _ (alphabet : ℕ) (reference : List ℕ) (first mapped : ℕ) where
  -- where the reference is not refused, no base under a match is
  pub under_fine : (p : Places) (es : List Edit) (i position : ℕ) → refusal_from alphabet reference first mapped p es ≡ no_refusal → UnderMatch mapped p es i position → base_refusal alphabet reference first position ≡ no_refusal
  unfolding refusal_from UnderMatch
  under_fine p [] i position z u = rw u.at (match_fine alphabet reference first (R p) (mapped - r p) (i - r p) z (omega (arith, u.from, u.until)))
  under_fine p (e ∷ es) i position z u =
      ⊎_elim
      (λ w. rw w.at (match_fine alphabet reference first (R p) (e.offset - r p) (i - r p) (first_left (match_refusal alphabet reference first (R p) (e.offset - r p)) (refusal_from alphabet reference first mapped (past_edit e p) es) z) (omega (arith, w.from, w.until))))
      (λ w. under_fine (past_edit e p) es i position (first_right (match_refusal alphabet reference first (R p) (e.offset - r p)) (refusal_from alphabet reference first mapped (past_edit e p) es) z) w)
      u

  -- where no position that the edits take is refused, none under a match is
  pub taken_fine : (p : Places) (es : List Edit) → match_refusal alphabet reference first (R p) (taken_from mapped (r p) es) ≡ no_refusal → refusal_from alphabet reference first mapped p es ≡ no_refusal
  unfolding refusal_from taken_from
  taken_fine p [] z = z
  taken_fine p (e ∷ es) z =
      let n = e.offset - r p in
      let k : ℕ = cond (eqb e.kind insertion) 0 1 in
      let whole = rw match_add at z in
      let before = rw match_add at (first_left (match_refusal alphabet reference first (R p) (n + k)) _ whole) in
      let behind = first_right (match_refusal alphabet reference first (R p) (n + k)) _ whole in
      let q : R p + (n + k) ≡ R (past_edit e p) = omega (arith, past_reference e p) in
      let a = first_left (match_refusal alphabet reference first (R p) n) _ before in
      rw (a, taken_fine (past_edit e p) es (rw (past_read e p, ← q) behind))

-- an accepted edit's symbol is inside the alphabet
pub edit_symbol : (mapped symbols next : ℕ) (es : List Edit) (i : ℕ) (d : Edit) → Sound mapped symbols next es → OfEdit es i d → d.symbol < symbols
unfolding OfEdit
edit_symbol mapped symbols next [] i d s u = absurd u
edit_symbol mapped symbols next (e ∷ es) i d s u =
    ⊎_elim
    (λ w. rw (ap (λ (x : Edit). x.symbol) w.0) at (symbol_inside mapped symbols next e (sound_head mapped symbols next e es s) w.1.0))
    (λ w. edit_symbol mapped symbols (next_offset e) es i d (sound_tail mapped symbols next e es s) w)
    u
