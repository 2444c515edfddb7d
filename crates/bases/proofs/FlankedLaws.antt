-- The laws of a read whose deletions are flanked: each base that is not inserted lies on a position, the first of a piece on the one where the piece begins, and the last on the one where it ends.
-- Assumes nothing.
use Prim.Native.Nat.{ℕ, ◌+◌, ◌-◌, ◌<◌, ◌≤◌}
use mathlib.Core.Path.{◌≡◌, refl, sym, ◌∙◌}
use mathlib.Core.Logic.{◌⊎◌, inl, inr, ⊎_elim}
use mathlib.Core.Bool.{true, false, ◌&&◌}
use mathlib.Core.List.{List, [], ◌∷◌}
use native.Mathlib.Omega.{arith}
use borrow.Author.Tests.{ltb-true, ltb-false, eqb-true, eqb-false, eq-eqb, ne_eqb}
use lib.Dec.{ltb, eqb}
use Rattle.frame.proofs.Tests.{by_test, false_true}
use Rattle.edits.specs.Edits.{insertion, deletion, next_offset, Sound, taken_by, taken_from}
use Rattle.edits.specs.Flanks.{inserted_at, some_base, has_base}
use Rattle.edits.specs.Pieces.{Piece, begins_at, end_of, EachPiece, nil, cons, OfLast, Spans}
use Rattle.edits.specs.Code.Flank.{backed}
use Rattle.edits.specs.declared.edit.Edit.{Edit}
use Rattle.edits.proofs.EditLaws.{sound_tail, sound_accepted, next_deletion, next_other, next_least, next_most}
use Rattle.edits.proofs.PieceLaws.{PieceSound, sound_later}
use Rattle.edits.proofs.FlankLaws.{or_neither, unseen, none_inserted, some_first, some_none, some_behind, each_same, each_head, each_tail, backed_tail, past_inserted}
use Rattle.edits.proofs.FlankPieceLaws.{fronted}
use Rattle.bases.specs.declared.places.Places.{Places}
use Rattle.bases.specs.Bases.{R, r, past_edit}
use Rattle.bases.specs.Spliced.{piece_beginning}
use Rattle.bases.specs.Alignment.{Stands, UnderMatch, MatchedIn, Substitutes, UnderLetter, SubstitutedIn, LiesOn}
use Rattle.bases.proofs.BasesLaws.{past_read, past_reference}
use Rattle.bases.proofs.SplicedLaws.{spans_order, matched_below, matched_place}

-- ---- in one piece

-- base i lies on a position
abbrev On : ℕ → Places → List Edit → ℕ → ℕ → Type 0
On mapped p es i position = UnderMatch mapped p es i position ⊎ UnderLetter p es i position

module _ (mapped : ℕ) (p : Places) where
  on_last_lem : (i position : ℕ) → Stands p mapped i position → On mapped p [] i position
  unfolding UnderMatch
  on_last_lem i position s = inl s

  module _ (e : Edit) (es : List Edit) where
    on_match : (i position : ℕ) → Stands p e.offset i position → On mapped p (e ∷ es) i position
    unfolding UnderMatch
    on_match i position s = inl (inl s)

    on_letter : (i position : ℕ) → Substitutes p e i position → On mapped p (e ∷ es) i position
    unfolding UnderLetter
    on_letter i position s = inr (inl s)

    on_rest : (i position : ℕ) → On mapped (past_edit e p) es i position → On mapped p (e ∷ es) i position
    unfolding UnderMatch UnderLetter
    on_rest i position w = ⊎_elim (λ m. inl (inr m)) (λ l. inr (inr l)) w

-- every base that is not inserted lies on one
uninserted_on : (mapped symbols : ℕ) (p : Places) (es : List Edit) (i : ℕ) → Sound mapped symbols (r p) es → r p ≤ i → i < mapped → inserted_at i es ≡ false
    → (position : ℕ) × On mapped p es i position
unfolding inserted_at
uninserted_on mapped symbols p [] i s h l q = (R p + (i - r p), on_last_lem mapped p i _ record { from = h; until = l; at = refl })
uninserted_on mapped symbols p (e ∷ es) i s h l q =
    let a = sound_accepted mapped symbols (r p) e es s in
    let t = rw (← past_read e p) at (sound_tail mapped symbols (r p) e es s) in
    let n = or_neither (eqb e.kind insertion && eqb e.offset i) (inserted_at i es) q in
    by_test (ltb i e.offset)
    (λ b. (R p + (i - r p), on_match mapped p e es i _ record { from = h; until = ltb-true i e.offset b; at = refl }))
    (λ b. by_test (ltb i (next_offset e))
    (λ c.
    let z : e.offset ≡ i = omega (arith, ltb-false i e.offset b, ltb-true i (next_offset e) c, next_most e) in
    let d : e.kind ≡ deletion → ⊥ = λ k. omega (arith, ltb-true i (next_offset e) c, next_deletion e k) in
    let j : e.kind ≡ insertion → ⊥ = λ k. false_true (sym (rw (eq-eqb _ _ k, eq-eqb _ _ z) at n.0)) in
    (R p + (e.offset - r p), on_letter mapped p e es i _ record { kind = omega (arith, a.kind); base = z; at = refl }))
    (λ c.
    let w = uninserted_on mapped symbols (past_edit e p) es i t (omega (arith, past_read e p, ltb-false i (next_offset e) c)) l n.1 in
    (w.0, on_rest mapped p e es i w.0 w.1)))

-- ---- where a piece begins

-- where some base of it is not inserted, and each deletion has one before it, one lies on its first position
first_on : (until symbols : ℕ) (p : Places) (es : List Edit) → Sound until symbols (r p) es → fronted (r p) es ≡ true → some_base es (r p) (until - r p) ≡ true
    → (i : ℕ) × On until p es i (R p)
unfolding past_edit
first_on until symbols p [] s f b =
    by_test (ltb (r p) until)
    (λ t. (r p, on_last_lem until p (r p) (R p) record { from = omega arith; until = ltb-true (r p) until t; at = omega arith }))
    (λ t. let z : until - r p ≡ 0 = omega (arith, ltb-false (r p) until t) in false_true (sym (some_none [] (r p)) ∙ rw z at b))
first_on until symbols p (e ∷ es) s f b =
    let a = sound_accepted until symbols (r p) e es s in
    by_test (ltb (r p) e.offset)
    (λ t. (r p, on_match until p e es (r p) (R p) record { from = omega arith; until = ltb-true (r p) e.offset t; at = omega arith }))
    (λ t.
    let q : r p ≡ e.offset = omega (arith, a.order, ltb-false (r p) e.offset t) in
    by_test (eqb e.kind deletion)
    (λ k.
    let z : e.offset - r p ≡ 0 = omega arith in
    let g : some_base (e ∷ es) (r p) (e.offset - r p) ≡ true = each_head _ e es (eqb-true _ _ k) f in
    false_true (sym (some_none (e ∷ es) (r p)) ∙ rw z at g))
    (λ k. by_test (eqb e.kind insertion)
    (λ j.
    let kind = eqb-true e.kind insertion j in
    let n = next_other e (eqb-false e.kind deletion k) in
    let here = rw q at s in
    let read : r (past_edit e p) ≡ e.offset + 1 = past_read e p ∙ n in
    let place : R (past_edit e p) ≡ R p = past_reference e p ∙ rw j (omega arith) in
    let tail = sound_tail until symbols (r p) e es s in
    let front : fronted (e.offset + 1) es ≡ true =
    sym (each_same _ _ until symbols (next_offset e) es tail (λ o l m. past_inserted until symbols e es here kind o (omega arith)))
    ∙ each_tail (λ o. some_base (e ∷ es) e.offset (o - e.offset)) e es (rw q at f) in
    let some : some_base es (e.offset + 1) (until - (e.offset + 1)) ≡ true = sym (past_inserted until symbols e es here kind until (omega (arith, a.inside))) ∙ rw q at b in
    let w = first_on until symbols (past_edit e p) es (rw (← past_read e p) at tail) (rw (← read) at front) (rw (← read) at some) in
    (w.0, on_rest until p e es w.0 (R p) (rw place at w.1)))
    (λ j.
    let d = eqb-false e.kind deletion k in
    let i = eqb-false e.kind insertion j in
    (e.offset, on_letter until p e es e.offset (R p) record { kind = omega (arith, a.kind); base = refl; at = omega arith }))))

-- ---- where a piece ends

-- edits among which no base lies on a position, and behind whose deletions one would, take no position
none_taken : (mapped symbols next : ℕ) (es : List Edit) → Sound mapped symbols next es → backed mapped es ≡ true → some_base es next (mapped - next) ≡ false → taken_from mapped next es ≡ 0
unfolding taken_from inserted_at
none_taken mapped symbols next [] s f b =
    by_test (ltb next mapped)
    (λ t. let l = ltb-true next mapped t in false_true (sym b ∙ some_first [] next (mapped - next) refl (omega arith)))
    (λ t. omega (arith, ltb-false next mapped t))
none_taken mapped symbols next (e ∷ es) s f b =
    let a = sound_accepted mapped symbols next e es s in
    let tail = sound_tail mapped symbols next e es s in
    let later = sound_later mapped symbols next e es s in
    by_test (ltb next e.offset)
    (λ t.
    let l = ltb-true next e.offset t in
    false_true (sym b ∙ some_first (e ∷ es) next (mapped - next) (none_inserted mapped symbols e.offset (e ∷ es) later next l) (omega (arith, a.inside, next_least e))))
    (λ t.
    let q : next ≡ e.offset = omega (arith, a.order, ltb-false next e.offset t) in
    let c = rw q at b in
    by_test (eqb e.kind deletion)
    (λ k. false_true (sym c ∙ each_head (λ o. some_base (e ∷ es) o (mapped - o)) e es (eqb-true _ _ k) f))
    (λ k.
    let n = next_other e (eqb-false e.kind deletion k) in
    by_test (eqb e.kind insertion)
    (λ j.
    let none : some_base es (e.offset + 1) (mapped - (e.offset + 1)) ≡ false = sym (past_inserted mapped symbols e es later (eqb-true _ _ j) mapped (omega (arith, a.inside))) ∙ c in
    let rest = none_taken mapped symbols (next_offset e) es tail (sym (backed_tail mapped symbols e es tail) ∙ each_tail _ e es f) (rw n none) in
    rw (j, rest) (omega arith))
    (λ j.
    let i = eqb-false e.kind insertion j in
    let here : inserted_at e.offset (e ∷ es) ≡ false = unseen e es e.offset (λ z o. i z) ∙ none_inserted mapped symbols (next_offset e) es tail e.offset (omega arith) in
    false_true (sym c ∙ some_first (e ∷ es) e.offset (mapped - e.offset) here (omega (arith, a.inside))))))

-- where some base of it is not inserted, and each deletion has one behind it, one lies on its last position
last_on : (mapped symbols : ℕ) (p : Places) (es : List Edit) → Sound mapped symbols (r p) es → backed mapped es ≡ true → some_base es (r p) (mapped - r p) ≡ true
    → (i : ℕ) × On mapped p es i (R p + taken_from mapped (r p) es - 1)
unfolding taken_from
last_on mapped symbols p [] s f b =
    by_test (ltb (r p) mapped)
    (λ t. let l = ltb-true (r p) mapped t in (mapped - 1, on_last_lem mapped p (mapped - 1) _ record { from = omega arith; until = omega arith; at = omega arith }))
    (λ t. let z : mapped - r p ≡ 0 = omega (arith, ltb-false (r p) mapped t) in false_true (sym (some_none [] (r p)) ∙ rw z at b))
last_on mapped symbols p (e ∷ es) s f b =
    let a = sound_accepted mapped symbols (r p) e es s in
    let tail = sound_tail mapped symbols (r p) e es s in
    let back : backed mapped es ≡ true = sym (backed_tail mapped symbols e es tail) ∙ each_tail _ e es f in
    by_test (some_base es (next_offset e) (mapped - next_offset e))
    (λ t.
    let read = past_read e p in
    let w = last_on mapped symbols (past_edit e p) es (rw (← read) at tail) back (rw (← read) at t) in
    let place : R (past_edit e p) + taken_from mapped (r (past_edit e p)) es - 1 ≡ R p + (taken_by (r p) e + taken_from mapped (next_offset e) es) - 1 = rw read (omega (arith, past_reference e p)) in
    (w.0, on_rest mapped p e es w.0 _ (rw place at w.1)))
    (λ t.
    let none = none_taken mapped symbols (next_offset e) es tail back t in
    by_test (eqb e.kind deletion)
    (λ k.
    let n = next_deletion e (eqb-true e.kind deletion k) in
    let some : some_base (e ∷ es) e.offset (mapped - e.offset) ≡ true = each_head (λ o. some_base (e ∷ es) o (mapped - o)) e es (eqb-true _ _ k) f in
    false_true (sym (rw n at t) ∙ sym (some_behind e es e.offset (mapped - e.offset) (omega arith)) ∙ some))
    (λ k.
    let n = next_other e (eqb-false e.kind deletion k) in
    by_test (eqb e.kind insertion)
    (λ j. by_test (ltb (r p) e.offset)
    (λ g.
    let l = ltb-true (r p) e.offset g in
    (e.offset - 1, on_match mapped p e es (e.offset - 1) _ record { from = omega arith; until = omega arith; at = rw j (omega (arith, none)) }))
    (λ g.
    let q : r p ≡ e.offset = omega (arith, a.order, ltb-false (r p) e.offset g) in
    let past = past_inserted mapped symbols e es (rw q at s) (eqb-true _ _ j) mapped (omega (arith, a.inside)) in
    false_true (sym (rw n at t) ∙ sym past ∙ rw q at b)))
    (λ j.
    let d = eqb-false e.kind deletion k in
    let i = eqb-false e.kind insertion j in
    (e.offset, on_letter mapped p e es e.offset _ record { kind = omega (arith, a.kind); base = refl; at = rw j (omega (arith, none)) }))))

-- ---- where a base lies that is substituted

-- its position is one of those that the edits take
letter_place : (mapped : ℕ) (p : Places) (es : List Edit) (i position : ℕ) → UnderLetter p es i position → (R p ≤ position) × (position < R p + taken_from mapped (r p) es)
unfolding UnderLetter taken_from
letter_place mapped p [] i position u = absurd u
letter_place mapped p (e ∷ es) i position u =
    ⊎_elim (λ w. (omega (arith, w.at), rw (ne_eqb e.kind insertion (λ k. omega (arith, w.kind))) (omega (arith, w.at))))
    (λ w.
    let l = rw (past_read e p, past_reference e p) at (letter_place mapped (past_edit e p) es i position w) in
    (omega (arith, l.0), omega (arith, l.1)))
    u

-- and it is one of the mapped bases
letter_below : (mapped symbols : ℕ) (p : Places) (es : List Edit) (i position : ℕ) → Sound mapped symbols (r p) es → UnderLetter p es i position → i < mapped
unfolding UnderLetter
letter_below mapped symbols p [] i position s u = absurd u
letter_below mapped symbols p (e ∷ es) i position s u =
    let a = sound_accepted mapped symbols (r p) e es s in
    ⊎_elim (λ w. omega (arith, w.base, a.inside, next_other e (λ d. omega (arith, w.kind))))
    (λ w. letter_below mapped symbols (past_edit e p) es i position (rw (← past_read e p) at (sound_tail mapped symbols (r p) e es s)) w)
    u

-- ---- in a read

-- what holds of every position from where a piece begins to behind its end holds of one that a base lies on
substituted_place : {P : ℕ → Type 0} {ps : List Piece} (i at : ℕ) → EachPiece (λ (p : Piece). (x : ℕ) → begins_at p ≤ x → x < end_of p → P x) ps → SubstitutedIn ps i at → P at
unfolding SubstitutedIn
substituted_place i at nil u = absurd u
substituted_place i at (cons p h hs) u =
    ⊎_elim (λ w. let l = letter_place p.until (piece_beginning p) p.edits i at w in h at l.0 l.1) (λ w. substituted_place i at hs w) u

pub lies_place : {P : ℕ → Type 0} {ps : List Piece} (i at : ℕ) → EachPiece (λ (p : Piece). (x : ℕ) → begins_at p ≤ x → x < end_of p → P x) ps → LiesOn ps i at → P at
lies_place i at h u = ⊎_elim (λ w. matched_place i at h w) (λ w. substituted_place i at h w) u

-- a base that lies on the reference is one of the mapped bases
substituted_below : {symbols : ℕ} {ps : List Piece} (from to i at : ℕ) → EachPiece (PieceSound symbols) ps → Spans from ps to → SubstitutedIn ps i at → i < to
unfolding Spans SubstitutedIn
substituted_below from to i at nil s u = absurd u
substituted_below {symbols} from to i at (cons p h hs) s u =
    ⊎_elim (λ w. omega (arith, spans_order p.until to hs s.1, letter_below p.until symbols (piece_beginning p) p.edits i at h.sound w))
    (λ w. substituted_below p.until to i at hs s.1 w)
    u

pub lies_below : {symbols : ℕ} {ps : List Piece} (from to i at : ℕ) → EachPiece (PieceSound symbols) ps → Spans from ps to → LiesOn ps i at → i < to
lies_below from to i at h s u = ⊎_elim (λ w. matched_below from to i at h s w) (λ w. substituted_below from to i at h s w) u

in_first : (p : Piece) (ps : List Piece) (i at : ℕ) → On p.until (piece_beginning p) p.edits i at → LiesOn (p ∷ ps) i at
unfolding MatchedIn SubstitutedIn
in_first p ps i at w = ⊎_elim (λ m. inl (inl m)) (λ l. inr (inl l)) w

in_others : (p : Piece) (ps : List Piece) (i at : ℕ) → LiesOn ps i at → LiesOn (p ∷ ps) i at
unfolding MatchedIn SubstitutedIn
in_others p ps i at w = ⊎_elim (λ m. inl (inr m)) (λ l. inr (inr l)) w

-- every mapped base that is not inserted lies on a position
pub uninserted_lies : {symbols : ℕ} {ps : List Piece} (from to i : ℕ) → EachPiece (PieceSound symbols) ps → EachPiece (λ (p : Piece). inserted_at i p.edits ≡ false) ps → Spans from ps to → from ≤ i → i < to
    → (at : ℕ) × LiesOn ps i at
unfolding Spans
uninserted_lies from to i nil n s h l = absurd (omega arith)
uninserted_lies {symbols} from to i (cons p {ps} a rest) (cons _ b others) s h l =
    by_test (ltb i p.until)
    (λ t.
    let w = uninserted_on p.until symbols (piece_beginning p) p.edits i a.sound (omega (arith, s.0)) (ltb-true i p.until t) b in
    (w.0, in_first p ps i w.0 w.1))
    (λ t.
    let w = uninserted_lies p.until to i rest others s.1 (ltb-false i p.until t) l in
    (w.0, in_others p ps i w.0 w.1))

-- a base of the first piece lies where the read begins
pub first_lies : {symbols : ℕ} (p : Piece) (ps : List Piece) → PieceSound symbols p → fronted p.start p.edits ≡ true → has_base p ≡ true → (i : ℕ) × LiesOn (p ∷ ps) i (begins_at p)
first_lies {symbols} p ps h f b =
    let w = first_on p.until symbols (piece_beginning p) p.edits h.sound f b in (w.0, in_first p ps w.0 (begins_at p) w.1)

-- and one of the last where it ends
module _ (all : List Piece) where
  abbrev EndsOn : Piece → Type 0
  EndsOn p = has_base p ≡ true → (i : ℕ) × LiesOn all i (end_of p - 1)

  pub last_lies : {symbols : ℕ} (ps : List Piece) → EachPiece (PieceSound symbols) ps → OfLast (λ (p : Piece). backed p.until p.edits ≡ true) ps → ((i at : ℕ) → LiesOn ps i at → LiesOn all i at) → OfLast EndsOn ps
  last_lies {symbols} [] h f up = tt
  last_lies {symbols} (p ∷ []) (cons _ a h) f up = λ b.
      let w = last_on p.until symbols (piece_beginning p) p.edits a.sound f b in (w.0, up w.0 _ (in_first p [] w.0 _ w.1))
  last_lies {symbols} (p ∷ q ∷ ps) (cons _ a h) f up = last_lies (q ∷ ps) h f (λ i at w. up i at (in_others p (q ∷ ps) i at w))
