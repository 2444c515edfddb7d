-- How long the text of a read is whose deletions are flanked (document 02, Wish 2): each run of deletions stands at an offset of its own, and none before the first base or behind the last.
-- Assumes nothing.
use mathlib.Core.Path.{◌≡◌, refl, sym, ap, ◌∙◌}
use mathlib.Core.Bool.{true, false, cond}
use mathlib.Core.Logic.{◌⊎◌, inl, inr, ⊎_elim}
use mathlib.Core.List.{List, [], ◌∷◌, ◌++◌}
use Prim.Native.Nat.{ℕ, suc, ◌+◌, ◌-◌, ◌*◌, ◌/◌, ◌^◌, ◌<◌, ◌≤◌}
use native.Mathlib.Omega.{arith}
use borrow.Author.Tests.{eq-eqb, ne_eqb, eqb-true, eqb-false, ltb-true, ltb-false, leb-true}
use lib.Dec.{ltb, leb, eqb}
use lib.ListN.{length, length-append}
use Rattle.frame.proofs.Tests.{by_test, false_true}
use Rattle.writing.specs.Decimal.{decimal}
use Rattle.writing.proofs.DecimalLaws.{length_small, length_more, digits_most, digits_power}
use Rattle.edits.specs.Edits.{substitution, insertion, deletion, next_offset, Sound}
use Rattle.edits.specs.Lengths.{most_read, most_edits, most_pieces}
use Rattle.edits.specs.Flanks.{each_deletion}
use Rattle.edits.specs.declared.edit.Edit.{Edit}
use Rattle.edits.specs.declared.Clips.{Clips}
use Rattle.edits.specs.Pieces.{Piece, begins_at, end_of, EachPiece, cons, Spans}
use Rattle.edits.proofs.EditLaws.{EditAccepted, sound_accepted, sound_tail, next_deletion, next_other, next_least}
use Rattle.edits.proofs.FlankLaws.{each_head, each_tail}
use Rattle.edits.proofs.FlankPieceLaws.{DeletedBelow}
use Rattle.edits.proofs.PieceLaws.{PieceSound}
use Rattle.ecigar.specs.declared.walk.Walk.{Walk}
use Rattle.ecigar.specs.Table90.{plus_sign, minus_sign, print_all}
use Rattle.ecigar.specs.Ecigar.{set_out_at, joins_run, past, matches, open_run, gap, mark, operations_from}
use Rattle.ecigar.specs.Spliced.{splices_from, read_text, Apart, pieces_edits}
use Rattle.tables.specs.Longest.{longest_plain, longest_spliced}
use Rattle.ecigar.proofs.PrintLaws.{length_counted, length_printed}
use Rattle.ecigar.proofs.WalkLaws.{Open, Joined, closed_insertion, closed_deletion, closed_none, gap_joined, gap_apart, length_mark, ending_both, text_on, text_end, past_next, past_open, past_joined, past_apart, joins_same, joins_true, matches_most}
use Rattle.ecigar.proofs.LengthLaws.{ClipsFit, clips_most}
use Rattle.tables.proofs.SplicedLaws.{splices_none, length_read, length_pieces, length_splices}

-- ---- the run that is open

-- twice the digits of a count, and twice its sign: three, and one for each deletion
counted_twice : (n : ℕ) → 1 ≤ n → 2 * length (decimal n) ≤ n + 1
counted_twice n h =
    by_test (ltb n 10) (λ e. omega (arith, length_small n (ltb-true n 10 e)))
    (λ e. let l : 10 ≤ n = ltb-false n 10 e in omega (arith, length_more n l, digits_most (suc (n / 10)) (n / 10) (omega arith) (omega arith)))

-- what twice its text may come to
unfoldable open_most : Walk → ℕ
open_most w = cond (eqb w.kind insertion) (4 * w.run) (cond (eqb w.kind deletion) (w.run + 3) 0)

open_insertion : (w : Walk) → w.kind ≡ insertion → open_most w ≡ 4 * w.run
unfolding open_most
open_insertion w k = rw (eq-eqb _ _ k) refl

open_deletion : (w : Walk) → w.kind ≡ deletion → open_most w ≡ w.run + 3
unfolding open_most
open_deletion w k = rw (ne_eqb w.kind insertion (λ i. omega arith), eq-eqb _ _ k) refl

open_none : (w : Walk) → w.kind ≡ substitution → open_most w ≡ 0
unfolding open_most
open_none w k = rw (ne_eqb w.kind insertion (λ i. omega arith), ne_eqb w.kind deletion (λ d. omega arith)) refl

open_twice : (w : Walk) → Open w → 2 * length (print_all (open_run w)) ≤ open_most w
open_twice w o =
    by_test (eqb w.kind insertion)
    (λ h.
    let k = eqb-true w.kind insertion h in
    let one : 1 ≤ w.run = ⊎_elim (λ z. absurd (omega arith)) (λ z. z) o in
    rw (closed_insertion w k, open_insertion w k) (omega (arith, length_counted w.run plus_sign, digits_most (suc w.run) w.run (omega arith) one)))
    (λ h.
    let g = eqb-false w.kind insertion h in
    by_test (eqb w.kind deletion)
    (λ i.
    let k = eqb-true w.kind deletion i in
    let one : 1 ≤ w.run = ⊎_elim (λ z. absurd (omega arith)) (λ z. z) o in
    rw (closed_deletion w g k, open_deletion w k) (omega (arith, length_counted w.run minus_sign, counted_twice w.run one)))
    (λ i. rw (closed_none w g (eqb-false _ _ i)) (omega arith)))

-- ---- one piece

-- no run of deletions that is still to begin stands before an offset: the walk is past it, or it is the next one and its run is open, or no deletion that is left stands before it
abbrev Clear : (lo : ℕ) → Walk → List Edit → Type 0
Clear lo w es = (lo ≤ w.next) ⊎ ((w.kind ≡ deletion) ⊎ (each_deletion (λ o. leb lo o) es ≡ true))

module _ (alphabet until symbols : ℕ) where
  -- twice the text: four for each base, three for each offset that a run of deletions may still stand at, one for each edit
  abbrev Short : (lo : ℕ) → Walk → List Edit → Type 0
  Short lo w es = 2 * length (print_all (operations_from alphabet until w es)) ≤ open_most w + 4 * (until - w.next) + 3 * (until - lo) + length es

  module _ (lo : ℕ) (w : Walk) (e : Edit) (es : List Edit) (o : Open w) (near : lo ≤ w.next + 1) (clear : Clear lo w (e ∷ es))
      (a : EditAccepted until symbols w.next e) where
    parts : length (print_all (operations_from alphabet until w (e ∷ es))) ≡ length (print_all (gap w e)) + cond (eqb e.kind substitution) 1 0 + length (print_all (operations_from alphabet until (past w e) es))
    parts =
        omega (
          arith,
          ap length (text_on alphabet until w e es),
          length-append (print_all (gap w e ++ mark alphabet e)) (print_all (operations_from alphabet until (past w e) es)),
          length_printed (gap w e) (mark alphabet e),
          length_mark alphabet e,
        )

    -- an edit of the run that is open
    module _ (j : joins_run w e ≡ true) where
      joined : Joined w e
      joined = joins_true w e j

      joined_clear : Clear lo (past w e) es
      unfolding past
      joined_clear =
          ⊎_elim (λ l. inl (omega (arith, joined.there, next_least e)))
          (λ r. ⊎_elim (λ k. inr (inl (joined.same ∙ k)))
          (λ c. by_test (eqb e.kind deletion)
          (λ k. inr (inl (eqb-true _ _ k)))
          (λ k. inr (inr (each_tail _ e es c))))
          r)
          clear

      joined_short : Short lo (past w e) es → Short lo w (e ∷ es)
      joined_short h =
          let t = rw (gap_joined w e j, ne_eqb _ _ joined.indel) at parts in
          let p = past_joined w e j in
          let v = past_next w e refl in
          by_test (eqb e.kind deletion)
          (λ b.
          let k = eqb-true e.kind deletion b in
          let n = next_deletion e k in
          let x = open_deletion w (sym joined.same ∙ k) in
          let y = ap (λ (z : Walk). open_most z) p ∙ open_deletion (record { next = next_offset e; kind = e.kind; run = w.run + 1 }) k in
          omega (arith, joined.there))
          (λ b.
          let d = eqb-false e.kind deletion b in
          let k : e.kind ≡ insertion = omega (arith, joined.indel, a.kind) in
          let n = next_other e d in
          let x = open_insertion w (sym joined.same ∙ k) in
          let y = ap (λ (z : Walk). open_most z) p ∙ open_insertion (record { next = next_offset e; kind = e.kind; run = w.run + 1 }) k in
          omega (arith, joined.there, a.inside))

    -- any other
    module _ (j : joins_run w e ≡ false) where
      apart_clear : Clear (e.offset + 1) (past w e) es
      unfolding past
      apart_clear =
          by_test (eqb e.kind deletion) (λ k. inr (inl (eqb-true _ _ k))) (λ k. inl (omega (arith, next_other e (eqb-false _ _ k))))

      -- a run of deletions that begins here
      apart_deletion : e.kind ≡ deletion → lo ≤ e.offset
      apart_deletion k =
          ⊎_elim (λ l. omega (arith, a.order))
          (λ r. ⊎_elim
          (λ d. by_test (eqb e.offset w.next)
          (λ t. false_true (sym j ∙ joins_same w e (λ s. omega arith) (k ∙ sym d) (eqb-true _ _ t)))
          (λ t. let n = eqb-false e.offset w.next t in omega (arith, a.order)))
          (λ c. leb-true _ _ (each_head _ e es k c))
          r)
          clear

      apart_short : (e.kind ≡ deletion → e.offset < until) → Short (e.offset + 1) (past w e) es → Short lo w (e ∷ es)
      apart_short below h =
          let t = rw (gap_apart w e j, length-append (print_all (open_run w)) (print_all (matches (e.offset - w.next)))) at parts in
          let p = past_apart w e j in
          let v = past_next w e refl in
          let x = open_twice w o in
          let y = matches_most (e.offset - w.next) in
          by_test (eqb e.kind deletion)
          (λ b.
          let k = eqb-true e.kind deletion b in
          let n = next_deletion e k in
          let u = rw (ne_eqb e.kind substitution (λ s. omega arith)) at t in
          let z = ap (λ (z : Walk). open_most z) p ∙ open_deletion (record { next = next_offset e; kind = e.kind; run = 1 }) k in
          omega (arith, a.order, apart_deletion k, below k))
          (λ b.
          let d = eqb-false e.kind deletion b in
          let n = next_other e d in
          by_test (eqb e.kind substitution)
          (λ s.
          let z = ap (λ (z : Walk). open_most z) p ∙ open_none (record { next = next_offset e; kind = e.kind; run = 1 }) (eqb-true _ _ s) in
          let u = rw s at t in
          omega (arith, a.order, a.inside))
          (λ s.
          let q = eqb-false e.kind substitution s in
          let k : e.kind ≡ insertion = omega (arith, a.kind) in
          let z = ap (λ (z : Walk). open_most z) p ∙ open_insertion (record { next = next_offset e; kind = e.kind; run = 1 }) k in
          let u = rw s at t in
          omega (arith, a.order, a.inside)))

  from_short : (lo : ℕ) (w : Walk) (es : List Edit) → Open w → w.next ≤ until → lo ≤ w.next + 1 → Sound until symbols w.next es → each_deletion (λ o. ltb o until) es ≡ true → Clear lo w es → Short lo w es
  from_short lo w [] o n near s b c =
      omega (arith, ap length (text_end alphabet until w ∙ ending_both until w), length-append (print_all (open_run w)) (print_all (matches (until - w.next))), open_twice w o, matches_most (until - w.next))
  from_short lo w (e ∷ es) o n near s b c =
      let a = sound_accepted until symbols w.next e es s in
      let q = past_next w e refl in
      let inside = rw (← q) at a.inside in
      let tail = rw (← q) at (sound_tail until symbols w.next e es s) in
      let begun = inr (past_open w e refl) in
      let rest = each_tail _ e es b in
      by_test (joins_run w e)
      (λ j. joined_short lo w e es o near c a j
      (from_short lo (past w e) es begun inside (omega (arith, a.order, next_least e)) tail rest (joined_clear lo w e es o near c a j)))
      (λ j. apart_short lo w e es o near c a j (λ k. ltb-true _ _ (each_head _ e es k b))
      (from_short (e.offset + 1) (past w e) es begun inside (omega (arith, next_least e)) tail rest (apart_clear lo w e es o near c a j)))

  pub piece_short : (start lo : ℕ) (es : List Edit) → start ≤ until → lo ≤ start + 1 → Sound until symbols start es → each_deletion (λ o. ltb o until) es ≡ true
      → (lo ≤ start) ⊎ (each_deletion (λ o. leb lo o) es ≡ true)
      → 2 * length (print_all (operations_from alphabet until (set_out_at start) es)) ≤ 4 * (until - start) + 3 * (until - lo) + length es
  piece_short start lo es h near s b c =
      let z = open_none (set_out_at start) refl in
      omega (arith, from_short lo (set_out_at start) es (inl refl) h near s b (⊎_elim (λ l. inl l) (λ r. inr (inr r)) c))

-- ---- a read in one piece

pub one_short : (alphabet rcomp symbols to : ℕ) (clips : Clips) (p : Piece) → Spans 0 (p ∷ []) to → PieceSound symbols p → DeletedBelow p → each_deletion (λ o. leb 1 o) p.edits ≡ true → ClipsFit clips
    → to ≤ most_read → length p.edits ≤ most_edits → length (read_text alphabet rcomp clips (p ∷ [])) ≤ longest_plain
unfolding Spans
one_short alphabet rcomp symbols to clips p s h d c fit short few =
    omega (
      arith,
      s.0,
      s.1,
      h.base,
      length_read alphabet rcomp clips (p ∷ []),
      clips_most clips fit,
      length_pieces alphabet rcomp p [],
      ap length (splices_none alphabet rcomp (end_of p)),
      piece_short alphabet p.until symbols p.start 1 p.edits (omega (arith, h.base)) (omega arith) h.sound d (inr c),
    )

-- ---- a read over introns

-- a splice's digits are nine, and one more only where it counts 900,000,000 positions more: so the positions of all splices together say how many digits they have
digits_share : (n : ℕ) → n ≤ 2 ^ 32 → 900000000 * length (decimal n) ≤ 8000000000 + n
digits_share n h =
    by_test (ltb n 100000000) (λ t. omega (arith, digits_power 7 n (omega (arith, ltb-true n 100000000 t))))
    (λ t. by_test (ltb n 1000000000)
    (λ v. omega (arith, ltb-false n 100000000 t, digits_power 8 n (omega (arith, ltb-true n 1000000000 v))))
    (λ v. omega (arith, ltb-false n 1000000000 v, digits_power 9 n (omega arith))))

-- a piece ends where positions of 32 bits do, or before
abbrev pub EndFits : Piece → Type 0
EndFits p = end_of p ≤ 2 ^ 32

splices_short : (alphabet rcomp symbols end from to : ℕ) (ps : List Piece) → Spans from ps to → EachPiece (PieceSound symbols) ps → Apart end ps → end ≤ 2 ^ 32 → EachPiece EndFits ps → EachPiece DeletedBelow ps
    → 1800000000 * length (print_all (splices_from alphabet rcomp end ps)) + 6300000000 * from + 2 * end
    ≤ 6300000000 * to + 900000000 * pieces_edits ps + 17800000000 * length ps + 2 * 2 ^ 32
unfolding Spans pieces_edits splices_from print_all Apart
splices_short alphabet rcomp symbols end from to [] s a x n f b = omega arith
splices_short alphabet rcomp symbols end from to (p ∷ ps) s (cons _ h a) x n (cons _ g f) (cons _ d b) =
    omega (
      arith,
      s.0,
      h.base,
      x.0,
      length_splices alphabet rcomp end p ps,
      digits_share (begins_at p - end) (omega (arith, x.0)),
      piece_short alphabet p.until symbols p.start p.start p.edits (omega (arith, h.base)) (omega arith) h.sound d (inl (omega arith)),
      splices_short alphabet rcomp symbols (end_of p) p.until to ps s.1 a x.1 g f b,
    )

pub read_short : (alphabet rcomp symbols to : ℕ) (clips : Clips) (p : Piece) (ps : List Piece) → Spans 0 (p ∷ ps) to → EachPiece (PieceSound symbols) (p ∷ ps) → Apart (end_of p) ps
    → EachPiece EndFits (p ∷ ps) → EachPiece DeletedBelow (p ∷ ps) → each_deletion (λ o. leb 1 o) p.edits ≡ true → ClipsFit clips
    → length (p ∷ ps) ≤ most_pieces → to ≤ most_read → pieces_edits (p ∷ ps) ≤ most_edits → length (read_text alphabet rcomp clips (p ∷ ps)) ≤ longest_spliced
unfolding Spans pieces_edits
read_short alphabet rcomp symbols to clips p ps s (cons _ h a) x (cons _ g f) (cons _ d b) c fit many short few =
    omega (
      arith,
      s.0,
      h.base,
      length_read alphabet rcomp clips (p ∷ ps),
      clips_most clips fit,
      length_pieces alphabet rcomp p ps,
      piece_short alphabet p.until symbols p.start 1 p.edits (omega (arith, h.base)) (omega arith) h.sound d (inr c),
      splices_short alphabet rcomp symbols (end_of p) p.until to ps s.1 a x g f b,
    )
