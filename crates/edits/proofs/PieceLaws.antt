-- The laws of a read's pieces: where a whole read's edits are accepted, each piece's own are, between its start and its end.
-- Assumes nothing.
use Prim.Native.Nat.{ℕ, zero, suc, ◌+◌, ◌-◌, ◌*◌, ◌<◌, ◌≤◌}
use mathlib.Core.Path.{◌≡◌, refl, ap}
use mathlib.Core.List.{List, [], ◌∷◌, ◌++◌}
use native.Mathlib.Omega.{arith}
use native.Mathlib.Nat.{suc-mul, zero-mul, add-zero, sub-zero}
use borrow.Author.Tests.{lt-ltb, le-ltb, ltb-true, ltb-false, lt-leb}
use lib.Dec.{ltb, leb, eqb}
use lib.ListN.{length}
use Rattle.refusal.specs.Answers.{no_refusal}
use Rattle.frame.proofs.Tests.{by_test}
use Rattle.unit.specs.Unit.{class_n, class_m}
use Rattle.edits.specs.Edits.{deletion, width_of, offset_at, edit_at, edit_list_at, next_offset, deletion_refusal, edit_refusal, Sound}
use Rattle.edits.specs.Pieces.{SignedPosition, edits_before, edits_behind, Piece, pieces_from, sum_of, last_length, EachPiece, nil, cons, Spans}
use Rattle.edits.specs.declared.edit.Edit.{Edit}
use Rattle.edits.proofs.EditLaws.{refused_fine, edit_accepted, edits_on, edits_none}

-- ---- an edit that is accepted in the whole read

-- before the end of a piece it is accepted in the piece
narrower : (mapped symbols next until : ℕ) (e : Edit) → edit_refusal mapped symbols next e ≡ no_refusal → e.offset < until → edit_refusal until symbols next e ≡ no_refusal
unfolding edit_refusal deletion_refusal
narrower mapped symbols next until e z h =
    let o = edit_accepted mapped symbols next e z in
    by_test (ltb deletion e.kind) (λ a. refused_fine _ (simp a at z))
    (λ a. by_test (eqb e.kind deletion)
    (λ b. by_test (eqb e.symbol 0)
    (λ d. simp (a, b, d, le-ltb e.offset next o.order, le-ltb until e.offset (omega arith)))
    (λ d. refused_fine _ (simp (a, b, d) at z)))
    (λ b. by_test (leb symbols e.symbol) (λ d. refused_fine _ (simp (a, b, d) at z))
    (λ d. simp (a, b, d, le-ltb e.offset next o.order, lt-leb until e.offset h))))

-- from a later offset on it is accepted too, where it does not stand before it
later : (mapped symbols next start : ℕ) (e : Edit) → edit_refusal mapped symbols next e ≡ no_refusal → start ≤ e.offset → edit_refusal mapped symbols start e ≡ no_refusal
unfolding edit_refusal deletion_refusal
later mapped symbols next start e z h =
    let o = edit_accepted mapped symbols next e z in
    by_test (ltb deletion e.kind) (λ a. refused_fine _ (simp a at z))
    (λ a. by_test (eqb e.kind deletion)
    (λ b. by_test (eqb e.symbol 0)
    (λ d. let y = simp (a, b, d, le-ltb e.offset next o.order) at z in simp (a, b, d, le-ltb e.offset start h) y)
    (λ d. refused_fine _ (simp (a, b, d) at z)))
    (λ b. by_test (leb symbols e.symbol) (λ d. refused_fine _ (simp (a, b, d) at z))
    (λ d. let y = simp (a, b, d, le-ltb e.offset next o.order) at z in simp (a, b, d, le-ltb e.offset start h) y)))

-- a list of edits is accepted from its first offset on
pub sound_later : (mapped symbols next : ℕ) (e : Edit) (es : List Edit) → Sound mapped symbols next (e ∷ es) → Sound mapped symbols e.offset (e ∷ es)
unfolding Sound
sound_later mapped symbols next e es s = (later mapped symbols next e.offset e s.0 (omega arith), s.1)

-- ---- the edits of a piece, and those behind it

module _ (mapped symbols until : ℕ) where
  pub sound_before : (next : ℕ) (es : List Edit) → Sound mapped symbols next es → Sound until symbols next (edits_before until es)
  unfolding Sound edits_before
  sound_before next [] s = tt
  sound_before next (e ∷ es) s =
      by_test (ltb e.offset until)
      (λ t. rw t (narrower mapped symbols next until e s.0 (ltb-true _ _ t), sound_before (next_offset e) es s.1))
      (λ t. rw t tt)

  pub sound_behind : (next : ℕ) (es : List Edit) → Sound mapped symbols next es → Sound mapped symbols until (edits_behind until es)
  unfolding Sound edits_behind
  sound_behind next [] s = tt
  sound_behind next (e ∷ es) s =
      by_test (ltb e.offset until)
      (λ t. rw t (sound_behind (next_offset e) es s.1))
      (λ t. rw t (later mapped symbols next until e s.0 (ltb-false _ _ t), s.1))

-- together they are all
pub before_behind : (offset : ℕ) (es : List Edit) → edits_before offset es ++ edits_behind offset es ≡ es
unfolding edits_before edits_behind
before_behind offset [] = refl
before_behind offset (e ∷ es) = by_test (ltb e.offset offset) (λ t. rw t (ap (λ (l : List Edit). e ∷ l) (before_behind offset es))) (λ t. rw t refl)

-- ---- every piece

-- a piece has a base, and its edits are accepted from its start to its end
pub record PieceSound (symbols : ℕ) (p : Piece) : Type 0 where
  pub base : p.start < p.until
  pub sound : Sound p.until symbols p.start p.edits

-- no length is 0
unfoldable pub NoneZero : List ℕ → Type 0
NoneZero [] = Unit
NoneZero (n ∷ ns) = (1 ≤ n) × NoneZero ns

-- the last piece's clip leaves it a base, and so does every other piece end before the mapped bases do
last_within : (n : ℕ) (ns : List ℕ) → last_length (n ∷ ns) ≤ sum_of (n ∷ ns)
unfolding last_length sum_of
last_within n [] = omega arith
last_within n (m ∷ ns) = omega (arith, last_within m ns)

pub pieces_sound : (mapped symbols rightSoft start : ℕ) (es : List Edit) (lengths : List ℕ) (positions : List SignedPosition) → NoneZero lengths
    → start + sum_of lengths ≡ mapped + rightSoft → rightSoft < last_length lengths → Sound mapped symbols start es
    → EachPiece (PieceSound symbols) (pieces_from mapped start es lengths positions)
unfolding pieces_from NoneZero sum_of last_length
pieces_sound mapped symbols rightSoft start es [] ps z a l s = nil
pieces_sound mapped symbols rightSoft start es (n ∷ ns) [] z a l s = nil
pieces_sound mapped symbols rightSoft start es (n ∷ []) (p ∷ ps) z a l s = cons (record { at = p; start = start; until = mapped; edits = es }) record { base = omega arith; sound = s } nil
pieces_sound mapped symbols rightSoft start es (n ∷ m ∷ ns) (p ∷ ps) z a l s =
    cons (record { at = p; start = start; until = start + n; edits = edits_before (start + n) es }) record { base = omega (arith, z.0); sound = sound_before mapped symbols (start + n) start es s }
    (pieces_sound mapped symbols rightSoft (start + n) (edits_behind (start + n) es) (m ∷ ns) ps z.1 (omega arith) l (sound_behind mapped symbols (start + n) start es s))

-- they follow each other, from the start to the end of the mapped bases
pub pieces_span : (mapped start : ℕ) (es : List Edit) (lengths : List ℕ) (positions : List SignedPosition) → 0 < length lengths → length positions ≡ length lengths
    → Spans start (pieces_from mapped start es lengths positions) mapped
unfolding pieces_from Spans
pieces_span mapped start es [] ps h q = absurd (omega arith)
pieces_span mapped start es (n ∷ ns) [] h q = absurd (omega arith)
pieces_span mapped start es (n ∷ []) (p ∷ ps) h q = (refl, refl)
pieces_span mapped start es (n ∷ m ∷ ns) (p ∷ ps) h q = (refl, pieces_span mapped (start + n) (edits_behind (start + n) es) (m ∷ ns) ps (omega arith) (omega arith))

-- ---- how many edits a piece has

pub edit_offset : (class alphabet : ℕ) (frame : List ℕ) (at : ℕ) → (edit_at class alphabet frame at).offset ≡ offset_at frame at
unfolding edit_at
edit_offset class alphabet frame at = by_test (eqb class class_n) (λ t. simp t) (λ t. by_test (eqb class class_m) (λ h. simp (t, h)) (λ h. simp (t, h)))

module _ (class alphabet : ℕ) (frame : List ℕ) where
  -- the first of them stands before an offset
  pub before_on : (k at offset : ℕ) → 0 < k → offset_at frame at < offset
      → edits_before offset (edit_list_at class alphabet frame k at) ≡ edit_at class alphabet frame at ∷ edits_before offset (edit_list_at class alphabet frame (k - 1) (at + width_of class))
  unfolding edits_before
  before_on k at offset h l =
      let m : (edit_at class alphabet frame at).offset < offset = rw (edit_offset class alphabet frame at) l in
      rw (edits_on class alphabet frame k at (edit_at class alphabet frame at) refl h, lt-ltb _ _ m) refl

  -- or it does not
  pub before_none : (k at offset : ℕ) → 0 < k → offset ≤ offset_at frame at → edits_before offset (edit_list_at class alphabet frame k at) ≡ []
  unfolding edits_before
  before_none k at offset h l =
      let m : offset ≤ (edit_at class alphabet frame at).offset = rw (edit_offset class alphabet frame at) l in
      rw (edits_on class alphabet frame k at (edit_at class alphabet frame at) refl h, le-ltb _ _ m) refl

  -- those before an offset are the first ones, and those from it on the others
  pub before_first : (k at offset : ℕ) → edits_before offset (edit_list_at class alphabet frame k at) ≡ edit_list_at class alphabet frame (length (edits_before offset (edit_list_at class alphabet frame k at))) at
  unfolding edits_before edit_list_at
  before_first zero at offset = refl
  before_first (suc k) at offset =
      by_test (ltb (edit_at class alphabet frame at).offset offset)
      (λ t. rw t (ap (λ (l : List Edit). edit_at class alphabet frame at ∷ l) (before_first k (at + width_of class) offset)))
      (λ t. rw t refl)

  pub behind_rest : (k at offset : ℕ)
      → edits_behind offset (edit_list_at class alphabet frame k at)
      ≡ edit_list_at class alphabet frame (k - length (edits_before offset (edit_list_at class alphabet frame k at))) (at + length (edits_before offset (edit_list_at class alphabet frame k at)) * width_of class)
  unfolding edits_before edits_behind edit_list_at
  behind_rest zero at offset = refl
  behind_rest (suc k) at offset =
      by_test (ltb (edit_at class alphabet frame at).offset offset)
      (λ t.
      let n = length (edits_before offset (edit_list_at class alphabet frame k (at + width_of class))) in
      let p : at + width_of class + n * width_of class ≡ at + suc n * width_of class = omega (arith, suc-mul n (width_of class)) in
      let q : suc k - suc n ≡ k - n = omega arith in
      rw t (rw (← p, q) (behind_rest k (at + width_of class) offset)))
      (λ t. simp (t, zero-mul, add-zero, sub-zero))

  -- there are no more of them than edits
  pub before_most : (k at offset : ℕ) → length (edits_before offset (edit_list_at class alphabet frame k at)) ≤ k
  unfolding edits_before edit_list_at
  before_most zero at offset = omega arith
  before_most (suc k) at offset =
      by_test (ltb (edit_at class alphabet frame at).offset offset)
      (λ t. rw t (omega (arith, before_most k (at + width_of class) offset)))
      (λ t. rw t (omega arith))

  -- where none is left, none stands before it
  pub before_end : (k at offset : ℕ) → k ≤ 0 → edits_before offset (edit_list_at class alphabet frame k at) ≡ []
  unfolding edits_before
  before_end k at offset h = rw (edits_none class alphabet frame k at h) refl
