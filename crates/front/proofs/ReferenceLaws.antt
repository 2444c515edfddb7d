-- The laws of a reference line: how many bases it has, and the reference after it.
-- Assumes nothing.
use mathlib.Core.Path.{◌≡◌, refl, sym, ap, ◌∙◌}
use mathlib.Core.List.{List, [], ◌∷◌, ◌++◌}
use Prim.Native.Nat.{ℕ, ◌+◌, ◌-◌, ◌/◌, ◌<◌, ◌≤◌}
use native.Mathlib.Omega.{arith}
use native.Mathlib.Numerals.{add-one}
use lib.ListN.{length, take, drop, get_or, length-drop, drop_of_length-le}
use lib.Seq.{drop-cons}
use Rattle.std.specs.Prelude.{Ok, Err}
use Rattle.refusal.specs.Answers.{OrRefused}
use Rattle.refusal.specs.declared.Refusal.{Refusal}
use Rattle.frame.specs.Hex.{unhex}
use Rattle.frame.specs.Line.{line_of}
use Rattle.frame.specs.Field.{big_at}
use Rattle.frame.proofs.HexLaws.{length_unhex}
use Rattle.unit.specs.Kinds.{kind_reference}
use Rattle.frame.specs.Steps.{stored_at}
use Rattle.unit.specs.Unit.{most_reference}
use Rattle.front.specs.ReferenceLine.{most_line_bases, bases_of, added_bases, reference_line, reference_by, reference_after}
use Rattle.frame.proofs.StoreLaws.{length_stored, take_stored}
use Rattle.frame.proofs.StepLaws.{past_line, past_field, past_refusal, past_match_lem}

-- ---- the bases of a line, counted in its digits

pub length_bases_of : (l : List ℕ) → length (bases_of (unhex l)) ≡ length l / 2 - 1
length_bases_of l = rw (length-drop, length_unhex)

pub added_counted : (x : OrRefused ℕ) (l : List ℕ) (used places : ℕ) → x ≡ added_bases (length l / 2 - 1) used places → x ≡ added_bases (length (bases_of (unhex l))) used places
added_counted x l used places e = rw (length_bases_of l) e

-- the next one of those that are left
pub bases_next : (l : List ℕ) (i : ℕ) → i < length l / 2 → drop i (unhex l) ≡ get_or (unhex l) i 0 ∷ drop (i + 1) (unhex l)
bases_next l i h = rw add-one (drop-cons (unhex l) i 0 (rw length_unhex h))

pub bases_none : (l : List ℕ) (i : ℕ) → length l / 2 ≤ i → drop i (unhex l) ≡ []
bases_none l i h = drop_of_length-le (unhex l) {i = i} (rw length_unhex h)

-- ---- the whole line

never : {m : ℕ} (n : Refusal) → ◌≡◌ {A = OrRefused ℕ} (Err n) (Ok m) → ⊥
never n e = let z : ◌≡◌ {A = ℕ} 0 1 = cc in omega arith

-- bases that were accepted are within the limits, and there is room for them
pub record IsAdded (n used places all : ℕ) : Type 0 where
  pub some : 1 ≤ n
  pub line_most : n ≤ most_line_bases
  pub count : all ≡ used + n
  pub most : all ≤ most_reference
  pub room : all ≤ places

bases_added : (n used places all : ℕ) → added_bases n used places ≡ Ok all → IsAdded n used places all
unfolding added_bases
bases_added n used places all e =
    let a = past_refusal _ (never _) n 1 _ e in
    let b = past_refusal _ (never _) most_line_bases n _ a.1 in
    let d = past_refusal _ (never _) places used _ b.1 in
    let f = past_refusal _ (never _) most_reference (used + n) _ d.1 in
    let g = past_refusal _ (never _) places (used + n) _ f.1 in
    let h : ◌≡◌ {A = OrRefused ℕ} (Ok (used + n)) (Ok all) = g.1 in
    let q : all ≡ used + n = cc in
    record { some = a.0; line_most = b.0; count = q; most = rw q f.0; room = rw q g.0 }

-- what an accepted line is
pub record IsReference (line : List ℕ) (used places all : ℕ) : Type 0 where
  pub kind : big_at 1 (unhex line) 0 ≡ kind_reference
  pub added : IsAdded (length (bases_of (unhex line))) used places all

pub reference_accepted : (line : List ℕ) (used places all : ℕ) → Ok all ≡ reference_line line used places → IsReference line used places all
unfolding reference_line
reference_accepted line used places all e =
    let l = past_line {X = OrRefused ℕ} Err never (line_of line) _ (sym e) in
    let a = past_field {X = OrRefused ℕ} Err never 1 (unhex line) 0 _ l.rest in
    let k = past_match_lem _ (never _) _ kind_reference _ a.rest in
    record { kind = k.0; added = bases_added _ used places all k.1 }

-- ---- the answer and the reference after it, as one

module _ (line : List ℕ) (used : ℕ) (n : Refusal) (t : List ℕ) where
  pub bases_kept : {r : OrRefused ℕ} → r ≡ Err n → r ≡ reference_line line used (length t) → (r ≡ reference_line line used (length t)) × (t ≡ reference_after line used t)
  unfolding reference_after reference_by
  bases_kept q e = (e, rw (← e, q))

module _ (line : List ℕ) (used n : ℕ) (t : List ℕ) where
  pub reference_stored : {r : OrRefused ℕ} {u : List ℕ} → r ≡ Ok n → r ≡ reference_line line used (length t) → u ≡ stored_at t used (bases_of (unhex line))
      → (r ≡ reference_line line used (length t)) × (u ≡ reference_after line used t)
  unfolding reference_after reference_by
  reference_stored q e f = (e, rw (← e, q) f)

-- ---- what other rooms may say of an answer

module _ (line : List ℕ) (used all : ℕ) (t : List ℕ) (e : Ok all ≡ reference_line line used (length t)) where
  reference_is : reference_after line used t ≡ stored_at t used (bases_of (unhex line))
  unfolding reference_after reference_by
  reference_is = rw (← e)

  bases_fit : used + length (bases_of (unhex line)) ≤ length t
  bases_fit = let w = (reference_accepted line used (length t) all e).added in omega (arith, w.count, w.room)

  -- lines are joined: the bases that were there, then the line's
  pub reference_joined : take all (reference_after line used t) ≡ take used t ++ bases_of (unhex line)
  reference_joined =
      let w = (reference_accepted line used (length t) all e).added in
      rw (reference_is, w.count) (take_stored t used (bases_of (unhex line)) (omega (arith, bases_fit)))

-- the lent slice keeps its length, whatever the line says
pub length_reference : (line : List ℕ) (used : ℕ) (t : List ℕ) → length (reference_after line used t) ≡ length t
length_reference line used t = by (reference_line line used (length t)) refl
  where
    by : (r : OrRefused ℕ) → r ≡ reference_line line used (length t) → length (reference_after line used t) ≡ length t
    by (Ok n) e = ap length (reference_is line used n t e) ∙ length_stored t used _ (bases_fit line used n t e)
    by (Err n) e = ap length (sym (bases_kept line used n t refl e).1)
