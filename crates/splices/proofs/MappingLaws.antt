-- Where the pieces map: what is looked up where their symbols stand is what Table 62 comes to.
-- Assumes nothing.
use Prim.Native.Nat.{ℕ, ◌+◌}
use mathlib.Core.Path.{◌≡◌, refl, sym, ap, ◌∙◌}
use mathlib.Core.List.{List, [], ◌∷◌}
use native.Mathlib.Omega.{arith}
use borrow.Author.Tests.{eqb-true, eqb-false, eq-eqb, ne_eqb}
use lib.Dec.{ltb, eqb}
use Rattle.frame.proofs.Tests.{by_test}
use Rattle.refusal.specs.declared.Refusal.{Refusal}
use Rattle.unit.specs.Unit.{largest16}
use Rattle.state.specs.State.{Shaped, taken, raised}
use Rattle.state.specs.declared.State.{State}
use Rattle.taking.specs.Take.{symbol_of}
use Rattle.taking.specs.Steps.{sets, within16, and_then, Came, came, stopped, with_symbol, decode}
use Rattle.taking.proofs.Taking.{take_cases, raised_other, raised_same, raised_long}
use Rattle.taking.proofs.Decoding.{then_came}
use Rattle.edits.specs.Pieces.{SignedPosition, straight, onwards}
use Rattle.splices.specs.Table62.{by_delta, same_rec_short, same_rec_long, table62, next_mapping_pos, spliced_seg_mapping_pos}
use Rattle.splices.specs.Located.{mapping_of, following, positions_from}
use Rattle.splices.specs.declared.mapping.Mapping.{Mapping}

-- where a piece at a position maps, and its next symbols stand
abbrev pub mapping_at : SignedPosition → State → Mapping
mapping_at position st = mapping_of position (taken st 0) (taken st 1) (taken st 3)

-- what a turn of Table 62 comes to, and the state behind its symbols
record NextFound (symbols : List ℕ) (st : State) (position : SignedPosition) (n : ℕ) (p : SignedPosition) (middle : State) : Type 0 where
  pub mapping : mapping_at p middle ≡ following symbols (mapping_at position st) n
  pub shaped : Shaped middle

never : {A : Type 0} {P : Type 0} {n : Refusal} {a : A} {st : State} → ◌≡◌ {A = Came A} (stopped n) (came a st) → P
never e = absurd (let z : ◌≡◌ {A = ℕ} 0 1 = cc in omega arith)

module _ (symbols counts : List ℕ) (st : State) (shape : Shaped st) (position : SignedPosition) (n : ℕ) where
  abbrev once : State
  once = raised st 0

  once_shaped : Shaped once
  once_shaped = raised_long st 0 ∙ shape

  once_0 : taken once 0 ≡ taken st 0 + 1
  once_0 = raised_same st 0 (omega arith)

  short_found : (p : SignedPosition) (middle : State) → symbol_of symbols st 0 ≡ 0 → decode symbols counts once (same_rec_short (onwards n position)) ≡ came p middle → NextFound symbols st position n p middle
  unfolding same_rec_short decode following
  short_found p middle z =
      take_cases symbols counts once 1
      (λ t. with_symbol t (λ v m. decode symbols counts m (within16 v (sets (by_delta (onwards n position) v)))) ≡ came p middle → NextFound symbols st position n p middle)
      (λ e. never e)
      (λ there.
      let v = symbol_of symbols once 1 in
      let one : taken once 1 ≡ taken st 1 = raised_other st 0 1 (λ w. omega arith) in
      by_test (ltb largest16 v)
      (λ t e. never (rw t at e))
      (λ t e.
      let d : ◌≡◌ {A = Came SignedPosition} (came (by_delta (onwards n position) v) (raised once 1)) (came p middle) = rw t at e in
      let value : by_delta (onwards n position) v ≡ p = cc in
      let state : raised once 1 ≡ middle = cc in
      let a : taken (raised once 1) 0 ≡ taken st 0 + 1 = raised_other once 1 0 (λ w. omega arith) ∙ once_0 in
      let b : taken (raised once 1) 1 ≡ taken st 1 + 1 = raised_same once 1 (omega (arith, once_shaped)) ∙ ap (λ (k : ℕ). k + 1) one in
      let f : taken (raised once 1) 3 ≡ taken st 3 = raised_other once 1 3 (λ w. omega arith) ∙ raised_other st 0 3 (λ w. omega arith) in
      rw (← state, ← value)
      record {
        mapping = rw (a, b, f, eq-eqb _ _ z, one) refl;
        shaped = raised_long once 1 ∙ once_shaped;
      }))

  long_found : (p : SignedPosition) (middle : State) → (symbol_of symbols st 0 ≡ 0 → ⊥) → decode symbols counts once same_rec_long ≡ came p middle → NextFound symbols st position n p middle
  unfolding same_rec_long decode following
  long_found p middle z =
      take_cases symbols counts once 3
      (λ t. with_symbol t (λ v m. decode symbols counts m (sets (straight v))) ≡ came p middle → NextFound symbols st position n p middle)
      (λ e. never e)
      (λ there e.
      let v = symbol_of symbols once 3 in
      let three : taken once 3 ≡ taken st 3 = raised_other st 0 3 (λ w. omega arith) in
      let value : straight v ≡ p = cc in
      let state : raised once 3 ≡ middle = cc in
      let a : taken (raised once 3) 0 ≡ taken st 0 + 1 = raised_other once 3 0 (λ w. omega arith) ∙ once_0 in
      let b : taken (raised once 3) 1 ≡ taken st 1 = raised_other once 3 1 (λ w. omega arith) ∙ raised_other st 0 1 (λ w. omega arith) in
      let f : taken (raised once 3) 3 ≡ taken st 3 + 1 = raised_same once 3 (omega (arith, once_shaped)) ∙ ap (λ (k : ℕ). k + 1) three in
      rw (← state, ← value)
      record {
        mapping = rw (a, b, f, ne_eqb _ _ z, three) refl;
        shaped = raised_long once 3 ∙ once_shaped;
      })

  next_found : (p : SignedPosition) (middle : State) → decode symbols counts st (next_mapping_pos (onwards n position)) ≡ came p middle → NextFound symbols st position n p middle
  unfolding next_mapping_pos table62 decode
  next_found p middle =
      take_cases symbols counts st 0
      (λ t. with_symbol t (λ v m. decode symbols counts m (table62 (onwards n position) v)) ≡ came p middle → NextFound symbols st position n p middle)
      (λ e. never e)
      (λ there.
      by_test (eqb (symbol_of symbols st 0) 0)
      (λ t e. short_found p middle (eqb-true _ _ t) (rw t at e))
      (λ t. by_test (eqb (symbol_of symbols st 0) 2)
      (λ u e. long_found p middle (eqb-false _ _ t) (rw (t, u) at e))
      (λ u e. never (rw (t, u) at e))))

pub positions_found : (symbols counts : List ℕ) (position : SignedPosition) (lengths : List ℕ) (st : State) (ps : List SignedPosition) (next : State) → Shaped st
    → decode symbols counts st (spliced_seg_mapping_pos position lengths) ≡ came ps next → ps ≡ positions_from symbols (mapping_at position st) lengths
unfolding spliced_seg_mapping_pos positions_from decode
positions_found symbols counts position [] st ps next shape e = cc
positions_found symbols counts position (n ∷ []) st ps next shape e = cc
positions_found symbols counts position (n ∷ m ∷ ns) st ps next shape e =
    let t = then_came symbols counts (next_mapping_pos (onwards n position)) (λ p. and_then (spliced_seg_mapping_pos p (m ∷ ns)) (λ rest. sets (position ∷ rest))) st ps next e in
    let f = next_found symbols counts st shape position n t.value t.middle t.first in
    let u = then_came symbols counts (spliced_seg_mapping_pos t.value (m ∷ ns)) (λ rest. sets (position ∷ rest)) t.middle ps next t.rest in
    let i = positions_found symbols counts t.value (m ∷ ns) t.middle u.value u.middle f.shaped u.first in
    let g : position ∷ u.value ≡ ps = cc in
    sym g ∙ ap (λ (l : List SignedPosition). position ∷ l) (i ∙ ap (λ (x : Mapping). positions_from symbols x (m ∷ ns)) f.mapping)
