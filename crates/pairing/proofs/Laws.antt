-- Laws of `pair_of` for the crates above: what a record's pair symbols do to the state, and what they can say. Assumes nothing.
use mathlib.Core.Path.{◌≡◌, refl, sym, ap, ◌∙◌}
use mathlib.Core.Logic.{◌⊎◌, inl, ⊎_elim}
use mathlib.Core.List.{List}
use Prim.Native.Nat.{ℕ, ◌<◌, ◌≤◌}
use native.Mathlib.Omega.{arith}
use lib.Dec.{ltb, eqb, lit≤}
use lib.ListN.{get_or}
use borrow.Author.Tests.{lt-ltb}
use Rattle.unit.specs.declared.Unit.{Unit}
use Rattle.unit.specs.Unit.{class_hm, class_u, most_segments, largest16}
use Rattle.state.specs.declared.State.{State}
use Rattle.taking.specs.Steps.{Steps, Came, came, stopped, came_number, decode}
use Rattle.taking.proofs.Taking.{one_of}
use Rattle.taking.proofs.Decoding.{Ends, Tells, Any, decode_ends}
use Rattle.pairing.specs.declared.Mate.{Mate}
use Rattle.pairing.specs.declared.Mate.TheVariants.{Unpaired}
use Rattle.pairing.specs.declared.Link.{Link}
use Rattle.std.specs.Prelude.{Ok, Err}
use Rattle.refusal.specs.Answers.{OrRefused, answer_number}
use Rattle.refusal.specs.declared.Refusal.{Refusal}
use Rattle.pairing.specs.Table60.{Decoded, mate_seq_id, mapping_pos}
use Rattle.pairing.specs.Pairing.{link_of, paired, pair_steps, pair_of}
use Rattle.pairing.proofs.Cases.{LinkWithin, table60_within, HM_within, Alone, table60_alone, HM_alone, Told, table60_told, HM_told}

-- a record's steps

record_within : (unit : Unit) (bound : ℕ) → unit.sequence ≤ largest16 → Ends (λ v. v < bound) (λ d. LinkWithin bound (link_of d)) (pair_steps unit)
unfolding pair_steps
record_within unit bound h =
    let P : Steps Decoded → Type 0 = Ends (λ v. v < bound) (λ d. LinkWithin bound (link_of d)) in
    one_of P (ltb unit.segments most_segments) _ _
    record { first = lit≤ tt; split = lit≤ tt; one = lit≤ tt; two = lit≤ tt; mate = tt }
    (one_of P (eqb unit.class class_hm) _ _ (HM_within unit.class bound) (λ code _. table60_within unit.class bound unit.sequence code h))

record_alone : (unit : Unit) → (unit.class ≡ class_u) ⊎ (unit.class ≡ class_hm) → Ends Any Alone (pair_steps unit)
unfolding pair_steps
record_alone unit h =
    let P : Steps Decoded → Type 0 = Ends Any Alone in
    one_of P (ltb unit.segments most_segments) _ _ refl
    (⊎_elim
    (λ u. rw u (λ code _. table60_alone unit.sequence code))
    (λ m. rw m HM_alone)
    h)

-- a refusal is 5, 6 or 7
pub pair_tells : (unit : Unit) → Tells Told (pair_steps unit)
unfolding pair_steps
pair_tells unit =
    one_of (Tells Told) (ltb unit.segments most_segments) _ _ tt
    (one_of (Tells Told) (eqb unit.class class_hm) _ _ HM_told (inl refl, λ code. table60_told unit.class unit.sequence code))

-- the answer's number is that of what the steps come to
pub pair_number_lem : (x : Came Decoded) → answer_number (paired x) ≡ came_number x
pair_number_lem (came d next) = refl
pair_number_lem (stopped n) = refl

-- what an accepted answer stands for
pub record PairCame (unit : Unit) (symbols counts : List ℕ) (st : State) (link : Link) (next : State) : Type 0 where
  pub decoded : Decoded
  pub is : decode symbols counts st (pair_steps unit) ≡ came decoded next
  pub link_is : link_of decoded ≡ link

module _ (unit : Unit) (symbols counts : List ℕ) (st : State) where
  pub pair_came : (link : Link) (next : State) → pair_of unit symbols counts st ≡ Ok (link, next) → PairCame unit symbols counts st link next
  unfolding pair_of
  pair_came link next e = by (decode symbols counts st (pair_steps unit)) refl e
    where
      by : (x : Came Decoded) → decode symbols counts st (pair_steps unit) ≡ x → paired x ≡ Ok (link, next) → PairCame unit symbols counts st link next
      by (came d behind) q w =
          let both : ◌≡◌ {A = Link × State} (link_of d, behind) (link, next) = cc in
          let s : behind ≡ next = ap (λ (x : Link × State). x.1) both in
          record { decoded = d; is = rw s at q; link_is = ap (λ (x : Link × State). x.0) both }
      by (stopped n) q w = absurd (let z : ◌≡◌ {A = ℕ} 0 1 = cc in omega arith)

  pub pair_stopped : (n : Refusal) → pair_of unit symbols counts st ≡ Err n → decode symbols counts st (pair_steps unit) ≡ stopped n
  unfolding pair_of
  pair_stopped n e = by (decode symbols counts st (pair_steps unit)) e
    where
      by : (x : Came Decoded) → paired x ≡ Err n → x ≡ stopped n
      by (came d next) w = absurd (let z : ◌≡◌ {A = ℕ} 0 1 = cc in omega arith)
      by (stopped k) w = cc

  -- one template segment takes nothing
  pub pair_single : unit.segments < most_segments → pair_of unit symbols counts st ≡ Ok (record { first = 1; split = 0; segments = 1; mate = Unpaired }, st)
  unfolding pair_of pair_steps decode
  pair_single h = rw (lt-ltb unit.segments most_segments h) refl

  -- links

  -- the bounds of a link, where the unit's sequence id has 16 bits and every symbol is below `bound`
  pub link_within : (bound : ℕ) → unit.sequence ≤ largest16 → ((at : ℕ) → get_or symbols at 0 < bound) → (link : Link) (next : State) → pair_of unit symbols counts st ≡ Ok (link, next) → LinkWithin bound link
  link_within bound h every link next e =
      let w = pair_came link next e in
      rw w.link_is at (decode_ends symbols counts (λ v. v < bound) (λ d. LinkWithin bound (link_of d)) every (pair_steps unit) st (record_within unit bound h) w.decoded next w.is)

  -- in classes U and HM no mate is aligned: of the symbols passed over none is used
  pub link_alone : (unit.class ≡ class_u) ⊎ (unit.class ≡ class_hm) → (link : Link) (next : State) → pair_of unit symbols counts st ≡ Ok (link, next) → link.mate ≡ Unpaired
  link_alone h link next e =
      let w = pair_came link next e in
      ap (λ (x : Link). x.mate) (sym w.link_is) ∙ decode_ends symbols counts Any Alone (λ at. refl) (pair_steps unit) st (record_alone unit h) w.decoded next w.is

-- what the promises admit: two answers that keep one equation are one

pub pair_one : (unit : Unit) (symbols counts : List ℕ) (st : State) (x y : OrRefused (Link × State)) → x ≡ pair_of unit symbols counts st → y ≡ pair_of unit symbols counts st → x ≡ y
pair_one unit symbols counts st x y p q = cc

pub mate_sequence_one : (seqId : ℕ) (m : Mate) (x y : ℕ) → x ≡ mate_seq_id seqId m → y ≡ mate_seq_id seqId m → x ≡ y
mate_sequence_one seqId m x y p q = cc

pub mate_position_one : (pos : ℕ) (m : Mate) (x y : ℕ) → x ≡ mapping_pos pos m → y ≡ mapping_pos pos m → x ≡ y
mate_position_one pos m x y p q = cc
