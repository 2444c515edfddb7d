-- What Table 60's cases are: their ends are within a line's bounds, and classes U and HM have no aligned mate. Assumes nothing.
use mathlib.Core.Path.{◌≡◌, refl}
use mathlib.Core.Logic.{◌⊎◌, inl, inr}
use mathlib.Core.Bool.{true}
use Prim.Native.Nat.{ℕ, ◌/◌, ◌<◌, ◌≤◌}
use native.Mathlib.Omega.{arith}
use lib.Dec.{eqb, lit≤}
use Rattle.unit.specs.Unit.{class_u, most_segments, largest16}
use Rattle.pairing.specs.declared.Mate.{Mate}
use Rattle.pairing.specs.declared.Mate.TheVariants.{Unpaired, Near, Far}
use Rattle.pairing.specs.declared.Link.{Link}
use Rattle.pairing.specs.Table60.{Decoded, mate_seq_id, mate_at, HM_same_rec, same_rec, split, diff_ref_seq, R1_unpaired, R2_unpaired, table60}
use Rattle.taking.specs.Steps.{Steps, reserved}
use Rattle.taking.proofs.Taking.{by_test, one_of}
use Rattle.taking.proofs.Decoding.{Ends, Tells, Any, fits_ends, fits_tells}
use Rattle.pairing.specs.Pairing.{link_of}
use Rattle.refusal.specs.declared.Refusal.{Refusal}
use Rattle.refusal.specs.declared.Refusal.TheVariants.{UsedUp, CodeOut, ValueOut}

-- every case

-- what holds of each row of Table 60 holds of the case of any code
pub by_case : (P : Steps Decoded → Type 0) (classId seqId code : ℕ) → P (same_rec classId) → P (split classId seqId 2 0) → P (split classId seqId 3 1) → P (diff_ref_seq classId 4 6 0) → P (diff_ref_seq classId 5 7 1) → P R1_unpaired → P R2_unpaired → P reserved → P (table60 classId seqId code)
unfolding table60
by_case P classId seqId code r0 r1 r2 r3 r4 r5 r6 out =
    one_of P (eqb code 0) _ _ r0
    (one_of P (eqb code 1) _ _ r1
    (one_of P (eqb code 2) _ _ r2
    (one_of P (eqb code 3) _ _ r3
    (one_of P (eqb code 4) _ _ r4
    (one_of P (eqb code 5) _ _ r5
    (one_of P (eqb code 6) _ _ r6 out))))))

-- the bounds that a line's fields need, in Table 60's cases

-- the mate of a link, where every symbol is below `bound`
abbrev pub MateWithin : ℕ → Mate → Type 0
MateWithin bound Unpaired = Unit {0}
MateWithin bound (Near delta) = delta ≤ largest16 / 2
MateWithin bound (Far sequence position) = (sequence ≤ largest16) × (position < bound)

pub record LinkWithin (bound : ℕ) (link : Link) : Type 0 where
  pub first : link.first ≤ 1
  pub split : link.split ≤ 2
  pub one : 1 ≤ link.segments
  pub two : link.segments ≤ most_segments
  pub mate : MateWithin bound link.mate

module _ (classId bound : ℕ) where
  abbrev pub Below : ℕ → Type 0
  Below v = v < bound

  abbrev End : Decoded → Type 0
  End d = LinkWithin bound (link_of d)

  abbrev pub IndexesWithin : Steps Decoded → Type 0
  IndexesWithin p = Ends Below End p

  at_within : (sequence position : ℕ) → sequence ≤ largest16 → position < bound → MateWithin bound (mate_at classId sequence position)
  unfolding mate_at
  at_within sequence position h k = one_of (MateWithin bound) (eqb classId class_u) _ _ tt (h, k)

  split_within : (sequence N first : ℕ) → sequence ≤ largest16 → first ≤ 1 → IndexesWithin (split classId sequence N first)
  unfolding split
  split_within sequence N first h l =
      λ position k. record { first = l; split = lit≤ tt; one = lit≤ tt; two = lit≤ tt; mate = at_within sequence position h k }

  -- in class U the mate is not looked at
  split_unused : (sequence N first : ℕ) → eqb classId class_u ≡ true → first ≤ 1 → IndexesWithin (split classId sequence N first)
  unfolding split mate_at
  split_unused sequence N first u l =
      λ position k. record { first = l; split = lit≤ tt; one = lit≤ tt; two = lit≤ tt; mate = rw u tt }

  diff_within : (N Q first : ℕ) → first ≤ 1 → IndexesWithin (diff_ref_seq classId N Q first)
  unfolding diff_ref_seq
  diff_within N Q first l =
      λ id _. by_test IndexesWithin (eqb classId class_u) _ _ (λ u. split_unused id Q first u l) (λ _. fits_ends Below End id _ (λ fits. split_within id Q first fits l))

  pub table60_within : (seqId code : ℕ) → seqId ≤ largest16 → IndexesWithin (table60 classId seqId code)
  unfolding same_rec
  table60_within seqId code h =
      by_case IndexesWithin classId seqId code
      (one_of IndexesWithin (eqb classId class_u) _ _
      record { first = lit≤ tt; split = lit≤ tt; one = lit≤ tt; two = lit≤ tt; mate = tt }
      (λ v _. fits_ends Below End v _ (λ fits. record { first = omega arith; split = lit≤ tt; one = lit≤ tt; two = lit≤ tt; mate = omega arith })))
      (split_within seqId 2 0 h (lit≤ tt))
      (split_within seqId 3 1 h (lit≤ tt))
      (diff_within 4 6 0 (lit≤ tt))
      (diff_within 5 7 1 (lit≤ tt))
      record { first = lit≤ tt; split = lit≤ tt; one = lit≤ tt; two = lit≤ tt; mate = tt }
      record { first = lit≤ tt; split = lit≤ tt; one = lit≤ tt; two = lit≤ tt; mate = tt }
      tt

  pub HM_within : IndexesWithin HM_same_rec
  unfolding HM_same_rec
  HM_within = λ v _. fits_ends Below End v _ (λ fits. record { first = omega arith; split = lit≤ tt; one = lit≤ tt; two = lit≤ tt; mate = tt })

-- what they refuse

-- 5, 6 or 7
abbrev pub Told : Refusal → Type 0
Told n = (n ≡ UsedUp) ⊎ ((n ≡ CodeOut) ⊎ (n ≡ ValueOut))

split_told : (classId sequence N first : ℕ) → Tells Told (split classId sequence N first)
unfolding split
split_told classId sequence N first = (inl refl, λ position. tt)

diff_told : (classId N Q first : ℕ) → Tells Told (diff_ref_seq classId N Q first)
unfolding diff_ref_seq
diff_told classId N Q first =
    (inl refl, λ id. one_of (Tells Told) (eqb classId class_u) _ _ (split_told classId id Q first) (fits_tells Told id _ (inr (inr refl)) (split_told classId id Q first)))

pub table60_told : (classId seqId code : ℕ) → Tells Told (table60 classId seqId code)
unfolding same_rec
table60_told classId seqId code =
    by_case (Tells Told) classId seqId code
    (one_of (Tells Told) (eqb classId class_u) _ _ tt (inl refl, λ v. fits_tells Told v _ (inr (inr refl)) tt))
    (split_told classId seqId 2 0)
    (split_told classId seqId 3 1)
    (diff_told classId 4 6 0)
    (diff_told classId 5 7 1)
    tt
    tt
    (inr (inl refl))

pub HM_told : Tells Told HM_same_rec
unfolding HM_same_rec
HM_told = (inl refl, λ v. fits_tells Told v _ (inr (inr refl)) tt)

-- classes U and HM have no aligned mate

abbrev pub Alone : Decoded → Type 0
Alone d = d.mate ≡ Unpaired

split_alone : (sequence N first : ℕ) → Ends Any Alone (split class_u sequence N first)
unfolding split mate_at
split_alone sequence N first = λ position _. refl

diff_alone : (N Q first : ℕ) → Ends Any Alone (diff_ref_seq class_u N Q first)
unfolding diff_ref_seq
diff_alone N Q first = λ id _. split_alone id Q first

pub table60_alone : (seqId code : ℕ) → Ends Any Alone (table60 class_u seqId code)
unfolding same_rec
table60_alone seqId code =
    by_case (Ends Any Alone) class_u seqId code refl (split_alone seqId 2 0) (split_alone seqId 3 1) (diff_alone 4 6 0) (diff_alone 5 7 1) refl refl tt

pub HM_alone : Ends Any Alone HM_same_rec
unfolding HM_same_rec
HM_alone = λ v _. fits_ends Any Alone v _ (λ _. refl)

-- the listed sequence id of the mate has 16 bits where the unit's has
pub sequence_within : (bound seqId : ℕ) (m : Mate) → seqId ≤ largest16 → MateWithin bound m → mate_seq_id seqId m ≤ largest16
sequence_within bound seqId Unpaired h w = lit≤ tt
sequence_within bound seqId (Near delta) h w = h
sequence_within bound seqId (Far sequence position) h w = w.0
