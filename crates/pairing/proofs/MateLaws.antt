-- The laws of a record's mate: one at a delta stands in the same record.
-- Assumes nothing.
use mathlib.Core.Path.{◌≡◌, refl}
use mathlib.Core.List.{List}
use Prim.Native.Nat.{ℕ}
use lib.Dec.{ltb, eqb}
use Rattle.unit.specs.Unit.{class_hm, class_u, most_segments}
use Rattle.unit.specs.declared.Unit.{Unit as UnitOf}
use Rattle.state.specs.declared.State.{State}
use Rattle.pairing.specs.Table60.{Decoded, mate_at, HM_same_rec, same_rec, split, diff_ref_seq, table60}
use Rattle.taking.specs.Steps.{Steps}
use Rattle.pairing.specs.Pairing.{link_of, pair_steps, pair_of}
use Rattle.pairing.specs.declared.Mate.{Mate}
use Rattle.pairing.specs.declared.Mate.TheVariants.{Unpaired, Near, Far}
use Rattle.pairing.specs.declared.Link.{Link}
use Rattle.std.specs.Prelude.{Ok}
use Rattle.taking.proofs.Taking.{one_of}
use Rattle.taking.proofs.Decoding.{Ends, Any, fits_ends, decode_ends}
use Rattle.pairing.proofs.Cases.{by_case}
use Rattle.pairing.proofs.Laws.{pair_came}

abbrev pub SameRecord : ℕ → Mate → Type 0
SameRecord segments Unpaired = Unit
SameRecord segments (Near delta) = segments ≡ most_segments
SameRecord segments (Far sequence position) = Unit

abbrev pub Together : Link → Type 0
Together link = SameRecord link.segments link.mate

abbrev End : Decoded → Type 0
End d = Together (link_of d)

abbrev AllTogether : Steps Decoded → Type 0
AllTogether p = Ends Any End p

mate_at_lem : (class segments sequence position : ℕ) → SameRecord segments (mate_at class sequence position)
unfolding mate_at
mate_at_lem class segments sequence position = one_of (SameRecord segments) (eqb class class_u) _ _ tt tt

split_together : (class sequence N first : ℕ) → AllTogether (split class sequence N first)
unfolding split
split_together class sequence N first = λ position _. mate_at_lem class 1 sequence position

diff_together : (class N Q first : ℕ) → AllTogether (diff_ref_seq class N Q first)
unfolding diff_ref_seq
diff_together class N Q first = λ id _. one_of AllTogether (eqb class class_u) _ _ (split_together class id Q first) (fits_ends Any End id _ (λ _. split_together class id Q first))

table60_together : (class sequence code : ℕ) → AllTogether (table60 class sequence code)
unfolding same_rec
table60_together class sequence code =
    by_case AllTogether class sequence code (one_of AllTogether (eqb class class_u) _ _ tt (λ v _. fits_ends Any End v _ (λ _. refl)))
    (split_together class sequence 2 0)
    (split_together class sequence 3 1)
    (diff_together class 4 6 0)
    (diff_together class 5 7 1)
    tt
    tt
    tt

record_together : (u : UnitOf) → AllTogether (pair_steps u)
unfolding pair_steps HM_same_rec
record_together u =
    one_of AllTogether (ltb u.segments most_segments) _ _ tt
    (one_of AllTogether (eqb u.class class_hm) _ _ (λ v _. fits_ends Any End v _ (λ _. tt)) (λ code _. table60_together u.class u.sequence code))

pub link_together : (u : UnitOf) (symbols counts : List ℕ) (st : State) (link : Link) (next : State) → pair_of u symbols counts st ≡ Ok (link, next) → Together link
link_together u symbols counts st link next e =
    let w = pair_came u symbols counts st link next e in
    rw w.link_is at (decode_ends symbols counts Any End (λ at. refl) (pair_steps u) st (record_together u) w.decoded next w.is)
