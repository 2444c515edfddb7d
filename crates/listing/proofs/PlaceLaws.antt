-- The laws of where to go on: each refusal exactly where document 01 has it, and what is supplied behind each sort of last line.
-- Assumes nothing.
use Prim.Native.Nat.{ℕ, suc, ◌+◌, ◌-◌, ◌<◌}
use native.Mathlib.Omega.{arith}
use mathlib.Core.Path.{◌≡◌, refl, sym, ap, ◌∙◌}
use mathlib.Core.Logic.{◌⊎◌, inl, inr}
use mathlib.Core.List.{List, [], append-nil}
use mathlib.Core.Option.{none, some}
use lib.Dec.{eqb}
use lib.ListN.{length, get_or, take, length-take}
use borrow.Author.Tests.{eq-eqb, ne_eqb, eqb-true, eqb-false}
use Rattle.refusal.specs.Numbers.{missing, other_first, other_last}
use Rattle.frame.specs.Hex.{unhex}
use Rattle.frame.specs.Field.{big_at}
use Rattle.frame.proofs.HexLaws.{by_test}
use Rattle.unit.specs.Pairs.{subsequences}
use Rattle.state.specs.declared.State.{State}
use Rattle.unit.specs.Kinds.{kind_unit, kind_refused, kind_done}
use Rattle.listing.specs.Lines.{joined}
use Rattle.frame.specs.Same.{same_list}
use Rattle.state.specs.Listed.{most_listed, number_place, index_place, state_at}
use Rattle.listing.specs.Record.{Setup, Lawful}
use Rattle.listing.specs.Listing.{Front, alone, unpaired, ready, line05, first_of, rest_of, listing, LawfulFront}
use Rattle.listing.specs.Resuming.{Last, whole, bytes05, bytes06, last_of, nothing, edges, edges_from, on_last, place_by, count_of, counts_of, place, ContinuableLine, ClosingLine, Continues, is_first, is_listed, is_refused, is_done, add, refuse, skip, on_skip, supplied_from, added, supply}
use Rattle.frame.proofs.SameLaws.{same_refl, same_true, same_false, same_not, same_near}
use Rattle.listing.specs.Turn.{run}
use Rattle.listing.proofs.TurnLaws.{run_records}
use Rattle.listing.proofs.LastLaws.{Sorted, listed, closed05, closed06, other, sorted, listed_believed, said_closes, last_near}
use Rattle.state.proofs.HeadLaws.{length_words_at}
use Rattle.state.specs.State.{index_count}

-- there is a symbol count for each subsequence
counts_long : (F : Front) → LawfulFront F → length (counts_of F) ≡ subsequences
unfolding counts_of LawfulFront
counts_long (alone n) w = refl
counts_long (unpaired first n) w = refl
counts_long (ready E) w = w.counts_all

-- ---- nothing kept

pub afresh_whole : (F : Front) → supply F nothing ≡ add (listing F)
unfolding supply place added
afresh_whole F = refl

-- ---- 15, and then 16

pub first_refused : (F : Front) (a z : List ℕ) → (a ≡ first_of F → ⊥) → supply F (edges a z) ≡ refuse other_first
unfolding supply place added
first_refused F a z h = rw (same_false a (first_of F) h)

-- behind the listing's own first line
behind_first : (F : Front) (z : List ℕ) → (z ≡ first_of F → ⊥) → supply F (edges (first_of F) z) ≡ added F (on_last (last_of (count_of F) (counts_of F) z))
unfolding supply place
behind_first F z h = rw (same_refl (first_of F), same_false z (first_of F) h)

pub behind_none : (F : Front) → supply F (edges (first_of F) (first_of F)) ≡ add (joined (rest_of F))
unfolding supply place added
behind_none F = rw (same_refl (first_of F))

pub last_refused : (F : Front) → LawfulFront F → (z : List ℕ) → (Continues F z → ⊥) → supply F (edges (first_of F) z) ≡ refuse other_last
unfolding added
last_refused F w z h = behind_first F z (λ e. h (is_first e)) ∙ by (sorted (count_of F) (counts_of F) z (counts_long F w))
  where
    by : {t : Last} → Sorted (count_of F) (counts_of F) z t → added F (on_last t) ≡ refuse other_last
    by (listed v) = absurd (h (is_listed v))
    by (closed05 v) = absurd (h (is_refused v))
    by (closed06 v) = absurd (h (is_done v))
    by (other a b d) = refl

-- no 04 line can be continued where the front of the files is refused
no_record_lem : (F : Front) (s : State) (n : ℕ) (z : List ℕ) → ContinuableLine (count_of F) (counts_of F) z → supplied_from F s ≡ refuse n → ⊥
unfolding count_of supplied_from
no_record_lem (alone m) s n z v e = omega (arith, v.in_count)
no_record_lem (unpaired first m) s n z v e = omega (arith, v.in_count)
no_record_lem (ready E) s n z v e = let q : ◌≡◌ {A = ℕ} 0 1 = cc in omega arith

-- nothing else is refused
pub refused_only : (F : Front) → LawfulFront F → (a z : List ℕ) (n : ℕ) → supply F (edges a z) ≡ refuse n
    → ((n ≡ other_first) × (a ≡ first_of F → ⊥)) ⊎ ((n ≡ other_last) × (a ≡ first_of F) × (Continues F z → ⊥))
unfolding added
refused_only F w a z n e =
    by_test (same_list a (first_of F))
    (λ t. by_test (same_list z (first_of F))
    (λ u. never (sym (behind_none F) ∙ sym (ap₂ (same_true _ _ t) (same_true _ _ u)) ∙ e))
    (λ u. inr (right (same_true _ _ t) (same_not _ _ u))))
    (λ t. inl (number (sym (first_refused F a z (same_not _ _ t)) ∙ e), same_not _ _ t))
  where
    never : {P : Type 0} {l : List ℕ} → add l ≡ refuse n → P
    never q = let x : ◌≡◌ {A = ℕ} 0 1 = cc in absurd (omega arith)

    number : {m : ℕ} → refuse m ≡ refuse n → n ≡ m
    number q = cc

    ap₂ : a ≡ first_of F → z ≡ first_of F → supply F (edges a z) ≡ supply F (edges (first_of F) (first_of F))
    ap₂ p q = rw (p, q)

    right : a ≡ first_of F → (z ≡ first_of F → ⊥) → (n ≡ other_last) × (a ≡ first_of F) × (Continues F z → ⊥)
    right p h = by (sorted (count_of F) (counts_of F) z (counts_long F w)) (sym (behind_first F z h) ∙ ap (λ (x : List ℕ). supply F (edges x z)) (sym p) ∙ e)
      where
        by : {t : Last} → Sorted (count_of F) (counts_of F) z t → added F (on_last t) ≡ refuse n → (n ≡ other_last) × (a ≡ first_of F) × (Continues F z → ⊥)
        by (listed v) q = absurd (no_record_lem F (state_at (unhex z)) n z v q)
        by (closed05 v) q = never q
        by (closed06 v) q = never q
        by (other b c d) q = (number q, p, none_fits b c d)
          where
            none_fits : (ContinuableLine (count_of F) (counts_of F) z → ⊥) → (ClosingLine kind_refused bytes05 z → ⊥) → (ClosingLine kind_done bytes06 z → ⊥) → Continues F z → ⊥
            none_fits b c d (is_first x) = h x
            none_fits b c d (is_listed x) = b x
            none_fits b c d (is_refused x) = c x
            none_fits b c d (is_done x) = d x

-- ---- behind an 05 or an 06 line nothing is added

-- a line of another kind than 01 that is the listing's first one is its only one
only_line : (F : Front) → LawfulFront F → (z : List ℕ) → (get_or (unhex z) 0 0 ≡ kind_unit → ⊥) → z ≡ first_of F → joined (rest_of F) ≡ []
unfolding LawfulFront first_of rest_of joined
only_line (alone n) w z k q = refl
only_line (unpaired first n) w z k q = absurd (k (ap (λ (x : List ℕ). get_or (unhex x) 0 0) q ∙ w.0.kind))
only_line (ready E) w z k q = absurd (k (ap (λ (x : List ℕ). get_or (unhex x) 0 0) q ∙ w.unit.kind))

closing : (F : Front) → LawfulFront F → (z : List ℕ) → last_of (count_of F) (counts_of F) z ≡ whole → (get_or (unhex z) 0 0 ≡ kind_unit → ⊥)
    → supply F (edges (first_of F) z) ≡ add []
unfolding added
closing F w z e k =
    by_test (same_list z (first_of F))
    (λ t. let q : z ≡ first_of F = same_true _ _ t in
    ap (λ (x : List ℕ). supply F (edges (first_of F) x)) q ∙ behind_none F ∙ ap add (only_line F w z k q))
    (λ t. behind_first F z (same_not _ _ t) ∙ rw e)

pub closed_05 : (F : Front) → LawfulFront F → (z : List ℕ) → ClosingLine kind_refused bytes05 z → supply F (edges (first_of F) z) ≡ add []
closed_05 F w z v = closing F w z (said_closes (count_of F) (counts_of F) z (counts_long F w) (inl v)) (λ q. omega (arith, v.kind))

pub closed_06 : (F : Front) → LawfulFront F → (z : List ℕ) → ClosingLine kind_done bytes06 z → supply F (edges (first_of F) z) ≡ add []
closed_06 F w z v = closing F w z (said_closes (count_of F) (counts_of F) z (counts_long F w) (inr v)) (λ q. omega (arith, v.kind))

-- ---- a well-formed 04 line is believed

pub believed : (E : Setup) → Lawful E → (z : List ℕ) → ContinuableLine E.count E.counts z
    → supply (ready E) (edges E.first z) ≡ add (joined (on_skip E (state_at (unhex z)) (skip (big_at 2 (unhex z) number_place + 1) E.lines)))
unfolding first_of count_of counts_of added supplied_from state_at
believed E w z v =
    behind_first (ready E) z (λ q. omega (arith, v.kind, ap (λ (x : List ℕ). get_or (unhex x) 0 0) q, w.unit.kind))
    ∙ rw (listed_believed E.count E.counts z w.counts_all v)

-- where there are as many record lines, a program goes on behind them
pub goes_on_lem : (E : Setup) → Lawful E → (z : List ℕ) → ContinuableLine E.count E.counts z → (ls : List (List ℕ)) → skip (big_at 2 (unhex z) number_place + 1) E.lines ≡ some ls
    → supply (ready E) (edges E.first z) ≡ add (run E (suc (E.count - (big_at 2 (unhex z) number_place + 1))) (state_at (unhex z)) ls)
unfolding state_at
goes_on_lem E w z v ls e =
    believed E w z v
    ∙ rw e (ap add (sym (run_records w (E.count - (big_at 2 (unhex z) number_place + 1)) (state_at (unhex z)) ls (length_words_at index_count (unhex z) index_place) (omega (arith, v.in_count)))))

-- where the record lines up to its number run out
pub run_out : (E : Setup) → Lawful E → (z : List ℕ) → ContinuableLine E.count E.counts z → skip (big_at 2 (unhex z) number_place + 1) E.lines ≡ none
    → supply (ready E) (edges E.first z) ≡ add (line05 (big_at 2 (unhex z) number_place + 1) missing)
unfolding joined state_at
run_out E w z v e = believed E w z v ∙ rw e (ap add (append-nil (line05 (big_at 2 (unhex z) number_place + 1) missing)))

-- ---- a program needs no more of the two lines than a buffer of n bytes holds

pub place_near : (first : List ℕ) (count : ℕ) (counts : List ℕ) (n : ℕ) (a z : List ℕ) → length first < n → most_listed + 1 < n
    → place_by first count counts (edges_from (take n a) (take n z)) ≡ place_by first count counts (edges_from a z)
unfolding edges_from
place_near first count counts n a z h k =
    rw (empty a)
    (by_test (eqb (length a) 0) (λ t. rw t)
    (λ t. rw (t, same_near n a first h, same_near n z first h, last_near count counts n z k)))
  where
    empty : (a : List ℕ) → eqb (length (take n a)) 0 ≡ eqb (length a) 0
    empty a = by_test (eqb (length a) 0)
        (λ t. rw (t, eq-eqb (length (take n a)) 0 (omega (arith, length-take n a, eqb-true (length a) 0 t))))
        (λ t. let some : length a ≡ 0 → ⊥ = eqb-false (length a) 0 t in rw (t, ne_eqb (length (take n a)) 0 (λ e. some (omega (arith, length-take n a, e)))))
