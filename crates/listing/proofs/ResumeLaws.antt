-- The laws of resuming: each line of a listing knows what follows it, so a listing that was stopped at any byte is made whole.
-- Assumes nothing.
use Prim.Native.Nat.{ℕ, zero, suc, ◌+◌, ◌-◌, ◌*◌, ◌≤◌}
use native.Mathlib.Numerals.{add-one}
use native.Mathlib.Omega.{arith}
use mathlib.Core.Path.{◌≡◌, refl, sym, ap, ◌∙◌}
use mathlib.Core.Bool.{Bool, true, false, cond}
use mathlib.Core.List.{List, [], ◌∷◌, ◌++◌, append_assoc}
use mathlib.Core.Option.{none, some}
use lib.ListN.{length, get_or, drop}
use lib.Seq.{take-nil, drop-append_seam}
use Rattle.refusal.specs.Numbers.{number_of, missing}
use Rattle.frame.specs.Hex.{Bytes, unhex, be}
use Rattle.frame.specs.Line.{line_digits}
use Rattle.frame.specs.Field.{big_at}
use Rattle.frame.proofs.HexLaws.{by_test}
use Rattle.frame.proofs.LineLaws.{line_of_bytes, unhex_line, line_is_frame}
use Rattle.state.specs.State.{fresh_state, Shaped, all_taken}
use Rattle.state.specs.declared.State.{State}
use Rattle.unit.specs.Kinds.{kind_unit, kind_listed}
use Rattle.listing.specs.Lines.{lines_of, joined, ends, kept, WholeLine}
use Rattle.frame.specs.Same.{same_list}
use Rattle.state.specs.Listed.{listed_head, Step, refused, accepted, number_place, state_at}
use Rattle.listing.specs.Record.{Setup, Accepted, FirstLine, Lawful}
use Rattle.listing.specs.Listing.{Front, alone, unpaired, ready, frame05, line05, frame06, line06, last_line, on_step, records, first_of, rest_of, listing, LawfulFront}
use Rattle.listing.specs.Resuming.{go_on, last_of, last_from, edges_of, second, on_last, count_of, counts_of, place, Supplied, add, skip, supplied_from, added, supply, supplied, resumed, torn, resumed_again}
use Rattle.listing.proofs.LinesLaws.{whole_bytes, whole_frame, whole_ends, lines_line, kept_zeros, Cut, inside, beyond, kept_cut}
use Rattle.frame.proofs.SameLaws.{same_refl, same_false}
use Rattle.state.proofs.HeadLaws.{state_head}
use Rattle.state.proofs.StateLaws.{within_all}
use Rattle.listing.proofs.LastLaws.{last_bytes, bytes_05, bytes_06, last_05, last_06, frame_listed}

-- ---- the first line

-- a line of another kind is not the unit line
pub other_first_lem : {first : List ℕ} → FirstLine first → (bs : List ℕ) → Bytes bs → (get_or bs 0 0 ≡ kind_unit → ⊥) → same_list (line_of_bytes bs) first ≡ false
other_first_lem {first} w bs b h = same_false (line_of_bytes bs) first (λ e. h (ap (λ (l : List ℕ). get_or l 0 0) (sym (unhex_line bs b) ∙ ap unhex e) ∙ w.kind))

-- the line of any bytes of kind 01 that an input line can hold
pub first_line : (bs : List ℕ) → Bytes bs → 2 * length bs ≤ line_digits → get_or bs 0 0 ≡ kind_unit → FirstLine (line_of_bytes bs)
first_line bs b l k =
    record { size = length bs; well_formed = line_is_frame line_digits bs b l; kind = ap (λ (x : List ℕ). get_or x 0 0) (unhex_line bs b) ∙ k }

pub first_whole : (F : Front) → LawfulFront F → WholeLine (first_of F)
unfolding first_of LawfulFront line05
first_whole (alone n) w = whole_bytes _
first_whole (unpaired first n) w = whole_frame line_digits first w.0.size w.0.well_formed
first_whole (ready E) w = whole_frame line_digits E.first w.unit.size w.unit.well_formed

pub whole_05 : (q n : ℕ) → WholeLine (line05 q n)
unfolding line05
whole_05 q n = whole_bytes _

pub whole_06 : (q : ℕ) → WholeLine (line06 q)
unfolding line06
whole_06 q = whole_bytes _

other_05 : {first : List ℕ} → FirstLine first → (q n : ℕ) → same_list (line05 q n) first ≡ false
unfolding line05 be
other_05 w q n = other_first_lem w (frame05 q n) (bytes_05 q n) (λ e. omega arith)

other_06 : {first : List ℕ} → FirstLine first → (q : ℕ) → same_list (line06 q) first ≡ false
unfolding line06 be
other_06 w q = other_first_lem w (frame06 q) (bytes_06 q) (λ e. omega arith)

-- ---- record lines passed over

pub skip_more : (j : ℕ) (ms : List (List ℕ)) {l : List ℕ} {ls : List (List ℕ)} → skip j ms ≡ some (l ∷ ls) → ends l ≡ true → skip (suc j) ms ≡ some ls
unfolding skip
skip_more zero [] {l} {ls} e h = cc
skip_more zero (m ∷ ms) {l} {ls} e h =
    let t : ends m ≡ true = cc in
    simp t (cc)
skip_more (suc j) [] e h = cc
skip_more (suc j) (m ∷ ms) {l} {ls} e h = by (ends m) e (λ e. skip_more j ms e h)
  where
    by : (t : Bool) → cond t (skip j ms) none ≡ some (l ∷ ls) → (skip j ms ≡ some (l ∷ ls) → skip (suc j) ms ≡ some ls) → cond t (skip (suc j) ms) none ≡ some ls
    by true e go = go e
    by false e go = cc

-- ---- lines of which resuming knows what follows

-- what is supplied behind a last kept line
abbrev after : Front → List ℕ → Supplied
after F z = added F (cond (same_list z (first_of F)) second (on_last (last_of (count_of F) (counts_of F) z)))

data Good (F : Front) : List (List ℕ) → Type 0 where
  end : Good F []
  next : {l : List ℕ} {ls : List (List ℕ)} → WholeLine l → after F l ≡ add (joined ls) → Good F ls → Good F (l ∷ ls)

state_number : (frame : List ℕ) (t : State) → state_at frame ≡ t → big_at 2 frame number_place + 1 ≡ t.number
unfolding state_at
state_number frame t e = ap (λ (x : State). x.number) e

pub accepted_kind : {E : Setup} {s : State} {l frame : List ℕ} {t : State} → Accepted E s l frame t → get_or frame 0 0 ≡ kind_listed
unfolding listed_head be
accepted_kind a = rw a.head refl

-- the 04 line of an accepted record says the state behind it
pub accepted_says : {E : Setup} → Lawful E → {s : State} {l frame : List ℕ} {t : State} → Accepted E s l frame t → last_of E.count E.counts (line_of_bytes frame) ≡ go_on t
accepted_says {E} w {s} {l} {frame} {t} a =
    let state : state_at frame ≡ t =
    rw a.head
    (state_head s.number t a.tail (omega (arith, a.in_count, w.count_fits))
    (λ i. omega (arith, a.in_counts i, w.counts_fit i)) a.indexes a.number) in
    let number : big_at 2 frame number_place + 1 ≡ t.number = state_number frame t state in
    last_bytes E.count E.counts frame a.bytes a.most
    ∙ frame_listed E.count E.counts frame (accepted_kind a) a.least (omega (arith, number, a.number, a.in_count))
    (rw state (within_all t.index E.counts (a.indexes ∙ sym w.counts_all) a.in_counts))
    ∙ ap go_on state

-- the last line, of whichever kind
module _ {F : Front} (first : List ℕ) (is : first_of F ≡ first) (w : FirstLine first) where
  good_05 : (q n : ℕ) → Good F (line05 q n ∷ [])
  unfolding added joined
  good_05 q n = next {l = line05 q n} {ls = []} (whole_05 q n) (rw (is, other_05 w q n, last_05 (count_of F) (counts_of F) q n)) end

  good_06 : (q : ℕ) → Good F (line06 q ∷ [])
  unfolding added joined
  good_06 q = next {l = line06 q} {ls = []} (whole_06 q) (rw (is, other_06 w q, last_06 (count_of F) (counts_of F) q)) end

module _ {E : Setup} (w : Lawful E) where
  good_last : (s : State) (ls : List (List ℕ)) → Good (ready E) (last_line E s ls ∷ [])
  unfolding last_line first_of
  good_last s [] =
      by_test (all_taken s E.counts)
      (λ t. rw t (good_06 E.first refl w.unit E.count))
      (λ t. rw t (good_05 E.first refl w.unit E.count missing))
  good_last s (l ∷ ls) = good_05 E.first refl w.unit E.count missing

  -- the listing from a state on, where the record lines up to the state's number have been passed over
  good : (k : ℕ) (s : State) (ls : List (List ℕ)) → Shaped s → s.number + k ≡ E.count → skip s.number E.lines ≡ some ls → Good (ready E) (records E k s ls)
  unfolding records first_of added count_of counts_of supplied_from
  good zero s ls i e h = good_last s ls
  good (suc k) s [] i e h = good_05 E.first refl w.unit s.number missing
  good (suc k) s (l ∷ ls) i e h = by (E.step s l) refl (λ t. good k t ls)
    where
      by : (t : Step) → E.step s l ≡ t → ((u : State) → Shaped u → u.number + k ≡ E.count → skip u.number E.lines ≡ some ls → Good (ready E) (records E k u ls))
          → Good (ready E) (on_step s.number t (λ u. records E k u ls))
      by (refused n) t go = good_05 E.first refl w.unit s.number (number_of n)
      by (accepted frame u) t go =
          let a : Accepted E s l frame u = w.acceptance s l frame u i t in
          let ended : ends l ≡ true = whole_ends (whole_frame line_digits l a.size a.well_formed) in
          let at : skip u.number E.lines ≡ some ls = rw (a.number, add-one) (skip_more s.number E.lines h ended) in
          let left : E.count - u.number ≡ k = omega (arith, a.number) in
          let other : same_list (line_of_bytes frame) E.first ≡ false = other_first_lem w.unit frame a.bytes (λ q. omega (arith, accepted_kind a)) in
          next {l = line_of_bytes frame} {ls = records E k u ls} (whole_bytes frame) (rw (other, accepted_says w a, at, left)) (go u a.indexes (omega (arith, a.number)) at)

-- the lines behind the first
goods : (F : Front) → LawfulFront F → Good F (rest_of F)
unfolding LawfulFront rest_of first_of skip
goods (alone n) w = end
goods (unpaired first n) w = good_05 first refl w.0 0 n
goods (ready E) w = good w E.count fresh_state E.lines refl (omega arith) refl

-- ---- the theorem

-- what is supplied behind a line z and the kept lines q that follow it makes the lines behind z whole
record Made (F : Front) (z q all : List ℕ) : Type 0 where
  bytes : List ℕ
  answer : after F (last_from z (lines_of q)) ≡ add bytes
  together : q ++ bytes ≡ all

made : {F : Front} {ls : List (List ℕ)} → Good F ls → (z : List ℕ) → after F z ≡ add (joined ls) → (n k : ℕ)
    → Made F z (kept (torn n k (joined ls))) (joined ls)
unfolding joined last_from lines_of
made {F} end z e n k = rw (take-nil n, kept_zeros k) (record { bytes = []; answer = e; together = refl })
made {F} (next {l} {ls} h a g) z e n k = by (kept_cut h (joined ls) n k) (λ j. made g l a j k)
  where
    by : {q : List ℕ} → Cut l (joined ls) k q → ((j : ℕ) → Made F l (kept (torn j k (joined ls))) (joined ls)) → Made F z q (l ++ joined ls)
    by (inside q) go = rw q (record { bytes = l ++ joined ls; answer = e; together = refl })
    by (beyond j q) go =
        let m = go j in
        rw q
        (record { bytes = m.bytes; answer = rw (lines_line h _) m.answer; together = rw append_assoc (ap (λ (r : List ℕ). l ++ r) m.together) })

-- what is supplied for the kept bytes q, and that both together are the listing
pub record MadeWhole (F : Front) (q : List ℕ) : Type 0 where
  pub bytes : List ℕ
  pub answer : supply F (edges_of (lines_of q)) ≡ add bytes
  pub together : q ++ bytes ≡ listing F

pub made_whole : (F : Front) → LawfulFront F → (n k : ℕ) → MadeWhole F (kept (torn n k (listing F)))
unfolding listing joined supply place added edges_of lines_of
made_whole F w n k = by (kept_cut (first_whole F w) (joined (rest_of F)) n k)
  where
    by : {q : List ℕ} → Cut (first_of F) (joined (rest_of F)) k q → MadeWhole F q
    by (inside q) = rw q (record { bytes = listing F; answer = refl; together = refl })
    by (beyond j q) =
        let own : same_list (first_of F) (first_of F) ≡ true = same_refl (first_of F) in
        let m = made (goods F w) (first_of F) (simp own) j k in
        rw q
        (record { bytes = m.bytes; answer = rw (lines_line (first_whole F w) _, own) m.answer; together = rw append_assoc (ap (λ (r : List ℕ). first_of F ++ r) m.together) })

pub resume_whole : (F : Front) → LawfulFront F → (n k : ℕ) → resumed F (torn n k (listing F)) ≡ listing F
resume_whole F w n k =
    let m = made_whole F w n k in
    rw m.answer m.together

-- what is supplied is exactly what is missing
pub resume_exact : (F : Front) → LawfulFront F → (n k : ℕ)
    → supplied F (torn n k (listing F)) ≡ add (drop (length (kept (torn n k (listing F)))) (listing F))
resume_exact F w n k =
    let m = made_whole F w n k in
    let q = kept (torn n k (listing F)) in
    m.answer ∙ ap add (sym (drop-append_seam q m.bytes) ∙ ap (drop (length q)) m.together)

pub resume_again : (F : Front) → LawfulFront F → (ps : List (ℕ × ℕ)) → resumed_again F ps ≡ listing F
unfolding resumed_again
resume_again F w [] = refl
resume_again F w (p ∷ ps) = rw (resume_again F w ps) (resume_whole F w p.0 p.1)
