-- The laws of a listing's lines: each is well formed, the 04 lines are numbered from 0, the last is an 05 or an 06 line, and 17 stands nowhere.
-- Assumes nothing.
use Prim.Native.Nat.{ℕ, zero, suc, ◌+◌, ◌-◌, ◌*◌, ◌%◌, ◌≤◌, ◌<◌}
use native.Mathlib.Nat.{zero-add, add-zero}
use native.Mathlib.Omega.{arith}
use mathlib.Core.Path.{◌≡◌, refl, sym, ap, ◌∙◌}
use mathlib.Core.Logic.{inl, inr}
use mathlib.Core.List.{List, [], ◌∷◌, ◌++◌, append_assoc}
use lib.Dec.{leb, lit≤}
use lib.ListN.{length, get_or}
use lib.Seq.{take-nil, take-append-le, take-append-add}
use borrow.Author.Tests.{leb-true, leb-false}
use Rattle.refusal.specs.declared.Refusal.TheVariants.{Missing}
use Rattle.refusal.specs.Numbers.{number_of, missing, no_room, Early}
use Rattle.refusal.proofs.RefusalLaws.{early}
use Rattle.frame.specs.Hex.{Bytes, unhex, be}
use Rattle.frame.specs.Line.{line_digits}
use Rattle.std.specs.Prelude.{Ok}
use Rattle.frame.proofs.HexLaws.{by_test}
use Rattle.frame.proofs.LineLaws.{line_of_bytes, unhex_line, line_is_frame, frame_is_line}
use Rattle.frame.proofs.FieldLaws.{field_back}
use Rattle.state.specs.State.{fresh_state, Shaped, all_taken}
use Rattle.state.specs.declared.State.{State}
use Rattle.unit.specs.Kinds.{kind_listed, kind_refused, kind_done}
use Rattle.listing.specs.Lines.{lines_of, joined, kept, lines_within}
use Rattle.state.specs.Listed.{most_listed, listed_head, words, Step, refused, accepted}
use Rattle.listing.specs.Record.{Setup, Accepted, FirstLine, Lawful}
use Rattle.listing.specs.Listing.{Front, alone, unpaired, ready, frame05, line05, frame06, line06, last_line, on_step, records, first_of, rest_of, listed, listing, LawfulFront, on_accepted, state_behind, Each, none, one, ListingLine, Numbered, Finished}
use Rattle.listing.specs.Resuming.{last_from, bytes05, bytes06, ClosingLine, Closes, torn}
use Rattle.listing.proofs.LinesLaws.{whole_bytes, whole_frame, kept_line, lines_line, kept_zeros, kept_part}
use Rattle.frame.proofs.SameLaws.{same_true}
use Rattle.listing.proofs.LastLaws.{bytes_05, bytes_06}
use Rattle.listing.proofs.ResumeLaws.{accepted_kind}

-- ---- the bytes of the last lines

unhex_05 : (q n : ℕ) → unhex (line05 q n) ≡ frame05 q n
unfolding line05
unhex_05 q n = unhex_line (frame05 q n) (bytes_05 q n)

closing_05 : (q n : ℕ) → ClosingLine kind_refused bytes05 (line05 q n)
unfolding line05 be
closing_05 q n = record { digits = line_is_frame most_listed (frame05 q n) (bytes_05 q n) (lit≤ tt); kind = rw (unhex_line (frame05 q n) (bytes_05 q n)) refl }

closing_06 : (q : ℕ) → ClosingLine kind_done bytes06 (line06 q)
unfolding line06 be
closing_06 q = record { digits = line_is_frame most_listed (frame06 q) (bytes_06 q) (lit≤ tt); kind = rw (unhex_line (frame06 q) (bytes_06 q)) refl }

-- ---- the lines of a listing, each by what it is

data Entry : List ℕ → Type 0 where
  unit_line_lem : {l : List ℕ} → FirstLine l → Entry l
  listed_line : (bs : List ℕ) → Bytes bs → get_or bs 0 0 ≡ kind_listed → 2 * length bs ≤ most_listed → Entry (line_of_bytes bs)
  refused_line : (q n : ℕ) → Early n → Entry (line05 q n)
  done_line : (q : ℕ) → Entry (line06 q)

each : {P Q : List ℕ → Type 0} → ((l : List ℕ) → P l → Q l) → {ls : List (List ℕ)} → Each P ls → Each Q ls
each f none = none
each f (one {l} h g) = one (f l h) (each f g)

entry_last : (E : Setup) (s : State) (ls : List (List ℕ)) → Entry (last_line E s ls)
unfolding last_line
entry_last E s [] =
    by_test (all_taken s E.counts) (λ t. rw t (done_line E.count)) (λ t. rw t (refused_line E.count missing (early Missing tt)))
entry_last E s (l ∷ ls) = refused_line E.count missing (early Missing tt)

entries_from : {E : Setup} → Lawful E → (k : ℕ) (s : State) (ls : List (List ℕ)) → Shaped s → Each Entry (records E k s ls)
unfolding records
entries_from {E} w zero s ls i = one (entry_last E s ls) none
entries_from {E} w (suc k) s [] i = one (refused_line s.number missing (early Missing tt)) none
entries_from {E} w (suc k) s (l ∷ ls) i = by (E.step s l) refl (λ u. entries_from w k u ls)
  where
    by : (t : Step) → E.step s l ≡ t → ((u : State) → Shaped u → Each Entry (records E k u ls)) → Each Entry (on_step s.number t (λ u. records E k u ls))
    by (refused n) t go = one (refused_line s.number (number_of n) (w.refusal s l n i t)) none
    by (accepted frame u) t go =
        let a : Accepted E s l frame u = w.acceptance s l frame u i t in
        one (listed_line frame a.bytes (accepted_kind a) a.most) (go u a.indexes)

entries : (F : Front) → LawfulFront F → Each Entry (listed F)
unfolding LawfulFront first_of rest_of
entries (alone n) w = one (refused_line 0 n w) none
entries (unpaired first n) w = one (unit_line_lem w.0) (one (refused_line 0 n w.1) none)
entries (ready E) w = one (unit_line_lem w.unit) (entries_from w E.count fresh_state E.lines refl)

-- ---- each line is well formed

entry_line : (l : List ℕ) → Entry l → ListingLine l
entry_line l (unit_line_lem w) =
    let i = frame_is_line line_digits l w.size w.well_formed in
    record {
      bytes = length (unhex l);
      digits = rw i.line (line_is_frame most_listed (unhex l) i.bytes (omega (arith, i.fits, i.count)) ∙ ap Ok (ap length (ap unhex i.line)));
      whole = whole_frame line_digits l w.size w.well_formed;
    }
entry_line l (listed_line bs b k m) = record { bytes = length bs; digits = line_is_frame most_listed bs b m; whole = whole_bytes bs }
entry_line l (refused_line q n h) = record { bytes = bytes05; digits = (closing_05 q n).digits; whole = whole_frame most_listed (line05 q n) bytes05 (closing_05 q n).digits }
entry_line l (done_line q) = record { bytes = bytes06; digits = (closing_06 q).digits; whole = whole_frame most_listed (line06 q) bytes06 (closing_06 q).digits }

pub listing_lines : (F : Front) → LawfulFront F → Each ListingLine (listed F)
listing_lines F w = each entry_line (entries F w)

-- the bytes of a listing are split into its lines again
split_back : {ls : List (List ℕ)} → Each ListingLine ls → lines_of (joined ls) ≡ ls
unfolding lines_of joined
split_back none = refl
split_back (one {l} {ls} h g) = lines_line h.whole (joined ls) ∙ ap (λ (r : List (List ℕ)). l ∷ r) (split_back g)

pub listing_split : (F : Front) → LawfulFront F → lines_of (listing F) ≡ listed F
unfolding listing
listing_split F w = split_back (listing_lines F w)

-- ---- a stop at byte n keeps the lines that end within n bytes, and no other byte

kept_lines : {ls : List (List ℕ)} → Each ListingLine ls → (n k : ℕ) → kept (torn n k (joined ls)) ≡ joined (lines_within n ls)
unfolding joined lines_within
kept_lines none n k = rw (take-nil n) (kept_zeros k)
kept_lines (one {l} {ls} h g) n k =
    by_test (leb (length l) n)
    (λ t.
    let e : n ≡ length l + (n - length l) = omega (arith, leb-true (length l) n t) in
    rw t
    (ap (λ (m : ℕ). kept (torn m k (l ++ joined ls))) e
    ∙ rw (take-append-add l (joined ls) (n - length l), append_assoc)
    (kept_line h.whole (torn (n - length l) k (joined ls)) ∙ ap (λ (r : List ℕ). l ++ r) (kept_lines g (n - length l) k))))
    (λ t.
    let lt : n < length l = leb-false (length l) n t in
    rw (t, take-append-le n l (joined ls) (omega arith)) (kept_part h.whole n k lt))

pub listing_kept : (F : Front) → LawfulFront F → (n k : ℕ) → kept (torn n k (listing F)) ≡ joined (lines_within n (listed F))
unfolding listing
listing_kept F w n k = kept_lines (listing_lines F w) n k

-- ---- 17 stands nowhere

kind_05 : (q n : ℕ) → get_or (unhex (line05 q n)) 0 0 ≡ kind_refused
kind_05 q n = (closing_05 q n).kind

number_05 : (q n : ℕ) → get_or (unhex (line05 q n)) 3 0 ≡ n % 256
unfolding be
number_05 q n = rw (unhex_05 q n) (omega arith)

no_17 : (l : List ℕ) → Entry l → (q : ℕ) → l ≡ line05 q no_room → ⊥
no_17 l (unit_line_lem w) q e = omega (arith, w.kind, ap (λ (x : List ℕ). get_or (unhex x) 0 0) e, kind_05 q no_room)
no_17 l (listed_line bs b k m) q e = omega (arith, k, ap (λ (x : List ℕ). get_or x 0 0) (sym (unhex_line bs b) ∙ ap unhex e), kind_05 q no_room)
no_17 l (refused_line r n h) q e = h.1 (omega (arith, h.0.1, number_05 r n, number_05 q no_room, ap (λ (x : List ℕ). get_or (unhex x) 3 0) e))
no_17 l (done_line r) q e = omega (arith, (closing_06 r).kind, kind_05 q no_room, ap (λ (x : List ℕ). get_or (unhex x) 0 0) e)

pub listing_17 : (F : Front) → LawfulFront F → Each (λ l. (q : ℕ) → l ≡ line05 q no_room → ⊥) (listed F)
listing_17 F w = each no_17 (entries F w)

-- ---- the 04 lines are numbered

-- the number of an accepted record stands in its line
accepted_number : {E : Setup} → Lawful E → {s : State} {l frame : List ℕ} {u : State} → Accepted E s l frame u → Numbered s.number (line_of_bytes frame)
unfolding listed_head be
accepted_number {E} w {s} {l} {frame} {u} a =
    let front : listed_head s.number u ++ a.tail ≡ be 1 kind_listed ++ (be 2 s.number ++ (words u.index ++ a.tail)) = simp append_assoc in
    record {
      kind = rw (unhex_line frame a.bytes) (accepted_kind a);
      is =
          rw (unhex_line frame a.bytes, a.head, front)
          (field_back 2 s.number (be 1 kind_listed) (words u.index ++ a.tail) (omega (arith, a.in_count, w.count_fits)));
    }

-- every line but the last is a record's, and its place is its number
numbered_from : {E : Setup} → Lawful E → (k : ℕ) (s : State) (ls : List (List ℕ)) → Shaped s → (i : ℕ) → suc i < length (records E k s ls) → Numbered (s.number + i) (get_or (records E k s ls) i [])
unfolding records
numbered_from {E} w zero s ls x i h = absurd (omega arith)
numbered_from {E} w (suc k) s [] x i h = absurd (omega arith)
numbered_from {E} w (suc k) s (l ∷ ls) x i h = by (E.step s l) refl i h (λ u. numbered_from w k u ls)
  where
    by : (t : Step) → E.step s l ≡ t → (i : ℕ) → suc i < length (on_step s.number t (λ u. records E k u ls))
        → ((u : State) → Shaped u → (i : ℕ) → suc i < length (records E k u ls) → Numbered (u.number + i) (get_or (records E k u ls) i []))
        → Numbered (s.number + i) (get_or (on_step s.number t (λ u. records E k u ls)) i [])
    by (refused n) t i h go = absurd (omega arith)
    by (accepted frame u) t zero h go = rw (add-zero s.number) (accepted_number w (w.acceptance s l frame u x t))
    by (accepted frame u) t (suc i) h go =
        let a : Accepted E s l frame u = w.acceptance s l frame u x t in
        let e : s.number + suc i ≡ u.number + i = omega (arith, a.number) in
        rw e (go u a.indexes i (omega arith))

pub listing_numbered : (F : Front) → LawfulFront F → (i : ℕ) → suc i < length (rest_of F) → Numbered i (get_or (rest_of F) i [])
unfolding LawfulFront rest_of
listing_numbered (alone n) w i h = absurd (omega arith)
listing_numbered (unpaired first n) w i h = absurd (omega arith)
listing_numbered (ready E) w i h = rw zero-add at (numbered_from w E.count fresh_state E.lines refl i h)

-- ---- the last line

closes_last : (E : Setup) (s : State) (ls : List (List ℕ)) → Closes (last_line E s ls)
unfolding last_line
closes_last E s [] =
    by_test (all_taken s E.counts) (λ t. rw t (inr (closing_06 E.count))) (λ t. rw t (inl (closing_05 E.count missing)))
closes_last E s (l ∷ ls) = inl (closing_05 E.count missing)

closes_from : (E : Setup) (k : ℕ) (s : State) (ls : List (List ℕ)) (z : List ℕ) → Closes (last_from z (records E k s ls))
unfolding records last_from
closes_from E zero s ls z = closes_last E s ls
closes_from E (suc k) s [] z = inl (closing_05 s.number missing)
closes_from E (suc k) s (l ∷ ls) z = by (E.step s l) (λ u. closes_from E k u ls)
  where
    by : (t : Step) → ((u : State) (y : List ℕ) → Closes (last_from y (records E k u ls))) → Closes (last_from z (on_step s.number t (λ u. records E k u ls)))
    by (refused n) go = inl (closing_05 s.number (number_of n))
    by (accepted frame u) go = go u (line_of_bytes frame)

pub listing_closes : (F : Front) → Closes (last_from (first_of F) (rest_of F))
unfolding first_of rest_of last_from
listing_closes (alone n) = inl (closing_05 0 n)
listing_closes (unpaired first n) = inl (closing_05 0 n)
listing_closes (ready E) = closes_from E E.count fresh_state E.lines E.first

-- an 05 line is no 06 line
pub not_06 : (q n r : ℕ) {P : Type 0} → line05 q n ≡ line06 r → P
not_06 q n r e = absurd (omega (arith, (closing_05 q n).kind, (closing_06 r).kind, ap (λ (x : List ℕ). get_or (unhex x) 0 0) e))

-- behind an 06 line no pair symbol is left over, and every record is listed
finished_last : (E : Setup) (s : State) (ls : List (List ℕ)) (q : ℕ) → s.number ≡ E.count → last_line E s ls ≡ line06 q → Finished E s
unfolding last_line
finished_last E s [] q n e =
    by_test (all_taken s E.counts) (λ t. record { number = n; symbols = same_true _ _ t }) (λ t. not_06 E.count missing q (rw t at e))
finished_last E s (l ∷ ls) q n e = not_06 E.count missing q e

finished_from : {E : Setup} → Lawful E → (k : ℕ) (s : State) (ls : List (List ℕ)) (z : List ℕ) (q : ℕ) → Shaped s → s.number + k ≡ E.count
    → last_from z (records E k s ls) ≡ line06 q → Finished E (state_behind E k s ls)
unfolding records last_from state_behind
finished_from {E} w zero s ls z q x n e = finished_last E s ls q (omega arith) e
finished_from {E} w (suc k) s [] z q x n e = not_06 s.number missing q e
finished_from {E} w (suc k) s (l ∷ ls) z q x n e = by (E.step s l) refl e (λ u. finished_from w k u ls)
  where
    by : (t : Step) → E.step s l ≡ t → last_from z (on_step s.number t (λ u. records E k u ls)) ≡ line06 q
        → ((u : State) (y : List ℕ) (r : ℕ) → Shaped u → u.number + k ≡ E.count → last_from y (records E k u ls) ≡ line06 r → Finished E (state_behind E k u ls))
        → Finished E (on_accepted s t (λ u. state_behind E k u ls))
    by (refused m) t e go = not_06 s.number (number_of m) q e
    by (accepted frame u) t e go =
        let a : Accepted E s l frame u = w.acceptance s l frame u x t in
        go u (line_of_bytes frame) q a.indexes (omega (arith, a.number)) e

pub listing_finished : (E : Setup) → Lawful E → (q : ℕ) → last_from (first_of (ready E)) (rest_of (ready E)) ≡ line06 q
    → Finished E (state_behind E E.count fresh_state E.lines)
unfolding first_of rest_of
listing_finished E w q e = finished_from w E.count fresh_state E.lines E.first q refl (omega arith) e
