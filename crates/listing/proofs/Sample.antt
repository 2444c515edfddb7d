-- A record call that keeps to the laws, so that they can be met, and a few stops of its listing that are computed.
-- Assumes nothing.
use Prim.Native.Nat.{ℕ, zero, suc, ◌+◌, ◌<◌}
use native.Mathlib.Omega.{arith}
use mathlib.Core.Path.{◌≡◌, refl}
use mathlib.Core.Bool.{Bool, true, false, cond}
use mathlib.Core.List.{List, [], ◌∷◌, ◌++◌}
use lib.Dec.{ltb, lit≤}
use lib.ListN.{length, get_or, replicate, length-append}
use borrow.Author.Tests.{ltb-true}
use Rattle.std.specs.Prelude.{Ok, Err}
use Rattle.refusal.specs.Answers.{OrRefused}
use Rattle.refusal.specs.declared.Refusal.{Refusal}
use Rattle.refusal.specs.declared.Refusal.TheVariants.{Malformed, Missing}
use Rattle.refusal.specs.Numbers.{number_of, malformed, missing, other_first, other_last, Early}
use Rattle.refusal.proofs.RefusalLaws.{early}
use Rattle.frame.specs.Hex.{is_digit, glyph, nib, hex_of, unhex, all_digits, Bytes, be}
use Rattle.frame.specs.Line.{line_digits, line_within, line_of}
use Rattle.frame.specs.Field.{big_at}
use Rattle.frame.proofs.LineLaws.{line_of_bytes, line_malformed}
use Rattle.unit.specs.Pairs.{subsequences}
use Rattle.state.specs.State.{fresh_state, after, none_above}
use Rattle.state.specs.declared.State.{State}
use Rattle.unit.specs.Kinds.{kind_unit}
use Rattle.listing.specs.Lines.{push_byte, lines_of, joined, ends, kept_with, kept}
use Rattle.frame.specs.Same.{same_list}
use Rattle.state.specs.Listed.{Step, refused, accepted, words, listed_head, words_at, state_at, state_back, link_fields, least_listed}
use Rattle.listing.specs.Record.{Setup, Accepted, FirstLine, Lawful}
use Rattle.listing.proofs.ResumeLaws.{first_line}
use Rattle.state.proofs.ListedLaws.{bytes_head, length_head}
use Rattle.frame.proofs.HexLaws.{bytes_append}
use Rattle.listing.specs.Listing.{Front, ready, line05, last_line, records, first_of, rest_of, listing}
use Rattle.listing.specs.Resuming.{frame_last, last_of, last_from, edges_of, count_of, counts_of, place, Supplied, add, refuse, skip, supplied_from, added, supply, supplied, torn}

-- two records, no pair symbols; every well-formed line is accepted
abbrev toy_count : ℕ
toy_count = 2

abbrev toy_next : State → State
toy_next s = after s fresh_state

-- so many bytes behind the head as the fewest that an 04 line can have
abbrev toy_frame : State → List ℕ
toy_frame s = listed_head s.number (toy_next s) ++ replicate link_fields 1

abbrev on_toy : State → OrRefused ℕ → Step
on_toy s (Ok n) = accepted (toy_frame s) (toy_next s)
on_toy s (Err refusal) = refused refusal

abbrev toy_step : State → List ℕ → Step
toy_step s l = cond (ltb s.number toy_count) (on_toy s (line_of l)) (refused Missing)

abbrev toy_unit : List ℕ
toy_unit = line_of_bytes (kind_unit ∷ 3 ∷ [])

abbrev toy : List (List ℕ) → Setup
toy ls = record { first = toy_unit; count = toy_count; counts = replicate subsequences 0; step = toy_step; lines = ls }

zeros : (n i : ℕ) → ◌≡◌ {A = ℕ} (get_or (replicate n 0) i 0) 0
zeros zero i = refl
zeros (suc n) zero = refl
zeros (suc n) (suc i) = zeros n i

ones : Bytes (replicate link_fields 1)
unfolding Bytes
ones = omega arith

toy_accepted : (ls : List (List ℕ)) (s : State) (l : List ℕ) (m : ℕ) → s.number < toy_count → line_of l ≡ Ok m → Accepted (toy ls) s l (toy_frame s) (toy_next s)
toy_accepted ls s l m h e =
    let long : length (toy_frame s) ≡ least_listed = omega (arith, length-append (listed_head s.number (toy_next s)) (replicate link_fields 1), length_head s.number (toy_next s) refl) in
    record {
      size = m;
      well_formed = e;
      tail = replicate link_fields 1;
      head = refl;
      bytes = bytes_append (listed_head s.number (toy_next s)) (replicate link_fields 1) (bytes_head s.number (toy_next s)) ones;
      least = omega arith;
      most = omega arith;
      in_count = h;
      number = refl;
      indexes = refl;
      in_counts = λ i. omega arith;
    }

toy_first : FirstLine toy_unit
unfolding Bytes
toy_first = first_line (kind_unit ∷ 3 ∷ []) (omega arith) (lit≤ tt) refl

pub toy_lawful : (ls : List (List ℕ)) → Lawful (toy ls)
toy_lawful ls =
    record {
      unit = toy_first;
      count_fits = lit≤ tt;
      counts_all = refl;
      counts_fit = λ i. omega (arith, zeros subsequences i);
      refusal = λ s l n i e. wrong s l n (ltb s.number toy_count) (line_of l) refl e;
      acceptance = λ s l frame next i e. right s l frame next (ltb s.number toy_count) refl (line_of l) refl e;
    }
  where
    wrong : (s : State) (l : List ℕ) (n : Refusal) (t : Bool) (u : OrRefused ℕ) → line_of l ≡ u → cond t (on_toy s u) (refused Missing) ≡ refused n → Early (number_of n)
    wrong s l n true (Ok m) hu e = let z : ◌≡◌ {A = ℕ} 0 1 = cc in absurd (omega arith)
    wrong s l n true (Err refusal) hu e = let z : n ≡ refusal = cc in rw (z, line_malformed line_digits l refusal hu) (early Malformed tt)
    wrong s l n false u hu e = let z : n ≡ Missing = cc in rw z (early Missing tt)

    right : (s : State) (l frame : List ℕ) (next : State) (t : Bool) → ltb s.number toy_count ≡ t → (u : OrRefused ℕ) → line_of l ≡ u
        → cond t (on_toy s u) (refused Missing) ≡ accepted frame next → Accepted (toy ls) s l frame next
    right s l frame next true ht (Ok m) hu e =
        let f : frame ≡ toy_frame s = cc in
        let n : next ≡ toy_next s = cc in
        rw (f, n) (toy_accepted ls s l m (ltb-true s.number toy_count ht) hu)
    right s l frame next true ht (Err refusal) hu e = let z : ◌≡◌ {A = ℕ} 0 1 = cc in absurd (omega arith)
    right s l frame next false ht u hu e = let z : ◌≡◌ {A = ℕ} 0 1 = cc in absurd (omega arith)

-- ---- its listing over two record lines, the second without its 0A, stopped at a few bytes

abbrev sample : Front
sample = ready (toy (lines_of (48 ∷ 48 ∷ 10 ∷ 48 ∷ [])))

-- the line of record q, as the call writes it
abbrev toy_line : ℕ → List ℕ
toy_line q = line_of_bytes (toy_frame (record { number = q; index = [] }))

sample_listed : listing sample ≡ joined (toy_unit ∷ toy_line 0 ∷ line05 1 malformed ∷ [])
unfolding listing first_of rest_of records lines_of push_byte line05 line_within all_digits is_digit
sample_listed = refl

-- what is supplied, for each file that is found
abbrev answers : List (List ℕ) → List Supplied
answers [] = []
answers (f ∷ fs) = supplied sample f ∷ answers fs

-- stopped inside the first record's line, and behind it, with three zero bytes; with another unit line; with a record that the unit has not;
-- with a false line of the second record: it is believed, and its record line has no 0A, so the lines run out
samples : answers (torn 30 3 (listing sample) ∷ torn (length (toy_unit ++ toy_line 0) + 2) 3 (listing sample) ∷ (line_of_bytes (kind_unit ∷ 4 ∷ []) ++ toy_line 0) ∷ (toy_unit ++ toy_line 2) ∷ (toy_unit ++ toy_line 1) ∷ [])
    ≡ add (joined (toy_line 0 ∷ line05 1 malformed ∷ [])) ∷ add (joined (line05 1 malformed ∷ [])) ∷ refuse other_first ∷ refuse other_last ∷ add (joined (line05 2 missing ∷ [])) ∷ []
unfolding listing joined first_of rest_of records last_line lines_of push_byte line05 line_within all_digits is_digit kept kept_with listed_head words be hex_of unhex glyph nib big_at supply place added supplied_from skip edges_of last_from count_of counts_of last_of frame_last state_back state_at words_at none_above same_list ends
samples = refl
