-- "A refusal returns its number .. and no lent byte differs" (document 01, Order): a call whose answer is negative leaves every lent slice as it was.
-- Assumes nothing.
use mathlib.Core.Path.{◌≡◌, refl}
use mathlib.Core.Bool.{Bool, true, false, cond}
use mathlib.Core.List.{List, [], ◌∷◌}
use Prim.Native.Nat.{ℕ, ◌*◌}
use lib.Dec.{eqb, ltb}
use lib.IntN.{pos, negsuc, pos-ne-negsuc}
use lib.ListN.{length}
use Rattle.std.specs.Prelude.{⊤, Ok, Err}
use Rattle.refusal.specs.Answers.{OrRefused}
use Rattle.writing.specs.Whole.{wrote_of, line_into}
use Rattle.frame.proofs.HexLaws.{by_test}
use Rattle.state.specs.Listed.{Step, refused, accepted}
use Rattle.front.specs.UnitLine.{unit_line, unit_bytes}
use Rattle.front.specs.PairLine.{pair_line}
use Rattle.front.specs.ReferenceLine.{reference_line}
use Rattle.unit.specs.Pairs.{subsequences}
use Rattle.unit.specs.declared.Unit.{Unit}
use Rattle.record.specs.Record.{record_of}
use Rattle.resuming.specs.Last.{placed_of}
use Rattle.listing.specs.Resuming.{edges_from, place_by}
use Rattle.resuming.specs.declared.place.Go.{Go}
use Rattle.resuming.specs.declared.place.Go.TheVariants.{Afresh, Second, On, Over, Refused}
use Rattle.lampbuckle.specs.Answer.{Outcome, Kept}
use Rattle.lampbuckle.specs.Numbers.{unit_length, unit_of, unit_numbers_refusal, keep_length}
use Rattle.state.specs.Numbers.{state_length, state_of}
use Rattle.lampbuckle.specs.Lines.{unit_answered, unit_call, pair_answered, pair_call, reference_answered, reference_call}
use Rattle.lampbuckle.specs.Call.{record_answered, record_call}
use Rattle.lampbuckle.specs.Write.{after_numbers, written_call, unit_written}
use Rattle.lampbuckle.specs.Resume.{keep_call, place_answered, place_call, wanted_length, pass_call}

-- ---- by the form of an outcome

no_counts : {n k : ℕ} → pos n ≡ negsuc k → ⊥
no_counts {n} {k} e = pos-ne-negsuc n k e

kept_test : (t : Bool) {x y : Outcome} {lent : List (List ℕ)} → Kept x lent → Kept y lent → Kept (cond t x y) lent
kept_test true f g = f
kept_test false f g = g

-- ---- the calls

pub unit_kept : (line lent : List ℕ) → Kept (unit_call line lent) (lent ∷ [])
unfolding unit_call
unit_kept line lent = kept_test (eqb (length lent) unit_length) (by (unit_line line)) (λ k e. refl)
  where
    by : (r : OrRefused Unit) → Kept (unit_answered r line lent) (lent ∷ [])
    by (Ok u) k e = absurd (no_counts e)
    by (Err n) k e = refl

pub pair_kept : (line : List ℕ) (number : ℕ) (table counts : List ℕ) → Kept (pair_call line number table counts) (table ∷ counts ∷ [])
unfolding pair_call
pair_kept line number table counts = kept_test (eqb (length counts) subsequences) (by (pair_line line number (length table))) (λ k e. refl)
  where
    by : (r : OrRefused ℕ) → Kept (pair_answered r line number table counts) (table ∷ counts ∷ [])
    by (Ok n) k e = absurd (no_counts e)
    by (Err n) k e = refl

pub reference_kept : (line lent : List ℕ) (used : ℕ) → Kept (reference_call line lent used) (lent ∷ [])
unfolding reference_call
reference_kept line lent used = by (reference_line line used (length lent))
  where
    by : (r : OrRefused ℕ) → Kept (reference_answered r line lent used) (lent ∷ [])
    by (Ok n) k e = absurd (no_counts e)
    by (Err n) k e = refl

pub record_kept : (numbers bases symbols counts state line out : List ℕ) → Kept (record_call numbers bases symbols counts state line out) (state ∷ out ∷ [])
unfolding record_call
record_kept numbers bases symbols counts state line out =
    kept_test (eqb (length numbers) unit_length) (by (record_of (unit_of numbers) bases symbols counts (state_of state) line (length out))) (λ k e. refl)
  where
    by : (x : Step) → Kept (record_answered x state out) (state ∷ out ∷ [])
    by (refused n) k e = refl
    by (accepted frame next) k e = absurd (no_counts e)

pub written_kept : (frame out : List ℕ) → Kept (written_call frame out) (out ∷ [])
unfolding written_call wrote_of line_into
written_kept frame out =
    by_test (ltb (2 * length frame) (length out))
    (λ t k e. absurd (no_counts (simp t at e)))
    (λ t k e. simp t)

pub unit_written_kept : (numbers out : List ℕ) → Kept (unit_written numbers out) (out ∷ [])
unfolding unit_written
unit_written_kept numbers out = by (unit_numbers_refusal numbers)
  where
    by : (r : OrRefused ⊤) → Kept (after_numbers r out (written_call (unit_bytes (unit_of numbers)) out)) (out ∷ [])
    by (Ok t) k e = written_kept (unit_bytes (unit_of numbers)) out k e
    by (Err n) k e = refl

pub keep_kept : (piece lent : List ℕ) → Kept (keep_call piece lent) (lent ∷ [])
unfolding keep_call
keep_kept piece lent = kept_test (eqb (length lent) keep_length) (λ k e. absurd (no_counts e)) (λ k e. refl)

pub place_kept : (listed : List ℕ) (count : ℕ) (counts first last lent : List ℕ) → Kept (place_call listed count counts first last lent) (lent ∷ [])
unfolding place_call
place_kept listed count counts first last lent =
    kept_test (eqb (length counts) subsequences)
    (kept_test (eqb (length lent) state_length) (by (placed_of (place_by listed count counts (edges_from first last)))) (λ k e. refl)) (λ k e. refl)
  where
    by : (go : Go) → Kept (place_answered go lent) (lent ∷ [])
    by Afresh k e = absurd (no_counts e)
    by Second k e = absurd (no_counts e)
    by (On next) k e = absurd (no_counts e)
    by Over k e = absurd (no_counts e)
    by (Refused n) k e = refl

pub pass_kept : (piece lent : List ℕ) → Kept (pass_call piece lent) (lent ∷ [])
unfolding pass_call
pass_kept piece lent = kept_test (eqb (length lent) wanted_length) (λ k e. absurd (no_counts e)) (λ k e. refl)
