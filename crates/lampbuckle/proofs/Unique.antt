-- Each call's promise admits one outcome: two outcomes that keep it, each an answer and every lent slice after the call, are the same.
-- Assumes nothing.
use mathlib.Core.Path.{◌≡◌}
use mathlib.Core.List.{List}
use Prim.Native.Nat.{ℕ}
use Rattle.frame.proofs.Unique.{once}
use Rattle.listing.specs.Listing.{frame05, frame06}
use Rattle.lampbuckle.specs.Answer.{Outcome}
use Rattle.lampbuckle.specs.Lines.{unit_call, pair_call, reference_call}
use Rattle.lampbuckle.specs.Call.{record_call}
use Rattle.lampbuckle.specs.Write.{written_call, unit_written}
use Rattle.lampbuckle.specs.Resume.{keep_call, place_call, pass_call}

module _ {x y : Outcome} where
  pub lampbuckle_unit_line_once : (line unit : List ℕ) → x ≡ unit_call line unit → y ≡ unit_call line unit → x ≡ y
  lampbuckle_unit_line_once line unit = once

  pub lampbuckle_pair_line_once : (line : List ℕ) (subsequence : ℕ) (symbols counts : List ℕ) → x ≡ pair_call line subsequence symbols counts → y ≡ pair_call line subsequence symbols counts → x ≡ y
  lampbuckle_pair_line_once line subsequence symbols counts = once

  pub lampbuckle_reference_line_once : (line reference : List ℕ) (used : ℕ) → x ≡ reference_call line reference used → y ≡ reference_call line reference used → x ≡ y
  lampbuckle_reference_line_once line reference used = once

  pub lampbuckle_record_once : (unit reference symbols counts state line out : List ℕ) → x ≡ record_call unit reference symbols counts state line out → y ≡ record_call unit reference symbols counts state line out → x ≡ y
  lampbuckle_record_once unit reference symbols counts state line out = once

  pub lampbuckle_write_unit_once : (unit out : List ℕ) → x ≡ unit_written unit out → y ≡ unit_written unit out → x ≡ y
  lampbuckle_write_unit_once unit out = once

  pub lampbuckle_write_refused_once : (number refusal : ℕ) (out : List ℕ) → x ≡ written_call (frame05 number refusal) out → y ≡ written_call (frame05 number refusal) out → x ≡ y
  lampbuckle_write_refused_once number refusal out = once

  pub lampbuckle_write_done_once : (count : ℕ) (out : List ℕ) → x ≡ written_call (frame06 count) out → y ≡ written_call (frame06 count) out → x ≡ y
  lampbuckle_write_done_once count out = once

  pub lampbuckle_keep_once : (piece keep : List ℕ) → x ≡ keep_call piece keep → y ≡ keep_call piece keep → x ≡ y
  lampbuckle_keep_once piece keep = once

  pub lampbuckle_place_once : (listed : List ℕ) (count : ℕ) (counts first last state : List ℕ) → x ≡ place_call listed count counts first last state → y ≡ place_call listed count counts first last state → x ≡ y
  lampbuckle_place_once listed count counts first last state = once

  pub lampbuckle_pass_once : (piece wanted : List ℕ) → x ≡ pass_call piece wanted → y ≡ pass_call piece wanted → x ≡ y
  lampbuckle_pass_once piece wanted = once
