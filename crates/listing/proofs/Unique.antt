-- Each public function's promise admits one outcome: two outcomes that keep it are the same.
-- Assumes nothing.
use mathlib.Core.Path.{◌≡◌}
use mathlib.Core.List.{List}
use Prim.Native.Nat.{ℕ}
use Rattle.frame.proofs.Unique.{both_once}
use Rattle.writing.specs.Whole.{wrote_of, line_into}
use Rattle.refusal.specs.Answers.{OrRefused}
use Rattle.listing.specs.Listing.{frame05, frame06}

pub write_refused_once : (number refusal : ℕ) (out : List ℕ) {r r' : OrRefused ℕ} {e e' : List ℕ}
    → (r ≡ wrote_of out (frame05 number refusal)) × (e ≡ line_into out (frame05 number refusal)) → (r' ≡ wrote_of out (frame05 number refusal)) × (e' ≡ line_into out (frame05 number refusal))
    → (r ≡ r') × (e ≡ e')
write_refused_once number refusal out = both_once

pub write_done_once : (count : ℕ) (out : List ℕ) {r r' : OrRefused ℕ} {e e' : List ℕ}
    → (r ≡ wrote_of out (frame06 count)) × (e ≡ line_into out (frame06 count)) → (r' ≡ wrote_of out (frame06 count)) × (e' ≡ line_into out (frame06 count)) → (r ≡ r') × (e ≡ e')
write_done_once count out = both_once
