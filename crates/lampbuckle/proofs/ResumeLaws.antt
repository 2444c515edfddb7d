-- The laws of the calls for going on: each way that a call ends, from what the listing's own functions answered.
-- Assumes nothing.
use mathlib.Core.Path.{◌≡◌, refl}
use mathlib.Core.Bool.{Bool, true, false}
use mathlib.Core.List.{List, [], ◌∷◌}
use Prim.Native.Nat.{ℕ, ◌^◌, ◌<◌}
use native.Mathlib.Omega.{arith}
use lib.IntN.{ℤ, pos}
use lib.ListN.{length, get_or}
use mir.Val.{bool_byte}
use borrow.Author.Tests.{eq-eqb}
use Rattle.unit.specs.Pairs.{subsequences}
use Rattle.kept.specs.Keep.{keep_all}
use Rattle.resuming.specs.Pass.{pass_over}
use Rattle.resuming.proofs.PassLaws.{pass_within}
use Rattle.listing.specs.Resuming.{edges_from, place_by}
use Rattle.resuming.specs.Last.{placed_of}
use Rattle.kept.specs.declared.keep.Keep.{Keep}
use Rattle.resuming.specs.declared.pass.Passed.{Passed}
use Rattle.resuming.specs.declared.place.Go.{Go}
use Rattle.lampbuckle.specs.Answer.{Outcome, outcome}
use Rattle.lampbuckle.specs.Numbers.{keep_length, flag, keep_numbers, keep_of}
use Rattle.state.specs.Numbers.{state_length}
use Rattle.lampbuckle.specs.Resume.{keep_call, place_answered, place_call, wanted_length, pass_call}

-- ---- what is kept

-- 1 for true, as the code makes it
pub flag_is : (b : Bool) → bool_byte b ≡ flag b
flag_is true = refl
flag_is false = refl

module _ (piece lent : List ℕ) {a : ℤ} where
  pub keep_gone : length lent ≡ keep_length → {before k : Keep} {after : List ℕ} {n : ℕ} → before ≡ keep_of lent → k ≡ keep_all before piece → after ≡ keep_numbers k → n ≡ flag k.done → a ≡ pos n
      → outcome a (after ∷ []) ≡ keep_call piece lent
  unfolding keep_call
  keep_gone h b k l f e = rw (eq-eqb _ _ h, ← b, ← k, e, f, l)

-- ---- where to go on

module _ (listed : List ℕ) (count : ℕ) (counts first last lent : List ℕ) where
  module _ (shape : length counts ≡ subsequences) where
    pub place_found : length lent ≡ state_length → {go : Go} {x : Outcome} → go ≡ placed_of (place_by listed count counts (edges_from first last)) → x ≡ place_answered go lent
        → x ≡ place_call listed count counts first last lent
    unfolding place_call
    place_found h p e = rw (eq-eqb _ _ shape, eq-eqb _ _ h, ← p) e

-- ---- lines passed over

module _ (piece lent : List ℕ) where
  module _ {p : Passed} (is : p ≡ pass_over (get_or lent 0 0) piece) where
    pub pass_counted : length piece < 2 ^ 63 → p.at < 2 ^ 63
    pass_counted h = rw is (omega (arith, pass_within (get_or lent 0 0) piece))

    pub pass_gone : length lent ≡ wanted_length → {a : ℤ} {after : List ℕ} → after ≡ p.left ∷ [] → a ≡ pos p.at → outcome a (after ∷ []) ≡ pass_call piece lent
    unfolding pass_call
    pass_gone h l e = rw (eq-eqb _ _ h, ← is, e, l)
