-- The laws of a list that a loop fills with the values of another: so far the two are the same.
-- Assumes nothing.
use Prim.Native.Nat.{ℕ, ◌+◌, ◌<◌, ◌≤◌}
use native.Mathlib.Numerals.{add-one}
use native.Mathlib.Omega.{arith}
use mathlib.Core.Path.{◌≡◌, refl, sym, ◌∙◌}
use mathlib.Core.List.{List}
use lib.ListN.{length, get_or, take, set, length-set}
use lib.Seq.{take_all, take-suc, take-suc-set}

pub record SoFar (whole l : List ℕ) (j : ℕ) : Type 0 where
  pub long : length l ≡ length whole
  pub same : take j l ≡ take j whole

pub fill_none : (whole l : List ℕ) → length l ≡ length whole → SoFar whole l 0
fill_none whole l e = record { long = e; same = refl }

-- one value more
pub fill_more : {whole l : List ℕ} {j v : ℕ} → SoFar whole l j → j < length whole → v ≡ get_or whole j 0 → SoFar whole (set l j v) (j + 1)
fill_more {whole} {l} {j} {v} f h e =
    record {
      long = length-set l j v ∙ f.long;
      same = rw (add-one j, take-suc-set l j v (omega (arith, f.long)), take-suc whole j 0 h, f.same, e);
    }

pub fill_all : {whole l : List ℕ} {j : ℕ} → SoFar whole l j → length whole ≤ j → l ≡ whole
fill_all {whole} {l} {j} f h = sym (take_all j l (omega (arith, f.long))) ∙ f.same ∙ take_all j whole h
