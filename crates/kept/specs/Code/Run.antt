-- For the code, not for the reader.
-- A run of digits, which `Keep` passes over at once: the contracts of `Keep::over`'s own loops speak of it, and no promise does. Nobody needs to believe it: `keep_run_lem` (proofs/KeepLaws) shows that it is `keep_all`.
-- Assumes nothing.
use Rattle.std.specs.Prelude.{ℕ, suc, ◌+◌, ◌-◌, ◌≤◌, ◌≡◌, cond, List, [], ◌∷◌, leb, length, drop}
use Rattle.frame.specs.Line.{line_end}
use Rattle.kept.specs.Keep.{most_bytes, kept_no_more, passed_by}
use Rattle.kept.specs.declared.keep.Keep.{Keep}

-- how many bytes at the front of a piece are above 0A, as every digit is
unfoldable pub run_length : List ℕ → ℕ
run_length [] = 0
run_length (b ∷ bs) = cond (leb b line_end) 0 (suc (run_length bs))

-- where the run that starts at place `start` of a piece ends
pub record RunEnd (piece : List ℕ) (start end : ℕ) : Type 0 where
  pub at : end ≡ start + run_length (drop start piece)
  pub inside : end ≤ length piece

-- a run of n such bytes
unfoldable pub keep_run : Keep → ℕ → Keep
keep_run k n =
    cond k.done k
    (cond (leb n (most_bytes - k.seen)) (passed_by k n)
    (kept_no_more (passed_by k (most_bytes - k.seen))))
