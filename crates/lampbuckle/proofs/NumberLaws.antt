-- The law of numbers that are lent: a list overwritten from its start to its end.
-- Assumes nothing.
use mathlib.Core.Path.{◌≡◌, ◌∙◌}
use mathlib.Core.List.{List, append-nil}
use Prim.Native.Nat.{ℕ, ◌+◌}
use native.Mathlib.Omega.{arith}
use lib.ListN.{length, drop_of_length-le}
use lib.Seq.{sets, sets-eq}

-- overwritten from its start to its end
pub sets_whole : (vs l : List ℕ) → length l ≡ length vs → sets l 0 vs ≡ vs
sets_whole vs l e =
    sets-eq vs l 0 (omega arith)
    ∙ (let h : 0 + length vs ≡ length vs = omega arith in rw (h, drop_of_length-le l {i = length vs} (omega arith)) (append-nil vs))
