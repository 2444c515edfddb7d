-- A number in base 10, as ASCII digits, no leading zero.
-- Assumes nothing.
use Rattle.std.specs.Prelude.{cond, List, [], ◌∷◌, ◌++◌, ℕ, zero, suc, ◌+◌, ◌/◌, ◌%◌, ltb}
use Prim.Native.Char.{code}

-- at most f digits. f only makes the recursion end: `decimal_small` and `decimal_more` are what a reader expects
unfoldable pub decimal_f : ℕ → ℕ → List ℕ
decimal_f zero n = []
decimal_f (suc f) n = cond (ltb n 10) ((code "0" + n) ∷ []) (decimal_f f (n / 10) ++ (code "0" + n % 10) ∷ [])

-- in base 10, no leading zero
unfoldable pub decimal : ℕ → List ℕ
decimal n = decimal_f (suc n) n
