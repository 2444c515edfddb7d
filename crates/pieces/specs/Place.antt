-- Where an aligned segment stands in its unit (document 01, Building a read; refusal 13).
-- Assumes nothing.
use Rattle.std.specs.Prelude.{ℕ, ◌+◌, cond, ltb, ⊤, Err}
use Rattle.refusal.specs.Answers.{OrRefused, no_refusal}
use Rattle.refusal.specs.declared.Refusal.TheVariants.{PositionOut}

-- position is from AU start to AU end, and position plus the number taken is at most AU end + 1
unfoldable pub place_refusal : (start end position taken : ℕ) → OrRefused ⊤
place_refusal start end position taken =
    cond (ltb position start) (Err PositionOut)
    (cond (ltb end position) (Err PositionOut)
    (cond (ltb (end + 1) (position + taken)) (Err PositionOut) no_refusal))
