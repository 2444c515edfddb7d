-- Each public promise admits one outcome: two answers that meet it are the same.
-- Assumes nothing.
use mathlib.Core.Path.{◌≡◌}
use mathlib.Core.List.{List}
use Prim.Native.Nat.{ℕ}
use lib.ListN.{length}
use Rattle.frame.proofs.Unique.{once}
use Rattle.writing.specs.Decimal.{decimal}
use Rattle.writing.specs.Lay.{Laid}
use Rattle.writing.specs.Whole.{wrote_of, line_into}
use Rattle.refusal.specs.Answers.{OrRefused}

pub decimal_len_once : (n : ℕ) {x y : ℕ} → x ≡ length (decimal n) → y ≡ length (decimal n) → x ≡ y
decimal_len_once n p q = once p q

-- every writer that promises `Laid`: the place that it answers and the lent line
pub laid_once : (before : List ℕ) (at : ℕ) (bs : List ℕ) {after after' : List ℕ} {r r' : ℕ} → Laid before after at r bs → Laid before after' at r' bs → (r ≡ r') × (after ≡ after')
laid_once before at bs f g = (once f.to g.to, once f.holds g.holds)

-- `write_line`: the answer and the lent output
pub write_line_once : (s bs : List ℕ) {x y : OrRefused ℕ} {after after' : List ℕ} → x ≡ wrote_of s bs → y ≡ wrote_of s bs → after ≡ line_into s bs → after' ≡ line_into s bs → (x ≡ y) × (after ≡ after')
write_line_once s bs p q f g = (once p q, once f g)
