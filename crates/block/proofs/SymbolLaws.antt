-- The laws of runs of symbols: one symbol more.
-- Assumes nothing.
use mathlib.Core.Path.{◌≡◌, refl}
use mathlib.Core.List.{List}
use Prim.Native.Nat.{ℕ, zero, suc, ◌+◌, ◌-◌, ◌<◌, ◌≤◌}
use native.Mathlib.Omega.{arith}
use borrow.Author.Tests.{le-leb, lt-leb}
use lib.ListN.{length, get_or}
use Rattle.std.specs.Prelude.{Ok, Err}
use Rattle.refusal.specs.declared.Refusal.TheVariants.{Misframed, SymbolOut}
use Rattle.alphabet.specs.Table35.{size_of}
use Rattle.block.specs.Symbols.{symbols_from}

module _ (alphabet : ℕ) (frame : List ℕ) (count : ℕ) where
  pub symbols_short : (k at : ℕ) → 0 < k → length frame ≤ at → symbols_from alphabet frame count k at ≡ Err Misframed
  unfolding symbols_from
  symbols_short zero at h e = absurd (omega arith)
  symbols_short (suc k) at h e = simp (le-leb _ _ e)

  pub symbols_out : (k at : ℕ) → 0 < k → at < length frame → size_of alphabet ≤ get_or frame at 0 → symbols_from alphabet frame count k at ≡ Err SymbolOut
  unfolding symbols_from
  symbols_out zero at h e f = absurd (omega arith)
  symbols_out (suc k) at h e f = simp (lt-leb _ _ e, le-leb _ _ f)

  pub symbols_on : (k at : ℕ) → 0 < k → at < length frame → get_or frame at 0 < size_of alphabet → symbols_from alphabet frame count k at ≡ symbols_from alphabet frame count (k - 1) (at + 1)
  unfolding symbols_from
  symbols_on zero at h e f = absurd (omega arith)
  symbols_on (suc k) at h e f = let j : suc k - 1 ≡ k = omega arith in rw j (simp (lt-leb _ _ e, lt-leb _ _ f))

  pub symbols_end : (k at : ℕ) → k ≤ 0 → symbols_from alphabet frame count k at ≡ Ok (count, record { at = at })
  unfolding symbols_from
  symbols_end zero at h = refl
  symbols_end (suc k) at h = absurd (omega arith)
