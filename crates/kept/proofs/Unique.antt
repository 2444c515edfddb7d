-- Each public function's promise admits one outcome: two outcomes that keep it are the same.
-- Assumes nothing.
use mathlib.Core.Path.{◌≡◌}
use mathlib.Core.List.{List}
use Prim.Native.Nat.{ℕ}
use Rattle.frame.proofs.Unique.{once}
use Rattle.kept.specs.Keep.{fresh, keep_byte, keep_all}
use Rattle.kept.specs.declared.keep.Keep.{Keep}

pub new_once : {k k' : Keep} → k ≡ fresh → k' ≡ fresh → k ≡ k'
new_once = once

pub byte_once : (before : Keep) (b : ℕ) {k k' : Keep} → k ≡ keep_byte before b → k' ≡ keep_byte before b → k ≡ k'
byte_once before b = once

pub over_once : (before : Keep) (piece : List ℕ) {k k' : Keep} → k ≡ keep_all before piece → k' ≡ keep_all before piece → k ≡ k'
over_once before piece = once
