-- Each public function's promise admits one outcome: two outcomes that keep it are the same. The writers of a letter promise `Laid`: `laid_once` of writing.
-- Assumes nothing.
use mathlib.Core.Path.{◌≡◌}
use mathlib.Core.List.{List}
use Prim.Native.Nat.{ℕ}
use Rattle.frame.proofs.Unique.{once}
use Rattle.alphabet.specs.Table35.{size_of, code_of_n}
use Rattle.alphabet.specs.Code.Digits.{digits_of}

pub size_once : (alphabet : ℕ) {r r' : ℕ} → r ≡ size_of alphabet → r' ≡ size_of alphabet → r ≡ r'
size_once alphabet = once

pub digits_once : (alphabet : ℕ) {r r' : List ℕ} → r ≡ digits_of alphabet → r' ≡ digits_of alphabet → r ≡ r'
digits_once alphabet = once

pub index_of_n_once : (alphabet : ℕ) {r r' : ℕ} → r ≡ code_of_n alphabet → r' ≡ code_of_n alphabet → r ≡ r'
index_of_n_once alphabet = once
