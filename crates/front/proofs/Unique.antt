-- Each public function's promise admits one outcome: two outcomes that keep it are the same.
-- Assumes nothing.
use mathlib.Core.Path.{◌≡◌}
use mathlib.Core.List.{List}
use Prim.Native.Nat.{ℕ}
use lib.ListN.{length}
use Rattle.frame.proofs.Unique.{once, both_once}
use Rattle.writing.specs.Whole.{wrote_of, line_into}
use Rattle.refusal.specs.Answers.{OrRefused}
use Rattle.unit.specs.declared.Unit.{Unit}
use Rattle.front.specs.UnitLine.{unit_line, unit_bytes}
use Rattle.front.specs.PairLine.{pair_line, table_after}
use Rattle.front.specs.ReferenceLine.{reference_line, reference_after}

pub unit_read_once : (line : List ℕ) {r r' : OrRefused Unit} → r ≡ unit_line line → r' ≡ unit_line line → r ≡ r'
unit_read_once line = once

pub unit_write_once : (u : Unit) (out : List ℕ) {r r' : OrRefused ℕ} {e e' : List ℕ}
    → (r ≡ wrote_of out (unit_bytes u)) × (e ≡ line_into out (unit_bytes u)) → (r' ≡ wrote_of out (unit_bytes u)) × (e' ≡ line_into out (unit_bytes u)) → (r ≡ r') × (e ≡ e')
unit_write_once u out = both_once

pub pair_read_once : (line : List ℕ) (number : ℕ) (t : List ℕ) {r r' : OrRefused ℕ} {e e' : List ℕ}
    → (r ≡ pair_line line number (length t)) × (e ≡ table_after line number t) → (r' ≡ pair_line line number (length t)) × (e' ≡ table_after line number t) → (r ≡ r') × (e ≡ e')
pair_read_once line number t = both_once

pub reference_read_once : (line : List ℕ) (used : ℕ) (t : List ℕ) {r r' : OrRefused ℕ} {e e' : List ℕ}
    → (r ≡ reference_line line used (length t)) × (e ≡ reference_after line used t) → (r' ≡ reference_line line used (length t)) × (e' ≡ reference_after line used t) → (r ≡ r') × (e ≡ e')
reference_read_once line used t = both_once
