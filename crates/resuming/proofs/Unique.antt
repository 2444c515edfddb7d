-- Each public function's promise admits one outcome: two outcomes that keep it are the same.
-- Assumes nothing.
use mathlib.Core.Path.{◌≡◌}
use mathlib.Core.List.{List}
use Prim.Native.Nat.{ℕ}
use Rattle.frame.proofs.Unique.{once}
use Rattle.listing.specs.Resuming.{last_of, edges_from, place_by}
use Rattle.resuming.specs.Pass.{pass_over}
use Rattle.resuming.specs.Last.{said_of, placed_of}
use Rattle.resuming.specs.declared.pass.Passed.{Passed}
use Rattle.resuming.specs.declared.last.LastSays.{LastSays}
use Rattle.resuming.specs.declared.place.Go.{Go}

pub pass_once : (want : ℕ) (piece : List ℕ) {p p' : Passed} → p ≡ pass_over want piece → p' ≡ pass_over want piece → p ≡ p'
pass_once want piece = once

pub last_line_once : (count : ℕ) (counts line : List ℕ) {s s' : LastSays} → s ≡ said_of (last_of count counts line) → s' ≡ said_of (last_of count counts line) → s ≡ s'
last_line_once count counts line = once

pub place_once : (listed : List ℕ) (count : ℕ) (counts first last : List ℕ) {p p' : Go}
    → p ≡ placed_of (place_by listed count counts (edges_from first last)) → p' ≡ placed_of (place_by listed count counts (edges_from first last)) → p ≡ p'
place_once listed count counts first last = once
