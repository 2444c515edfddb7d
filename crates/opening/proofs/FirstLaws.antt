-- The laws of a listing's first line.
-- Assumes nothing.
use Prim.Native.Nat.{ℕ, ◌≤◌}
use mathlib.Core.Path.{◌≡◌}
use mathlib.Core.List.{List}
use lib.ListN.{length}
use Rattle.std.specs.Prelude.{Ok}
use Rattle.refusal.specs.declared.Refusal.TheVariants.{NoRoom}
use Rattle.front.specs.UnitLine.{unit_bytes}
use Rattle.listing.specs.Listing.{frame05}
use Rattle.writing.proofs.WholeLaws.{no_room_is_not, wrote_within}
use Rattle.opening.specs.First.{first_wrote}
use Rattle.opening.specs.declared.files.FrontRead.{FrontRead}
use Rattle.opening.specs.declared.files.FrontRead.TheVariants.{Unread, Alone, Unpaired, Ready}

-- a first line that is written lies in what is lent
pub first_within : (s : List ℕ) (front : FrontRead) (n : ℕ) → first_wrote s front ≡ Ok n → n ≤ length s
unfolding first_wrote
first_within s Unread n e = absurd (no_room_is_not NoRoom n e)
first_within s (Alone k) n e = wrote_within s (frame05 0 k) n e
first_within s (Unpaired u k) n e = wrote_within s (unit_bytes u) n e
first_within s (Ready u) n e = wrote_within s (unit_bytes u) n e
