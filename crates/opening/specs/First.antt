-- The listing's first line (document 01, The listing): the unit line again, or the 05 line alone.
-- Assumes nothing.
use Rattle.std.specs.Prelude.{ℕ, List, Err}
use Rattle.writing.specs.Whole.{wrote_of, line_into}
use Rattle.refusal.specs.Answers.{OrRefused}
use Rattle.refusal.specs.declared.Refusal.TheVariants.{NoRoom}
use Rattle.front.specs.UnitLine.{unit_bytes}
use Rattle.listing.specs.Listing.{frame05}
use Rattle.opening.specs.declared.files.FrontRead.{FrontRead}
use Rattle.opening.specs.declared.files.FrontRead.TheVariants.{Unread, Alone, Unpaired, Ready}

-- what its writer answers, where s is lent; there is no such line where a file cannot be read
unfoldable pub first_wrote : List ℕ → FrontRead → OrRefused ℕ
first_wrote s Unread = Err NoRoom
first_wrote s (Alone n) = wrote_of s (frame05 0 n)
first_wrote s (Unpaired u n) = wrote_of s (unit_bytes u)
first_wrote s (Ready u) = wrote_of s (unit_bytes u)

-- what is lent, with that line at its front
unfoldable pub first_into : List ℕ → FrontRead → List ℕ
first_into s Unread = s
first_into s (Alone n) = line_into s (frame05 0 n)
first_into s (Unpaired u n) = line_into s (unit_bytes u)
first_into s (Ready u) = line_into s (unit_bytes u)
