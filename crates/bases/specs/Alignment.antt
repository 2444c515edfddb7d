-- Where each mapped base of a read comes from (10.6.1): from a position of the reference under a match, or from an edit.
-- Assumes nothing.
use Rattle.std.specs.Prelude.{ℕ, ◌+◌, ◌-◌, ◌<◌, ◌≤◌, ◌≡◌, ◌⊎◌, List, [], ◌∷◌}
use Rattle.alphabet.specs.Table35.{size_of}
use Rattle.edits.specs.declared.edit.Edit.{Edit}
use Rattle.edits.specs.declared.Block.{Block}
use Rattle.edits.specs.Edits.{substitution, deletion, edit_list_at, Sound}
use Rattle.edits.specs.Lengths.{soft_bases, mapped_length}
use Rattle.edits.specs.Pieces.{Piece}
use Rattle.bases.specs.declared.places.Places.{Places}
use Rattle.bases.specs.Bases.{R, r, past_edit}
use Rattle.bases.specs.Spliced.{piece_beginning}

-- in a match from both pointers up to a place of the read, base i stands at the position that is as far from R as i is from r
pub record Stands (p : Places) (to i position : ℕ) : Type 0 where
  pub from : r p ≤ i
  pub until : i < to
  pub at : position ≡ R p + (i - r p)

-- base i stands at a reference position under a match: before one of the edits, or behind the last
unfoldable pub UnderMatch : ℕ → Places → List Edit → ℕ → ℕ → Type 0
UnderMatch mapped p [] i position = Stands p mapped i position
UnderMatch mapped p (e ∷ es) i position = Stands p e.offset i position ⊎ UnderMatch mapped (past_edit e p) es i position

-- base i is the one that a substitution or an insertion among the edits brings
unfoldable pub OfEdit : List Edit → ℕ → Edit → Type 0
OfEdit [] i d = ⊥
OfEdit (e ∷ es) i d = ((e ≡ d) × ((e.kind ≡ deletion → ⊥) × (e.offset ≡ i))) ⊎ OfEdit es i d

-- base i stands at a reference position under a match of one of the pieces: each has its own way from the reference to the read
unfoldable pub MatchedIn : List Piece → ℕ → ℕ → Type 0
MatchedIn [] i position = ⊥
MatchedIn (p ∷ ps) i position = UnderMatch p.until (piece_beginning p) p.edits i position ⊎ MatchedIn ps i position

-- base i is the one that a substitution or an insertion of one of the pieces brings
unfoldable pub EditedIn : List Piece → ℕ → Edit → Type 0
EditedIn [] i d = ⊥
EditedIn (p ∷ ps) i d = OfEdit p.edits i d ⊎ EditedIn ps i d

-- a substitution brings base i in place of the reference's base at a position
pub record Substitutes (p : Places) (e : Edit) (i position : ℕ) : Type 0 where
  pub kind : e.kind ≡ substitution
  pub base : e.offset ≡ i
  pub at : position ≡ R p + (e.offset - r p)

-- base i is substituted at a reference position, by one of the edits
unfoldable pub UnderLetter : Places → List Edit → ℕ → ℕ → Type 0
UnderLetter p [] i position = ⊥
UnderLetter p (e ∷ es) i position = Substitutes p e i position ⊎ UnderLetter (past_edit e p) es i position

-- in one of the pieces
unfoldable pub SubstitutedIn : List Piece → ℕ → ℕ → Type 0
SubstitutedIn [] i position = ⊥
SubstitutedIn (p ∷ ps) i position = UnderLetter (piece_beginning p) p.edits i position ⊎ SubstitutedIn ps i position

-- base i lies on a reference position: it matches there, or is substituted there. An inserted base lies on none
abbrev pub LiesOn : List Piece → ℕ → ℕ → Type 0
LiesOn ps i position = MatchedIn ps i position ⊎ SubstitutedIn ps i position

-- a segment whose block was accepted: its soft clips do not reach the read length (9), and each edit is accepted where it stands (11, 10, 12)
pub record Acceptable (class alphabet : ℕ) (frame : List ℕ) (s : Block) : Type 0 where
  pub clips : soft_bases s.clips < s.length
  pub edits : Sound (mapped_length s.length s.clips) (size_of alphabet) 0 (edit_list_at class alphabet frame s.edits s.edits_at)
