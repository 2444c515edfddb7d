-- Where a deletion may stand in its read (document 02, Wish 2): with a match or a substitution before it, and one behind it.
-- The standard's clause 3.14 makes a record's position that of its leftmost mapped base: with a deletion ahead of that base, the position would be one that the read passes over.
-- Offsets count over the mapped bases of the whole read, through all its pieces.
-- Assumes nothing.
use Rattle.std.specs.Prelude.{ℕ, zero, suc, ◌+◌, ◌-◌, ◌≡◌, ◌⊎◌, Bool, true, false, cond, not, ◌&&◌, ◌||◌, List, [], ◌∷◌, eqb, ⊤, Err}
use Rattle.refusal.specs.Answers.{OrRefused, no_refusal}
use Rattle.refusal.specs.declared.Refusal.TheVariants.{OffsetOut}
use Rattle.frame.specs.Steps.{unless}
use Rattle.edits.specs.Edits.{insertion, deletion}
use Rattle.edits.specs.Pieces.{Piece}
use Rattle.edits.specs.declared.edit.Edit.{Edit}

-- the mapped base at an offset is inserted: an insertion brings it. Every other mapped base is a match or a substitution
unfoldable pub inserted_at : (offset : ℕ) → List Edit → Bool
inserted_at offset [] = false
inserted_at offset (e ∷ es) = eqb e.kind insertion && eqb e.offset offset || inserted_at offset es

-- some of so many mapped bases, from an offset on, is not inserted
unfoldable pub some_base : List Edit → (from count : ℕ) → Bool
some_base es from zero = false
some_base es from (suc count) = not (inserted_at from es) || some_base es (from + 1) count

-- a deletion at an offset is flanked: some mapped base before it is not inserted, and some from it on
abbrev pub flanked : (mapped : ℕ) → List Edit → (offset : ℕ) → Bool
flanked mapped es offset = some_base es 0 offset && some_base es offset (mapped - offset)

-- what holds of the offset of each deletion
unfoldable pub each_deletion : (ℕ → Bool) → List Edit → Bool
each_deletion holds [] = true
each_deletion holds (e ∷ es) = cond (eqb e.kind deletion) (holds e.offset) true && each_deletion holds es

-- each deletion of a read is flanked
abbrev pub all_flanked : (mapped : ℕ) → List Edit → Bool
all_flanked mapped es = each_deletion (flanked mapped es) es

-- refusal 12 of all edits of a read together, behind the last of them
abbrev pub flank_refusal : (mapped : ℕ) → List Edit → OrRefused ⊤
flank_refusal mapped es = unless (all_flanked mapped es) (Err OffsetOut) no_refusal

-- a deletion stands at this offset
unfoldable pub DeletionAt : (offset : ℕ) → List Edit → Type 0
DeletionAt offset [] = ⊥
DeletionAt offset (e ∷ es) = ((e.kind ≡ deletion) × (e.offset ≡ offset)) ⊎ DeletionAt offset es

-- a piece has a match or a substitution: some of its mapped bases is not inserted
abbrev pub has_base : Piece → Bool
has_base p = some_base p.edits p.start (p.until - p.start)
