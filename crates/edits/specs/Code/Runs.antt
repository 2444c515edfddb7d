-- For the code, not for the reader.
-- What the walks over a block's edits go over: the run between its clips, and the classes whose walks need not ask what an edit is.
-- Assumes nothing.
use Rattle.std.specs.Prelude.{ℕ, Bool, true, cond, eqb}
use Rattle.unit.specs.Unit.{class_n, class_m}
use Rattle.edits.specs.Lengths.{mapped_length}
use Rattle.edits.specs.declared.Block.{Block}
use Rattle.edits.specs.declared.Run.{Run}

-- its mapped bases and its edits
abbrev pub run_of : Block → Run
run_of s = record { mapped = mapped_length s.length s.clips; edits = s.edits; edits_at = s.edits_at }

-- in N and M every edit is a substitution (`substitution_kind`, proofs/EditLaws)
unfoldable pub substitutes_only : (class : ℕ) → Bool
substitutes_only class = cond (eqb class class_n) true (eqb class class_m)
