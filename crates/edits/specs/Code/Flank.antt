-- For the code, not for the reader.
-- What is kept from edit to edit to say whether each deletion is flanked: `flank_on` and `flank_end_lem` (proofs/FlankLaws) show that it comes to `flank_refusal`.
-- Assumes nothing.
use Rattle.std.specs.Prelude.{ℕ, ◌-◌, Bool, false, cond, ◌&&◌, List, ltb, eqb, ⊤, Err}
use Rattle.refusal.specs.Answers.{OrRefused, no_refusal}
use Rattle.refusal.specs.declared.Refusal.TheVariants.{OffsetOut}
use Rattle.frame.specs.Steps.{unless}
use Rattle.edits.specs.Edits.{insertion, deletion}
use Rattle.edits.specs.Flanks.{some_base, each_deletion}
use Rattle.edits.specs.declared.edit.Edit.{Edit}
use Rattle.edits.specs.declared.flank.Flank.{Flank}
use Rattle.edits.specs.declared.flank.Flank.TheVariants.{Before, Based, Open, Bare}

-- past a match or a substitution
abbrev pub past_base : Flank → Flank
past_base Before = Based
past_base Based = Based
past_base Open = Based
past_base Bare = Bare

-- past a deletion
abbrev pub past_deleted : Flank → Flank
past_deleted Before = Bare
past_deleted Based = Open
past_deleted Open = Open
past_deleted Bare = Bare

-- past an edit of this kind; an insertion leaves all as it is
unfoldable pub flank_of : Flank → (kind : ℕ) → Flank
flank_of f kind = cond (eqb kind deletion) (past_deleted f) (cond (eqb kind insertion) f (past_base f))

-- the same, with the match before it where there is one
unfoldable pub flank_past : Flank → (next : ℕ) → Edit → Flank
flank_past f next e = cond (ltb next e.offset) (flank_of (past_base f) e.kind) (flank_of f e.kind)

-- behind the last edit, with the match behind it where there is one: of a deletion that waits for a base behind it
unfoldable pub open_end : (next mapped : ℕ) → OrRefused ⊤
open_end next mapped = unless (ltb next mapped) (Err OffsetOut) no_refusal

-- and in all
abbrev pub flank_end : Flank → (next mapped : ℕ) → OrRefused ⊤
flank_end Before next mapped = no_refusal
flank_end Based next mapped = no_refusal
flank_end Open next mapped = open_end next mapped
flank_end Bare next mapped = Err OffsetOut

-- each deletion that is left has a base behind it
abbrev pub backed : (mapped : ℕ) → List Edit → Bool
backed mapped es = each_deletion (λ o. some_base es o (mapped - o)) es

-- what the edits that are left have to meet, from an offset on
unfoldable pub flanked_from : Flank → (mapped next : ℕ) → List Edit → Bool
flanked_from Before mapped next es = each_deletion (λ o. some_base es next (o - next) && some_base es o (mapped - o)) es
flanked_from Based mapped next es = backed mapped es
flanked_from Open mapped next es = some_base es next (mapped - next) && backed mapped es
flanked_from Bare mapped next es = false
