-- For the code, not for the reader.
-- What the check keeps from edit to edit, that is the walk, the reference positions taken and the length of the text so far.
-- Assumes nothing.
use Rattle.std.specs.Prelude.{ℕ, zero, suc, ◌+◌, ◌-◌, List, cond, eqb, length, Ok}
use Rattle.refusal.specs.Answers.{OrRefused, checked}
use Rattle.alphabet.specs.Table35.{size_of}
use Rattle.edits.specs.Edits.{substitution, width_of, edit_at, edit_refusal, taken_by}
use Rattle.edits.specs.Code.Flank.{flank_past, flank_end}
use Rattle.edits.specs.declared.flank.Flank.{Flank}
use Rattle.edits.specs.declared.edit.Edit.{Edit}
use Rattle.ecigar.specs.declared.walk.Walk.{Walk}
use Rattle.ecigar.specs.declared.check.Tally.{Tally}
use Rattle.ecigar.specs.declared.check.Extent.{Extent}
use Rattle.ecigar.specs.Table90.{print_all}
use Rattle.ecigar.specs.Ecigar.{set_out_at, past, gap, ending}
use Rattle.ecigar.specs.Check.{extent, complete}

-- nothing taken and nothing written, before a run whose first base stands at this offset
abbrev pub start_tally_at : (from : ℕ) → Tally
start_tally_at from = record { walk = set_out_at from; taken = 0; text = 0 }

-- the characters that an edit adds: what stands before it, and its letter
unfoldable pub text_by : Walk → Edit → ℕ
text_by w e = length (print_all (gap w e)) + cond (eqb e.kind substitution) 1 0

-- the tally after one more edit
unfoldable pub tallied : Tally → Edit → Tally
tallied t e =
    record {
      walk = past t.walk e;
      taken = t.taken + taken_by t.walk.next e;
      text = t.text + text_by t.walk e;
    }

-- what the tally comes to after the last edit
unfoldable pub after_last : (mapped : ℕ) → Tally → Extent
after_last mapped t = extent (t.taken + (mapped - t.walk.next)) (t.text + length (print_all (ending mapped t.walk)))

-- the same of a whole read: 12 where a deletion is not flanked
unfoldable pub after_read : (mapped : ℕ) → Flank → Tally → OrRefused Extent
after_read mapped f t = checked (flank_end f t.walk.next mapped) (Ok (after_last mapped t))

-- the walk over k edits from a place on: the tally, and what is kept of the deletions (Code.Flank of edits)
unfoldable pub walked : (class alphabet : ℕ) (frame : List ℕ) (mapped k at : ℕ) → Tally → Flank → OrRefused (Tally × Flank)
walked class alphabet frame mapped zero at t f = Ok (t, f)
walked class alphabet frame mapped (suc k) at t f =
    let e : Edit = edit_at class alphabet frame at in
    checked (complete frame at (width_of class))
    (checked (edit_refusal mapped (size_of alphabet) t.walk.next e)
    (walked class alphabet frame mapped k (at + width_of class) (tallied t e) (flank_past f t.walk.next e)))
