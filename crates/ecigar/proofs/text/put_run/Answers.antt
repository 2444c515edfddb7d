-- `ecigar::text::put_run` meets its contract: the tests on the way pick the walk, and with no edits the text is one match, `run_matched`. Assumes nothing.
use mathlib.Core.Path.{sym, ◌∙◌}
use native.Mathlib.Omega.{arith}
use Rattle.writing.proofs.LayLaws.{laid_as}
use Rattle.ecigar.specs.Ecigar.{ecigar_of}
use Rattle.ecigar.proofs.SubstitutionLaws.{run_matched}
use Rattle.ecigar.proofs.text.put_run.Goals as goal

pub put_matches-requires : goal.put_matches-requires
put_matches-requires c = rw (run_matched _ _ _ _ _ _ c.if-run-eq0.true) at c.requires.edits_at_in_bounds

pub returns-then-run-eq0 : goal.returns-then-run-eq0
returns-then-run-eq0 c = laid_as (sym (run_matched _ _ _ _ _ _ c.if-run-eq0.true)) c.put_matches.ensures

pub put_substitutions-requires : goal.put_substitutions-requires
put_substitutions-requires c = record { class_value = (sym c.substitutes.ensures ∙ c.if-substitutes.true, c.requires.edits_le_most_edits.1); sound = c.requires.sound; edits_at_in_bounds = c.requires.edits_at_in_bounds }

pub returns-then-substitutes : goal.returns-then-substitutes
returns-then-substitutes c = c.put_substitutions.ensures

pub write_piece-requires : goal.write_piece-requires
unfolding ecigar_of
write_piece-requires c = record { class_value = sym c.substitutes.ensures ∙ c.if-substitutes.false; start_le_mapped = (omega arith, c.requires.edits_le_most_edits); sound = c.requires.sound; edits_at_in_bounds = c.requires.edits_at_in_bounds }

pub returns : goal.returns
unfolding ecigar_of
returns c = c.write_piece.ensures
