-- `ecigar::text::put_substitutions` meets its contract. The loop's invariant: there is a walk that has come so far, and to lay the text of the edits that are left, from it, gives what laying the whole gives. Assumes nothing.
use mathlib.Core.Path.{refl, ◌∙◌}
use mathlib.Core.List.{[], ◌∷◌}
use native.Mathlib.Omega.{arith}
use native.Mathlib.Nat.{sub-add-eq, sub-zero}
use lib.ListN.{length-append}
use Rattle.alphabet.proofs.AlphabetLaws.{laid_letter}
use Rattle.writing.proofs.LayLaws.{laid_then, room_next, rest_room_end, rest_end}
use Rattle.edits.proofs.EditLaws.{framed_on, turns_left, turns_over}
use Rattle.ecigar.specs.Ecigar.{set_out, ecigar_of}
use Rattle.ecigar.proofs.TextLaws.{writing_start}
use Rattle.ecigar.proofs.SubstitutionLaws.{substitution_order, substitution_room, substitution_laid, substitutions_last}
use Rattle.ecigar.proofs.text.put_substitutions.Goals as goal

pub loop-init : goal.loop-init
unfolding ecigar_of
loop-init c = rw sub-zero record { walk = set_out; plain = refl; there = refl; writing = writing_start _ _ _ _ _ _ _ _ _ (omega arith) c.requires.class_value.1 c.requires.sound }

pub substitution_at-e-requires : goal.substitution_at-e-requires
substitution_at-e-requires c =
    let g = c.loop in
    let wide = c.width-step.ensures in
    (c.requires.class_value.0, rw (← wide) (framed_on _ _ _ _ _ g.invariant.writing.framed wide (turns_left c.loop-test.true)).0)

pub overflow_sub-offset : goal.overflow_sub-offset
overflow_sub-offset c =
    let o = substitution_order _ _ _ _ _ _ _ _ c.width-step.ensures c.substitution_at-e.ensures (turns_left c.loop-test.true) c.requires.class_value.0 c.loop.invariant in omega (arith, o)

pub put_matches-behind-requires : goal.put_matches-behind-requires
put_matches-behind-requires c =
    let r = rw length-append at (substitution_room _ _ _ _ _ _ _ _ c.width-step.ensures c.substitution_at-e.ensures (turns_left c.loop-test.true) c.requires.class_value.0 c.loop.invariant c.requires.edits_at_in_bounds) in omega (arith, r)

pub put_letter-next-requires : goal.put_letter-next-requires
put_letter-next-requires c =
    room_next (_ ∷ []) c.put_matches-behind.ensures (substitution_room _ _ _ _ _ _ _ _ c.width-step.ensures c.substitution_at-e.ensures (turns_left c.loop-test.true) c.requires.class_value.0 c.loop.invariant c.requires.edits_at_in_bounds)

pub overflow_add-at : goal.overflow_add-at
overflow_add-at c =
    let g = c.loop in
    omega (arith, (framed_on _ _ _ _ _ g.invariant.writing.framed c.width-step.ensures (turns_left c.loop-test.true)).0)

pub loop-preserved : goal.loop-preserved
loop-preserved c =
    rw sub-add-eq (substitution_laid _ _ _ _ _ _ _ _ c.width-step.ensures c.substitution_at-e.ensures (turns_left c.loop-test.true) c.requires.class_value.0 c.loop.invariant (laid_then c.put_matches-behind.ensures (laid_letter _ _ c.digits-table.ensures c.put_letter-next.ensures.value c.put_letter-next.ensures.out_after)))

pub overflow_sub-run : goal.overflow_sub-run
overflow_sub-run c = let g = c.loop.invariant in omega (arith, g.there, g.writing.next)

pub put_matches-requires : goal.put_matches-requires
put_matches-requires c =
    let g = c.loop.invariant in
    rest_room_end g.writing.rest (substitutions_last _ _ _ _ _ _ g (turns_over c.loop-test.false)) c.requires.edits_at_in_bounds

pub shape_of-out : goal.shape_of-out
shape_of-out c = c.put_matches.auto.out ∙ c.loop.invariant.writing.rest.long

pub returns : goal.returns
returns c =
    let g = c.loop.invariant in
    rest_end g.writing.rest (rw (substitutions_last _ _ _ _ _ _ g (turns_over c.loop-test.false)) c.put_matches.ensures)
