-- `lampbuckle::resume::lampbuckle_place` meets its contract, by the tests of the shapes. Assumes nothing.
use Rattle.lampbuckle.specs.Resume.{place_call}
use Rattle.lampbuckle.proofs.AnswerLaws.{told, told_outcome}
use Rattle.lampbuckle.proofs.ResumeLaws.{place_found}
use borrow.Author.Tests.{eq-eqb, ne_eqb}
use Rattle.lampbuckle.proofs.resume.lampbuckle_place.Goals as goal

pub returns-then-counts-ne-SUBSEQUENCES : goal.returns-then-counts-ne-SUBSEQUENCES
unfolding place_call
returns-then-counts-ne-SUBSEQUENCES c = rw (ne_eqb _ _ c.if-counts-ne-SUBSEQUENCES.true, told c.refused.type_inv c.refused.ensures)

pub returns-then-state-ne-STATE : goal.returns-then-state-ne-STATE
unfolding place_call
returns-then-state-ne-STATE c = rw (eq-eqb _ _ c.if-counts-ne-SUBSEQUENCES.false, ne_eqb _ _ c.if-state-ne-STATE.true, told c.refused-then-state-ne-STATE.type_inv c.refused-then-state-ne-STATE.ensures)

pub returns : goal.returns
returns c =
    place_found _ _ _ _ _ _ c.if-counts-ne-SUBSEQUENCES.false c.if-state-ne-STATE.false c.place-go.ensures (told_outcome c.settle.type_inv c.settle.ensures)
