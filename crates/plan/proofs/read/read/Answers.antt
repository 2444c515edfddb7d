-- `plan::read::read` meets its contract: the kind, what the pair symbols came to, the position, and what the first block came to. Assumes nothing.
use mathlib.Core.Path.{refl, sym, ◌∙◌}
use mathlib.Core.Logic.{inl, inr}
use Rattle.std.proofs.lemmas.Result.{err_from_is_err_and}
use Rattle.frame.proofs.FieldLaws.{field_misframed}
use Rattle.reader.proofs.HeadLaws.{head_kind, head_pos}
use Rattle.pairing.proofs.Laws.{pair_came, pair_stopped}
use Rattle.plan.specs.Plan.{from_kind, from_first}
use Rattle.plan.proofs.Steps.{kind_short, kind_other, kind_right, pos_short, pos_out, pos_in, same_steps, refused_steps, steps_go_on, steps_stop, segment_came, segment_stopped}
use Rattle.plan.proofs.read.read.Goals as goal
use Rattle.plan.proofs.read.read.Goals.{then-unit-eq-U+else-pos-ne0, else-unit-eq-U}

pub returns-in_err-kind : goal.returns-in_err-kind
unfolding from_kind
returns-in_err-kind c =
    let e = field_misframed _ _ _ _ (sym (head_kind _ c.read-head.ensures) ∙ c.in_err-kind.was) in
    let p = err_from_is_err_and c.from_residual.result c.from_residual.ensures.1 in rw (p.1, p.2) (rw e (refused_steps _ _ _ _ _ _ (kind_short _ _ _ _ (rw e at (sym (head_kind _ c.read-head.ensures) ∙ c.in_err-kind.was))) refl))

pub returns-then-kind-ne-RECORD : goal.returns-then-kind-ne-RECORD
unfolding from_kind
returns-then-kind-ne-RECORD c = refused_steps _ _ _ _ _ _ (kind_other _ _ _ _ _ _ (sym (head_kind _ c.read-head.ensures) ∙ c.in_ok-kind.was) c.if-kind-ne-RECORD.true) refl

pub returns-in_err-link : goal.returns-in_err-link
unfolding from_kind
returns-in_err-link c = let p = err_from_is_err_and c.from_residual-in_err-link.result c.from_residual-in_err-link.ensures.1 in rw (p.1, p.2) (same_steps _ _ _ _ _ _ (kind_right _ _ _ _ _ _ (sym (head_kind _ c.read-head.ensures) ∙ c.in_ok-kind.was) c.if-kind-ne-RECORD.false) (steps_stop _ _ _ _ _ _ _ (pair_stopped _ _ _ _ _ (sym c.pair.ensures ∙ c.in_err-link.was)) refl))

pub returns-in_err-pos : goal.returns-in_err-pos
unfolding from_kind
returns-in_err-pos c =
    let w = pair_came _ _ _ _ _ _ (sym c.pair.ensures ∙ c.in_ok-link.was) in
    let f = sym (head_pos _ _ _ c.read-head.ensures c.in_ok-kind.was) ∙ c.in_err-pos.was in
    let e = field_misframed _ _ _ _ f in
    let p = err_from_is_err_and c.from_residual-in_err-pos.result c.from_residual-in_err-pos.ensures.1 in rw (p.1, p.2)
    (rw e (same_steps _ _ _ _ _ _ (kind_right _ _ _ _ _ _ (sym (head_kind _ c.read-head.ensures) ∙ c.in_ok-kind.was) c.if-kind-ne-RECORD.false) (steps_go_on _ _ _ _ _ _ _ _ w.is (rw w.link_is (refused_steps _ _ _ _ _ _ (pos_short _ _ _ _ _ _ (rw e at f)) refl)))))

pub returns-then-pos-ne0 : goal.returns-then-pos-ne0
unfolding from_kind
returns-then-pos-ne0 c =
    let w = pair_came _ _ _ _ _ _ (sym c.pair.ensures ∙ c.in_ok-link.was) in
    same_steps _ _ _ _ _ _ (kind_right _ _ _ _ _ _ (sym (head_kind _ c.read-head.ensures) ∙ c.in_ok-kind.was) c.if-kind-ne-RECORD.false)
    (steps_go_on _ _ _ _ _ _ _ _ w.is (rw w.link_is (refused_steps _ _ _ _ _ _ (pos_out _ _ _ _ _ _ _ _ (sym (head_pos _ _ _ c.read-head.ensures c.in_ok-kind.was) ∙ c.in_ok-pos.was) c.if-unit-eq-U.true c.if-pos-ne0.true) refl)))

pub returns-in_err-first : goal.returns-in_err-first
unfolding from_kind from_first
returns-in_err-first c =
    let w = pair_came _ _ _ _ _ _ (sym c.pair.ensures ∙ c.in_ok-link.was) in
    let p = err_from_is_err_and c.from_residual-in_err-first.result c.from_residual-in_err-first.ensures.1 in rw (p.1, p.2)
    (same_steps _ _ _ _ _ _ (kind_right _ _ _ _ _ _ (sym (head_kind _ c.read-head.ensures) ∙ c.in_ok-kind.was) c.if-kind-ne-RECORD.false)
    (steps_go_on _ _ _ _ _ _ _ _ w.is
    (rw w.link_is (same_steps _ _ _ _ _ _ (pos_in _ _ _ _ _ _ _ _ (sym (head_pos _ _ _ c.read-head.ensures c.in_ok-kind.was) ∙ c.in_ok-pos.was) (elim c.if-unit-eq-U.branch [ then-unit-eq-U+else-pos-ne0 v ↦ inr (v.if-unit-eq-U.true, v.if-pos-ne0.false) | else-unit-eq-U v ↦ inl v.if-unit-eq-U.false ]))
    (steps_stop _ _ _ _ _ _ _ (segment_stopped _ _ c.first_segment.ensures _ c.in_err-first.was) refl)))))

pub returns : goal.returns
unfolding from_kind from_first
returns c =
    let w = pair_came _ _ _ _ _ _ (sym c.pair.ensures ∙ c.in_ok-link.was) in
    same_steps _ _ _ _ _ _ (kind_right _ _ _ _ _ _ (sym (head_kind _ c.read-head.ensures) ∙ c.in_ok-kind.was) c.if-kind-ne-RECORD.false)
    (steps_go_on _ _ _ _ _ _ _ _ w.is
    (rw w.link_is (same_steps _ _ _ _ _ _ (pos_in _ _ _ _ _ _ _ _ (sym (head_pos _ _ _ c.read-head.ensures c.in_ok-kind.was) ∙ c.in_ok-pos.was) (elim c.if-unit-eq-U.branch [ then-unit-eq-U+else-pos-ne0 v ↦ inr (v.if-unit-eq-U.true, v.if-pos-ne0.false) | else-unit-eq-U v ↦ inl v.if-unit-eq-U.false ]))
    (steps_go_on _ _ _ _ _ _ _ _ (segment_came _ _ c.first_segment.ensures _ _ _ c.in_ok-first.was) c.from_second.ensures))))
