-- `block::aligned::read_block` meets its contract: each step of the definition follows from what was read. Assumes nothing.
use Prim.Native.Nat.{◌-◌, ◌^◌}
use mathlib.Core.Path.{refl, sym, ap, ◌∙◌}
use native.Mathlib.Omega.{arith}
use borrow.Author.Rules.{rules}
use Rattle.std.proofs.lemmas.Result.{err_from_is_err_and}
use Rattle.frame.proofs.StepLaws.{value, ended}
use Rattle.edits.specs.declared.Run.{Run}
use Rattle.edits.proofs.EditLaws.{edits_bytes}
use Rattle.ecigar.specs.Check.{check_of}
use Rattle.ecigar.proofs.CheckLaws.{checked_fine, behind_fits}
use Rattle.ecigar.proofs.LengthLaws.{ClipsFit, clips_most, text_most}
use Rattle.block.specs.Aligned.{edits_tallied, from_soft, aligned_at}
use Rattle.block.proofs.Steps.{accepted, rejected, clips_taken, edits_counted}
use Rattle.block.proofs.aligned.read_block.Goals as goal

pub returns-in_err-bases : goal.returns-in_err-bases
unfolding aligned_at
returns-in_err-bases c =
    let p = err_from_is_err_and c.from_residual.result c.from_residual.ensures.1 in
    rw (p.1, p.2) (rejected _ _ _ _ _ c.clips_of.ensures c.in_err-bases.was refl ∙ sym (clips_taken _ _ _ _ _ _ _))

pub returns-in_err-behind : goal.returns-in_err-behind
unfolding aligned_at from_soft
returns-in_err-behind c =
    let p = err_from_is_err_and c.from_residual-in_err-behind.result c.from_residual-in_err-behind.ensures.1 in
    rw (p.1, p.2)
    (accepted _ _ _ _ _ c.clips_of.ensures c.in_ok-bases.was (ended _ _ _ _ _ _ (rw c.soft.ensures at c.read_symbols.ensures) c.in_err-behind.was refl)
    ∙ sym (clips_taken _ _ _ _ _ _ _))

pub returns-in_err-edits : goal.returns-in_err-edits
unfolding aligned_at from_soft
returns-in_err-edits c =
    let p = err_from_is_err_and c.from_residual-in_err-edits.result c.from_residual-in_err-edits.ensures.1 in
    rw (p.1, p.2)
    (accepted _ _ _ _ _ c.clips_of.ensures c.in_ok-bases.was
    (value _ _ _ _ _ _ _ (rw c.soft.ensures at c.read_symbols.ensures) c.in_ok-behind.was (ended _ _ _ _ _ _ c.edit_count.ensures c.in_err-edits.was refl ∙ sym (edits_counted _ _ _ _ _ _ _ _ _)))
    ∙ sym (clips_taken _ _ _ _ _ _ _))

pub returns-in_err-extent : goal.returns-in_err-extent
unfolding aligned_at from_soft edits_tallied
returns-in_err-extent c =
    let p = err_from_is_err_and c.from_residual-in_err-extent.result c.from_residual-in_err-extent.ensures.1 in
    let come = (c.check.ensures ∙ ap (λ (r : Run). check_of c.args.class c.args.alphabet c.args.frame.now r.edits_at r.edits r.mapped) c.run_of.ensures) in
    rw (p.1, p.2)
    (accepted _ _ _ _ _ c.clips_of.ensures c.in_ok-bases.was
    (value _ _ _ _ _ _ _ (rw c.soft.ensures at c.read_symbols.ensures) c.in_ok-behind.was
    (value _ _ _ _ _ _ _ c.edit_count.ensures c.in_ok-edits.was (rejected _ _ _ _ _ come c.in_err-extent.was refl) ∙ sym (edits_counted _ _ _ _ _ _ _ _ _)))
    ∙ sym (clips_taken _ _ _ _ _ _ _))

pub overflow_add-result : goal.overflow_add-result
overflow_add-result c =
    let p = c.in_ok-bases.clips in
    let fit : ClipsFit p = record { left_soft = search rules; left_hard = search rules; right_soft = search rules; right_hard = search rules } in
    let come = (c.check.ensures ∙ ap (λ (r : Run). check_of c.args.class c.args.alphabet c.args.frame.now r.edits_at r.edits r.mapped) c.run_of.ensures) in
    omega (arith, c.clips_len.ensures, clips_most p fit, text_most _ _ _ _ _ _ _ _ (sym come ∙ c.in_ok-extent.was))

pub overflow_mul-result : goal.overflow_mul-result
overflow_mul-result c =
    let come = (c.check.ensures ∙ ap (λ (r : Run). check_of c.args.class c.args.alphabet c.args.frame.now r.edits_at r.edits r.mapped) c.run_of.ensures) in
    let f = checked_fine _ _ _ _ _ _ _ _ (sym come ∙ c.in_ok-extent.was) in
    rw c.width.ensures (omega (arith, edits_bytes c.args.class c.in_ok-edits.edits f.few))

pub overflow_add-result-2 : goal.overflow_add-result-2
overflow_add-result-2 c =
    let come = (c.check.ensures ∙ ap (λ (r : Run). check_of c.args.class c.args.alphabet c.args.frame.now r.edits_at r.edits r.mapped) c.run_of.ensures) in
    rw c.width.ensures (omega (arith, behind_fits _ _ _ _ _ _ _ _ (2 ^ 64 - 1) (sym come ∙ c.in_ok-extent.was) (omega arith) (omega arith)))

pub returns : goal.returns
unfolding aligned_at from_soft edits_tallied
returns c =
    let come = (c.check.ensures ∙ ap (λ (r : Run). check_of c.args.class c.args.alphabet c.args.frame.now r.edits_at r.edits r.mapped) c.run_of.ensures) in
    rw (c.clips_len.ensures, c.width.ensures)
    (accepted _ _ _ _ _ c.clips_of.ensures c.in_ok-bases.was
    (value _ _ _ _ _ _ _ (rw c.soft.ensures at c.read_symbols.ensures) c.in_ok-behind.was
    (value _ _ _ _ _ _ _ c.edit_count.ensures c.in_ok-edits.was (accepted _ _ _ _ _ come c.in_ok-extent.was refl) ∙ sym (edits_counted _ _ _ _ _ _ _ _ _)))
    ∙ sym (clips_taken _ _ _ _ _ _ _))
