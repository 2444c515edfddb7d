-- `segment::under_matches` meets its contract: what is fine at every position that a block takes is fine under its matches, `taken_fine`. Assumes nothing.
use mathlib.Core.Path.{sym, ap, ◌∙◌}
use Prim.Native.Nat.{ℕ}
use Rattle.edits.specs.Lengths.{mapped_length}
use Rattle.edits.specs.Edits.{block_edits}
use Rattle.bases.specs.Bases.{beginning}
use Rattle.bases.specs.Reference.{match_refusal}
use Rattle.bases.proofs.AlignmentLaws.{is_fine, taken_fine}
use Rattle.segment.proofs.under_matches.Goals as goal

pub returns-then-is_ok : goal.returns-then-is_ok
returns-then-is_ok c =
    let is = is_fine _ (sym c.is_ok.ensures.value ∙ c.if-is_ok.true) in
    let all = ap (λ (n : ℕ). match_refusal c.args.unit.alphabet c.args.reference.now c.args.unit.first c.args.position n) c.requires.taken in
    is
    ∙ sym (taken_fine c.args.unit.alphabet c.args.reference.now c.args.unit.first (mapped_length c.args.a.block.length c.args.a.block.clips) (beginning c.args.position) (block_edits c.args.unit.class c.args.unit.alphabet c.args.frame.now c.args.a.block) (sym all ∙ sym c.check_positions-found.ensures ∙ is))

pub check_reference-requires : goal.check_reference-requires
check_reference-requires c = rw c.run_of-run.ensures c.requires.pieced.framed

pub returns : goal.returns
returns c = rw c.run_of-run.ensures at c.check_reference.ensures
