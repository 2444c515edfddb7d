-- `ecigar::text::write_piece` meets its contract: edits that have a type have one form, `edits_typed`. Assumes nothing.
use Rattle.edits.proofs.EditLaws.{width_full}
use Rattle.unit.specs.Unit.{class_i}
use Rattle.ecigar.proofs.TextLaws.{typed_i, edits_typed}
use Rattle.ecigar.proofs.text.write_piece.Goals as goal

pub put_edits-requires : goal.put_edits-requires
put_edits-requires c =
    let a = c.args in
    let p = c.requires in
    let t = edits_typed a.class p.class_value a.alphabet a.frame.now a.run.edits a.run.edits_at in
    record { start_le_mapped = (p.start_le_mapped.0, (p.start_le_mapped.1.0, rw (width_full class_i typed_i) (rw (width_full a.class p.class_value) at p.start_le_mapped.1.1))); sound = rw t p.sound; edits_at_in_bounds = rw t p.edits_at_in_bounds }

pub returns : goal.returns
returns c =
    let a = c.args in
    rw (edits_typed a.class c.requires.class_value a.alphabet a.frame.now a.run.edits a.run.edits_at) at c.put_edits.ensures
