-- `record::settle` meets its contract: `record_no_room`, and `record_room` over the bytes of the line, which are as many as the code counts. Assumes nothing.
use mathlib.Core.Path.{◌∙◌}
use native.Mathlib.Omega.{arith}
use lib.ListN.{length-set}
use Rattle.writing.proofs.LayLaws.{length_laid}
use Rattle.record.specs.Record.{listed_bytes}
use Rattle.state.specs.State.{after}
use Rattle.record.proofs.BytesLaws.{length_listed}
use Rattle.record.proofs.RoomLaws.{record_no_room, record_room}
use borrow.Author.Rules.{rules}
use Rattle.record.proofs.settle.Goals as goal

pub returns-then-out-bytes : goal.returns-then-out-bytes
returns-then-out-bytes c =
    let w = record_no_room c.args.state (after c.args.state c.args.moved) c.args.out.now (listed_bytes c.args.unit c.args.reference.now c.args.symbols.now c.args.frame.now c.args.state.number (after c.args.state c.args.moved) c.args.p) (omega (arith, length_listed c.args.unit c.args.reference.now c.args.symbols.now c.args.frame.now c.args.state.number (after c.args.state c.args.moved) c.args.p (search rules) c.requires.ready_plan, c.bytes.ensures, c.bytes-2.ensures, c.if-out-bytes.true)) in record { value = c.refused.ensures ∙ w.0; out_after = w.1 }

pub write-end-requires : goal.write-end-requires
write-end-requires c =
    record { ready_plan = c.requires.ready_plan; p_in_bounds = omega (arith, length_listed c.args.unit c.args.reference.now c.args.symbols.now c.args.frame.now c.args.state.number (after c.args.state c.args.moved) c.args.p (search rules) c.requires.ready_plan, c.bytes.ensures, c.bytes-2.ensures, c.if-out-bytes.false) }

pub bounds-out-end : goal.bounds-out-end
bounds-out-end c =
    omega (arith, length_listed c.args.unit c.args.reference.now c.args.symbols.now c.args.frame.now c.args.state.number (after c.args.state c.args.moved) c.args.p (search rules) c.requires.ready_plan, c.bytes.ensures, c.bytes-2.ensures, c.if-out-bytes.false, c.write-end.ensures.to, length_laid {xs = listed_bytes c.args.unit c.args.reference.now c.args.symbols.now c.args.frame.now c.args.state.number (after c.args.state c.args.moved) c.args.p} c.write-end.ensures)

pub shape_of-out : goal.shape_of-out
shape_of-out c = simp length-set (length_laid c.write-end.ensures)

pub returns : goal.returns
returns c = record { value = (record_room c.args.state (after c.args.state c.args.moved) _ (listed_bytes c.args.unit c.args.reference.now c.args.symbols.now c.args.frame.now c.args.state.number (after c.args.state c.args.moved) c.args.p) (omega (arith, length_listed c.args.unit c.args.reference.now c.args.symbols.now c.args.frame.now c.args.state.number (after c.args.state c.args.moved) c.args.p (search rules) c.requires.ready_plan, c.bytes.ensures, c.bytes-2.ensures, c.if-out-bytes.false)) c.write-end.ensures).0; out_after = (record_room c.args.state (after c.args.state c.args.moved) _ (listed_bytes c.args.unit c.args.reference.now c.args.symbols.now c.args.frame.now c.args.state.number (after c.args.state c.args.moved) c.args.p) (omega (arith, length_listed c.args.unit c.args.reference.now c.args.symbols.now c.args.frame.now c.args.state.number (after c.args.state c.args.moved) c.args.p (search rules) c.requires.ready_plan, c.bytes.ensures, c.bytes-2.ensures, c.if-out-bytes.false)) c.write-end.ensures).1 }
