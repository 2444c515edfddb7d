-- `record::of_frame` meets its contract: what was read refuses, or is settled. Assumes nothing.
use mathlib.Core.Path.{refl}
use Rattle.record.proofs.CallLaws.{read_step_lem, number_fits, frame_ready}
use borrow.Author.Rules.{rules}
use Rattle.record.proofs.of_frame.Goals as goal

pub settle-requires : goal.settle-requires
settle-requires c =
    let a = c.args in
    let lent = c.requires.state_value in
    let framed = c.requires.by_index in record { ready_plan = frame_ready a.unit a.reference.now a.symbols.now a.counts.now a.state refl framed.0 a.frame.now lent (search rules) framed.1 c.read.ensures c.in-Ok.is; number_lt_most_records = number_fits a.unit a.reference.now a.symbols.now a.counts.now a.state refl lent }

pub returns-in-Err : goal.returns-in-Err
returns-in-Err c = record { value = rw (read_step_lem _ _ _ _ _ _ c.read.ensures, c.in-Err.is) (c.refused.ensures); out_after = rw (read_step_lem _ _ _ _ _ _ c.read.ensures, c.in-Err.is) (refl) }

pub returns-in-Ok : goal.returns-in-Ok
returns-in-Ok c = record { value = rw (read_step_lem _ _ _ _ _ _ c.read.ensures, c.in-Ok.is) c.settle.ensures.value; out_after = rw (read_step_lem _ _ _ _ _ _ c.read.ensures, c.in-Ok.is) c.settle.ensures.out_after }
