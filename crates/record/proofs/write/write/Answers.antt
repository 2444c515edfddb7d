-- `record::write::write` meets its contract: the head and the first segment one after the other, the second part into the rest of the line. Assumes nothing.
use Prim.Native.Nat.{ℕ, ◌+◌, ◌*◌, ◌≤◌}
use mathlib.Core.List.{List, ◌++◌}
use native.Mathlib.Nat.{zero-add}
use native.Mathlib.Omega.{arith}
use lib.ListN.{length, length-append}
use Rattle.writing.proofs.LayLaws.{laid_as, laid_then, laid_rest, length_laid, room_next}
use Rattle.state.specs.Listed.{listed_head}
use Rattle.segment.specs.Segment.{segment_bytes}
use Rattle.unit.specs.declared.Unit.{Unit}
use Rattle.state.specs.declared.State.{State}
use Rattle.plan.specs.declared.read.Plan.{Plan}
use Rattle.record.specs.Record.{link_bytes, listed_bytes}
use Rattle.record.proofs.write.write.Goals as goal

-- room for the four pieces
room : (u : Unit) (reference symbols frame out : List ℕ) (number : ℕ) (next : State) (p : Plan)
    → 2 * length (listed_bytes u reference symbols frame number next p) ≤ length out
    → 0 + 2 * length (listed_head number next ++ link_bytes u.sequence p.pos p.link ++ segment_bytes u reference symbols frame p.first ++ segment_bytes u reference symbols frame p.second) ≤ length out
unfolding listed_bytes
room u reference symbols frame out number next p h = rw zero-add h

pub put_head-a-requires : goal.put_head-a-requires
put_head-a-requires c = let r = simp length-append at (room c.args.unit c.args.reference.now c.args.symbols.now c.args.frame.now c.args.out.now c.args.number c.args.next c.args.p c.requires.p_in_bounds) in omega arith

pub put_bytes-b-requires : goal.put_bytes-b-requires
put_bytes-b-requires c =
    let r = simp length-append at (room c.args.unit c.args.reference.now c.args.symbols.now c.args.frame.now c.args.out.now c.args.number c.args.next c.args.p c.requires.p_in_bounds) in
    rw c.link_bytes.ensures (omega (arith, c.put_head-a.ensures.to, length_laid c.put_head-a.ensures))

pub write-c-requires : goal.write-c-requires
write-c-requires c =
    let two = laid_then c.put_head-a.ensures (laid_as c.link_bytes.ensures c.put_bytes-b.ensures) in
    let r = simp length-append at (room c.args.unit c.args.reference.now c.args.symbols.now c.args.frame.now c.args.out.now c.args.number c.args.next c.args.p c.requires.p_in_bounds) in
    let n = simp length-append at two.to in
    record { ready = c.requires.ready_plan.first; segment_in_bounds = omega (arith, n, length_laid two) }

pub slice_bounds-write-count : goal.slice_bounds-write-count
slice_bounds-write-count c =
    omega (arith, room_next _ (laid_then (laid_then c.put_head-a.ensures (laid_as c.link_bytes.ensures c.put_bytes-b.ensures)) c.write-c.ensures) (room c.args.unit c.args.reference.now c.args.symbols.now c.args.frame.now c.args.out.now c.args.number c.args.next c.args.p c.requires.p_in_bounds))

pub slice_bounds-write-start : goal.slice_bounds-write-start
slice_bounds-write-start c =
    omega (arith, room_next _ (laid_then (laid_then c.put_head-a.ensures (laid_as c.link_bytes.ensures c.put_bytes-b.ensures)) c.write-c.ensures) (room c.args.unit c.args.reference.now c.args.symbols.now c.args.frame.now c.args.out.now c.args.number c.args.next c.args.p c.requires.p_in_bounds))

pub write-d-requires : goal.write-d-requires
write-d-requires c =
    record { ready = c.requires.ready_plan.second; segment_in_bounds = omega (arith, room_next _ (laid_then (laid_then c.put_head-a.ensures (laid_as c.link_bytes.ensures c.put_bytes-b.ensures)) c.write-c.ensures) (room c.args.unit c.args.reference.now c.args.symbols.now c.args.frame.now c.args.out.now c.args.number c.args.next c.args.p c.requires.p_in_bounds)) }

pub overflow_add-result : goal.overflow_add-result
overflow_add-result c =
    let three = laid_then (laid_then c.put_head-a.ensures (laid_as c.link_bytes.ensures c.put_bytes-b.ensures)) c.write-c.ensures in
    omega (arith, room_next _ three (room c.args.unit c.args.reference.now c.args.symbols.now c.args.frame.now c.args.out.now c.args.number c.args.next c.args.p c.requires.p_in_bounds), length_laid three, c.write-d.ensures.to)

pub returns : goal.returns
unfolding listed_bytes
returns c =
    let three = laid_then (laid_then c.put_head-a.ensures (laid_as c.link_bytes.ensures c.put_bytes-b.ensures)) c.write-c.ensures in
    laid_then three (laid_rest _ _ _ (omega (arith, room_next _ three (room c.args.unit c.args.reference.now c.args.symbols.now c.args.frame.now c.args.out.now c.args.number c.args.next c.args.p c.requires.p_in_bounds))) c.write-d.ensures)
