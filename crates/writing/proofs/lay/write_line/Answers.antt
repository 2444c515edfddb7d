-- `writing::lay::write_line` meets its contract: `no_room_lem` and `room`. Assumes nothing.
use native.Mathlib.Omega.{arith}
use Rattle.writing.proofs.WholeLaws.{no_room_lem, room}
use Rattle.writing.proofs.lay.write_line.Goals as goal

pub returns-then-half-bytes : goal.returns-then-half-bytes
returns-then-half-bytes c = record { value = (no_room_lem _ _ (omega arith)).0; out_after = (no_room_lem _ _ (omega arith)).1 }

pub returns-then-out-digits : goal.returns-then-out-digits
returns-then-out-digits c = record { value = (no_room_lem _ _ (omega arith)).0; out_after = (no_room_lem _ _ (omega arith)).1 }

pub returns : goal.returns
returns c = record { value = (room _ _ (omega arith) c.put_bytes-end.ensures).0; out_after = (room _ _ (omega arith) c.put_bytes-end.ensures).1 }
