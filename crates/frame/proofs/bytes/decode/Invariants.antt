-- `frame::bytes::decode` meets its contract. The loop's invariant: to store the bytes that are left, from here, gives what storing all gives. Assumes nothing.
use Rattle.std.proofs.Common.{take}
use Rattle.std.proofs.Math.Seq.{slice}
use Rattle.frame.specs.Hex.{unhex}
use Rattle.frame.proofs.StoreLaws.{Left}
use Rattle.frame.proofs.bytes.decode.Given as goal

abbrev pub invariant-loop-i : goal.invariant-loop-i
invariant-loop-i l = Left l.frame l.i (slice l.i l.n (unhex l.line)) l.initial.frame 0 (take l.n (unhex l.line))
