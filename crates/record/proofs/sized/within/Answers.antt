-- `record::sized::within` meets its contract: what is decoded into the front of the lent bytes is the line's frame. Assumes nothing.
use mathlib.Core.Path.{◌≡◌, sym}
use Prim.Native.Nat.{ℕ, ◌/◌, ◌≤◌}
use native.Mathlib.Omega.{arith}
use mathlib.Core.List.{List, ◌++◌}
use lib.ListN.{length, take, length-append}
use lib.Seq.{length-take-le}
use Rattle.frame.specs.Hex.{unhex}
use Rattle.frame.specs.Line.{line_digits, line_of}
use Rattle.frame.specs.Steps.{stored_at}
use Rattle.std.specs.Prelude.{Ok}
use Rattle.frame.proofs.LineLaws.{frame_is_line}
use Rattle.frame.proofs.DecodeLaws.{count, decoded_is, decoded_front}
use Rattle.record.proofs.sized.within.Goals as goal

-- the frame has half as many bytes as the line
half_is : (line : List ℕ) (size : ℕ) → line_of line ≡ Ok size → length line / 2 ≡ size
half_is line size e = omega (arith, (frame_is_line line_digits line size e).long)

formed : (line : List ℕ) (size : ℕ) → line_of line ≡ Ok size → line_of line ≡ Ok (length line / 2)
formed line size e = rw (half_is line size e) e

room : (line own : List ℕ) (size : ℕ) → line_of line ≡ Ok size → size ≤ length own → length line / 2 ≤ length own
room line own size e h = omega (arith, half_is line size e, h)

front : (line own : List ℕ) (size : ℕ) → line_of line ≡ Ok size → size ≤ length own → {f : List ℕ} (rest : List ℕ)
    → f ≡ stored_at (take (length line / 2) own) 0 (take (length (take (length line / 2) own)) (unhex line)) → take (length line / 2) (f ++ rest) ≡ unhex line
front line own size e h rest q = decoded_front _ _ (formed line size e) rest (decoded_is _ _ (formed line size e) _ (room line own size e h) q)

pub slice_bounds-decode-end : goal.slice_bounds-decode-end
slice_bounds-decode-end c = room c.args.line.now c.args.own.now c.requires.by_index.0 c.requires.by_index.1.0 c.requires.by_index.1.1

pub slice_bounds-decode-end-2 : goal.slice_bounds-decode-end-2
slice_bounds-decode-end-2 c = sym (length-take-le _ _ (room c.args.line.now c.args.own.now c.requires.by_index.0 c.requires.by_index.1.0 c.requires.by_index.1.1))

pub slice_bounds-of_frame-end : goal.slice_bounds-of_frame-end
slice_bounds-of_frame-end c =
    rw (length-append, decoded_is _ _ (formed c.args.line.now c.requires.by_index.0 c.requires.by_index.1.0) _ (room c.args.line.now c.args.own.now c.requires.by_index.0 c.requires.by_index.1.0 c.requires.by_index.1.1) c.decode.ensures) (omega (arith, count _ _ (formed c.args.line.now c.requires.by_index.0 c.requires.by_index.1.0)))

pub slice_bounds-of_frame-end-2 : goal.slice_bounds-of_frame-end-2
slice_bounds-of_frame-end-2 c =
    rw (front c.args.line.now c.args.own.now c.requires.by_index.0 c.requires.by_index.1.0 c.requires.by_index.1.1 _ c.decode.ensures) (count _ _ (formed c.args.line.now c.requires.by_index.0 c.requires.by_index.1.0))

pub of_frame-requires : goal.of_frame-requires
of_frame-requires c =
    record { state_value = c.requires.state_value; by_index = (c.args.line.now, record { size = length c.args.line.now / 2; well_formed = formed c.args.line.now c.requires.by_index.0 c.requires.by_index.1.0; bytes = front c.args.line.now c.args.own.now c.requires.by_index.0 c.requires.by_index.1.0 c.requires.by_index.1.1 _ c.decode.ensures }) }

pub returns : goal.returns
returns c =
    record { value = rw (front c.args.line.now c.args.own.now c.requires.by_index.0 c.requires.by_index.1.0 c.requires.by_index.1.1 _ c.decode.ensures) at c.of_frame.ensures.value; out_after = rw (front c.args.line.now c.args.own.now c.requires.by_index.0 c.requires.by_index.1.0 c.requires.by_index.1.1 _ c.decode.ensures) at c.of_frame.ensures.out_after }
