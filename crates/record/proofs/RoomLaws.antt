-- The laws of the last test: 17 and nothing written, or the line at the front and the next state.
-- Assumes nothing.
use mathlib.Core.Path.{◌≡◌, sym, ◌∙◌}
use mathlib.Core.List.{List}
use Prim.Native.Nat.{ℕ, ◌+◌, ◌*◌, ◌<◌, ◌≤◌}
use native.Mathlib.Nat.{zero-add}
use borrow.Author.Tests.{lt-ltb, le-ltb}
use lib.Dec.{ltb}
use lib.ListN.{length, set}
use Rattle.refusal.specs.declared.Refusal.TheVariants.{NoRoom}
use Rattle.frame.specs.Line.{line_end}
use Rattle.frame.proofs.HexLaws.{by_test}
use Rattle.writing.specs.Lay.{Laid}
use Rattle.writing.specs.Whole.{line_into}
use Rattle.writing.proofs.WholeLaws.{no_room_lem, room}
use Rattle.state.specs.Listed.{accepted}
use Rattle.state.specs.declared.State.{State}
use Rattle.record.specs.Record.{refused_call, listed_by, recorded, output, with_room}

-- what an accepted call leaves in the output is what writes any line there
pub output_is_line : (s bs : List ℕ) (next : State) → output s (with_room (length s) (accepted bs next)) ≡ line_into s bs
unfolding line_into
output_is_line s bs next = by_test (ltb (2 * length bs) (length s)) (λ t. simp t) (λ t. simp t)

pub record_no_room : (state next : State) (s bs : List ℕ) → length s ≤ 2 * length bs
    → (refused_call NoRoom state ≡ recorded state (with_room (length s) (accepted bs next))) × (s ≡ output s (with_room (length s) (accepted bs next)))
record_no_room state next s bs h =
    let t = le-ltb (2 * length bs) (length s) h in
    (simp t, (no_room_lem s bs h).1 ∙ sym (output_is_line s bs next))

pub record_room : (state next : State) (s bs : List ℕ) {e : List ℕ} {n : ℕ} → 2 * length bs < length s → Laid s e 0 n bs
    → (listed_by (n + 1) next ≡ recorded state (with_room (length s) (accepted bs next))) × (set e n line_end ≡ output s (with_room (length s) (accepted bs next)))
record_room state next s bs {e} {n} h f =
    let t = lt-ltb (2 * length bs) (length s) h in
    let q : n ≡ 2 * length bs = f.to ∙ zero-add (2 * length bs) in
    (simp (t, q), (room s bs h f).1 ∙ sym (output_is_line s bs next))
