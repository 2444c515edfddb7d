-- `record::write::put_head` meets its contract: its bytes in one piece. Assumes nothing.
use Prim.Native.Nat.{ℕ}
use native.Mathlib.Nat.{zero-add}
use mathlib.Core.Path.{◌≡◌}
use lib.ListN.{length}
use Rattle.state.specs.State.{Shaped}
use Rattle.state.specs.Listed.{head_bytes, listed_head}
use Rattle.state.proofs.ListedLaws.{length_head}
use Rattle.writing.proofs.LayLaws.{laid_as}
use borrow.Author.Rules.{rules}
use Rattle.record.proofs.write.put_head.Goals as goal

pub put_bytes-requires : goal.put_bytes-requires
put_bytes-requires c =
    let all : Shaped c.args.next = search rules in
    let long : (n : ℕ) → length (listed_head n c.args.next) ≡ head_bytes = λ n. length_head n c.args.next all in
    rw (c.bytes-bytes.ensures, zero-add, long) (rw long at c.requires)

pub returns : goal.returns
returns c = laid_as c.bytes-bytes.ensures c.put_bytes.ensures
