-- Each public promise admits one outcome: two answers that meet it are the same.
-- Assumes nothing.
use mathlib.Core.Path.{◌≡◌}
use mathlib.Core.List.{List}
use Prim.Native.Nat.{ℕ}
use Rattle.refusal.specs.Answers.{OrRefused}
use Rattle.frame.proofs.Unique.{once}
use Rattle.state.specs.declared.State.{State}
use Rattle.taking.specs.Steps.{decode}
use Rattle.block.specs.Aligned.{aligned_at}
use Rattle.block.specs.Head.{head_at, head_moved}
use Rattle.block.specs.Unaligned.{unaligned_at}
use Rattle.block.specs.declared.aligned.AlignedBlock.{AlignedBlock}
use Rattle.block.specs.declared.head.BlockHead.{BlockHead}
use Rattle.block.specs.declared.unaligned.UnalignedBlock.{UnalignedBlock}

pub read_unaligned_block_once : (alphabet : ℕ) (frame : List ℕ) (at : ℕ) {x y : OrRefused UnalignedBlock} → x ≡ unaligned_at alphabet frame at → y ≡ unaligned_at alphabet frame at → x ≡ y
read_unaligned_block_once alphabet frame at p q = once p q

pub read_block_once : (class alphabet : ℕ) (frame : List ℕ) (h : BlockHead) {x y : OrRefused AlignedBlock} → x ≡ aligned_at class alphabet frame h → y ≡ aligned_at class alphabet frame h → x ≡ y
read_block_once class alphabet frame h p q = once p q

pub read_head_once : (class : ℕ) (frame symbols counts : List ℕ) (st : State) (at : ℕ) {x y : OrRefused (BlockHead × State)} → ((position : ℕ) → x ≡ head_moved (decode symbols counts st (head_at class frame position at)))
    → ((position : ℕ) → y ≡ head_moved (decode symbols counts st (head_at class frame position at))) → x ≡ y
read_head_once class frame symbols counts st at p q = once (p 0) (q 0)
