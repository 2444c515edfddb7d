-- `state::State::within` meets its contract: each index is compared with its count. Assumes nothing.
use native.Mathlib.Omega.{arith}
use mathlib.Core.Path.{◌≡◌, sym}
use lib.ListN.{length, get_or}
use Prim.Native.Nat.{◌≤◌}
use Rattle.std.specs.Prelude.{IsTrue, ◌↔◌, EachIndex}
use Rattle.std.proofs.Common.{rules}
use Rattle.std.proofs.iter.runs.Made.{chains}
use Rattle.state.specs.State.{index_count}
use Rattle.state.proofs.StateLaws.{within_few, within_said}
use Rattle.state.proofs.State.within.Goals as goal

pub returns-then-counts-lt-INDEXES : goal.returns-then-counts-lt-INDEXES
returns-then-counts-lt-INDEXES c =
    let all : length c.args.self.index ≡ index_count = search rules in sym (within_few _ _ (omega (arith, c.if-counts-lt-INDEXES.true)))

pub returns : goal.returns
returns c =
    let is = c.args.self.index in
    let cs = c.args.counts.now in
    let all : length is ≡ index_count = search rules in
    let each : IsTrue c.all.result ↔ EachIndex is (λ k. get_or is k 0 ≤ get_or cs k 0) = search (rules, chains) in
    within_said _ is cs (omega (arith, c.if-counts-lt-INDEXES.false)) each
