-- `taking::take` meets its contract: the tests on the way pick the case, and an index is below its count, which fits. Assumes nothing.
use native.Mathlib.Omega.{arith}
use Rattle.taking.specs.Take.{take_of}
use borrow.Author.Tests.{le-leb, lt-leb}
use Rattle.taking.proofs.take.Goals as goal

pub returns-then-s-ge-INDEXES : goal.returns-then-s-ge-INDEXES
unfolding take_of
returns-then-s-ge-INDEXES c = search (le-leb, lt-leb)

pub returns-then-counts-s : goal.returns-then-counts-s
unfolding take_of
returns-then-counts-s c = search (le-leb, lt-leb)

pub returns-then-n-k : goal.returns-then-n-k
unfolding take_of
returns-then-n-k c = search (le-leb, lt-leb)

pub overflow_add-at : goal.overflow_add-at
overflow_add-at c = omega (arith, c.shared_slice_known-1.given c.args.s)

pub returns-then-symbols-at : goal.returns-then-symbols-at
unfolding take_of
returns-then-symbols-at c = search (le-leb, lt-leb)

pub overflow_add-next : goal.overflow_add-next
overflow_add-next c =
    omega (arith, c.shared_slice_known-1.given c.args.s)

pub returns : goal.returns
unfolding take_of
returns c = search (le-leb, lt-leb)
