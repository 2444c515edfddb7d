-- `kept::keep::Keep::byte` meets its contract: the tests on the way pick the case. Assumes nothing.
use Rattle.kept.specs.Keep.{keep_byte}
use borrow.Author.Tests.{eq-eqb, le-leb, lt-leb, ne_eqb}
use Rattle.kept.proofs.keep.Keep.byte.Goals as goal

pub returns-then-self : goal.returns-then-self
unfolding keep_byte
returns-then-self c = simp c.if-self.true

pub returns-then-b-eq0 : goal.returns-then-b-eq0
unfolding keep_byte
returns-then-b-eq0 c = simp (c.if-self.false, eq-eqb _ _ c.if-b-eq0.true) c.stopped.ensures

pub returns-then-self-ge-BYTES : goal.returns-then-self-ge-BYTES
unfolding keep_byte
returns-then-self-ge-BYTES c = simp (c.if-self.false, ne_eqb _ _ c.if-b-eq0.false, le-leb _ _ c.if-self-ge-BYTES.true) c.stopped-then-self-ge-BYTES.ensures

pub returns-then-b-eq-END : goal.returns-then-b-eq-END
unfolding keep_byte
returns-then-b-eq-END c =
    simp (c.if-self.false, ne_eqb _ _ c.if-b-eq0.false, lt-leb _ _ c.if-self-ge-BYTES.false, eq-eqb _ _ c.if-b-eq-END.true) c.line_kept.ensures

pub returns : goal.returns
unfolding keep_byte
returns c =
    simp (c.if-self.false, ne_eqb _ _ c.if-b-eq0.false, lt-leb _ _ c.if-self-ge-BYTES.false, ne_eqb _ _ c.if-b-eq-END.false) c.passed_by.ensures
