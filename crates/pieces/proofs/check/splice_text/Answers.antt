-- `pieces::check::splice_text` meets its contract. Assumes nothing.
use native.Mathlib.Omega.{arith}
use Rattle.pieces.specs.Code.Checked.{splice_text}
use borrow.Author.Tests.{eq-eqb, ne_eqb}
use Rattle.pieces.proofs.check.splice_text.Goals as goal

pub returns-then-least-eq0 : goal.returns-then-least-eq0
unfolding splice_text
returns-then-least-eq0 c = (simp (eq-eqb _ _ c.if-least-eq0.true), omega arith)

pub returns : goal.returns
unfolding splice_text
returns c = (rw (ne_eqb _ _ c.if-least-eq0.false) c.splice_len.ensures.0, c.splice_len.ensures.1)
