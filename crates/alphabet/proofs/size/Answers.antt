-- `alphabet::size` meets its contract: each alphabet's letters are counted. Assumes nothing.
use Rattle.alphabet.specs.Table35.{size_of}
use borrow.Author.Tests.{eq-eqb, ne_eqb}
use Rattle.alphabet.proofs.size.Goals as goal

pub returns-then-alphabet-eq0 : goal.returns-then-alphabet-eq0
unfolding size_of
returns-then-alphabet-eq0 c = simp (eq-eqb _ _ c.if-alphabet-eq0.true)

pub returns-else-alphabet-eq0 : goal.returns-else-alphabet-eq0
unfolding size_of
returns-else-alphabet-eq0 c = simp (ne_eqb _ _ c.if-alphabet-eq0.false)
