-- `alphabet::index_of_n` meets its contract. Assumes nothing.
use Rattle.alphabet.specs.Table35.{code_of_n}
use borrow.Author.Tests.{eq-eqb, ne_eqb}
use Rattle.alphabet.proofs.index_of_n.Goals as goal

pub returns-then-alphabet-eq0 : goal.returns-then-alphabet-eq0
unfolding code_of_n
returns-then-alphabet-eq0 c = simp (eq-eqb _ _ c.if-alphabet-eq0.true)

pub returns-else-alphabet-eq0 : goal.returns-else-alphabet-eq0
unfolding code_of_n
returns-else-alphabet-eq0 c = simp (ne_eqb _ _ c.if-alphabet-eq0.false)
