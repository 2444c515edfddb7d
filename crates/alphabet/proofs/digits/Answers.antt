-- `alphabet::digits` meets its contract: both tables compute. Assumes nothing.
use Rattle.frame.specs.Hex.{glyph, hex_of}
use Rattle.alphabet.specs.Table35.{letter_of}
use Rattle.alphabet.specs.Code.Digits.{letters_from, digits_of}
use borrow.Author.Tests.{eq-eqb, ne_eqb}
use Rattle.alphabet.proofs.digits.Goals as goal

pub returns-then-alphabet-eq0 : goal.returns-then-alphabet-eq0
unfolding digits_of hex_of letters_from letter_of glyph
returns-then-alphabet-eq0 c = simp (eq-eqb _ _ c.if-alphabet-eq0.true)

pub returns-else-alphabet-eq0 : goal.returns-else-alphabet-eq0
unfolding digits_of hex_of letters_from letter_of glyph
returns-else-alphabet-eq0 c = simp (ne_eqb _ _ c.if-alphabet-eq0.false)
