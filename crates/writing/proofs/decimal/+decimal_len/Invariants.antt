-- The quotient by ten falls. Assumes nothing.
use Rattle.writing.proofs.decimal.+decimal_len.Given as goal

abbrev pub decreases-decimal_len : goal.decreases-decimal_len
decreases-decimal_len l = l.n
