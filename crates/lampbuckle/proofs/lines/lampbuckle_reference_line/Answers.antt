-- `lampbuckle::lines::lampbuckle_reference_line` meets its contract, by what the reader answered. Assumes nothing.
use Rattle.lampbuckle.proofs.LineLaws.{reference_read, reference_counted}
use Rattle.lampbuckle.proofs.AnswerLaws.{told}
use Rattle.lampbuckle.proofs.lines.lampbuckle_reference_line.Goals as goal

pub answered-requires : goal.answered-requires
answered-requires c = reference_counted _ _ _ (c.read.ensures.value, c.read.ensures.reference_after)

pub returns : goal.returns
returns c = reference_read _ _ _ (c.read.ensures.value, c.read.ensures.reference_after) (told c.answered.type_inv c.answered.ensures)
