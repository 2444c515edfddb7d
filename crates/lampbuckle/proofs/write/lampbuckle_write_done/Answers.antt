-- `lampbuckle::write::lampbuckle_write_done` meets its contract. Assumes nothing.
use native.Mathlib.Omega.{arith}
use Rattle.lampbuckle.proofs.AnswerLaws.{told}
use Rattle.lampbuckle.proofs.WriteLaws.{line_counted, line_written}
use Rattle.lampbuckle.proofs.write.lampbuckle_write_done.Goals as goal

pub answered-requires : goal.answered-requires
answered-requires c = line_counted _ _ (c.write_done.ensures.value, c.write_done.ensures.out_after) (omega arith)

pub returns : goal.returns
returns c = line_written _ _ (c.write_done.ensures.value, c.write_done.ensures.out_after) (told c.answered.type_inv c.answered.ensures)
