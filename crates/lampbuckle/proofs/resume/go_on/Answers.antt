-- `lampbuckle::resume::go_on` meets its contract. Assumes nothing.
use mathlib.Core.Path.{◌∙◌}
use Rattle.state.proofs.NumberLaws.{state_into_lem}
use Rattle.lampbuckle.proofs.AnswerLaws.{told}
use Rattle.lampbuckle.proofs.resume.go_on.Goals as goal

pub returns : goal.returns
returns c = rw (c.lay.ensures ∙ state_into_lem _ _ c.requires.state_len, told c.counted.type_inv c.counted.ensures)
