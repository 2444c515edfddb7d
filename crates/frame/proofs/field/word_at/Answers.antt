-- `frame::field::word_at` meets its contract: two bytes, the high one first. Assumes nothing.
use Rattle.std.proofs.Common.{sym, ◌∙◌, arith}
use Rattle.frame.proofs.FieldLaws.{word_is, word_past}
use Rattle.frame.proofs.field.word_at.Goals as goal

pub returns-then-count-at : goal.returns-then-count-at
returns-then-count-at g c = (sym (word_past _ c.args.at (omega arith)), omega arith)

pub returns : goal.returns
returns g c = (word_is _ _ _ _ (c.from.ensures ∙ c.byte_at.ensures) (c.from-2.ensures ∙ c.byte_at-2.ensures), omega arith)
