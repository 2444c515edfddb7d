-- `edits::edit::offset_at` meets its contract: two bytes, `offset_bytes`. Assumes nothing.
use Rattle.edits.proofs.EditLaws.{offset_bytes}
use mathlib.Core.Path.{sym}
use Rattle.edits.proofs.edit.offset_at.Goals as goal

pub returns : goal.returns
returns c = rw c.from_be_bytes.ensures (sym (offset_bytes _ _))
