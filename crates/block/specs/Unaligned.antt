-- An unaligned block (document 01, Lines: blocks): read length and that many indexes.
-- Assumes nothing.
use Rattle.std.specs.Prelude.{ℕ, List, Ok, Err}
use Rattle.refusal.specs.Answers.{OrRefused}
use Rattle.frame.specs.Field.{after_field}
use Rattle.block.specs.Checked.{length_at}
use Rattle.block.specs.Symbols.{symbol_run}
use Rattle.block.specs.declared.unaligned.UnalignedBlock.{UnalignedBlock}

-- the indexes
unfoldable pub from_length : (alphabet : ℕ) (frame : List ℕ) (length at : ℕ) → OrRefused UnalignedBlock
from_length alphabet frame length at =
    after_field Err (symbol_run alphabet frame length at) (λ count next. Ok record { length = length; at = at; next = next })

-- the read length before them
unfoldable pub unaligned_at : (alphabet : ℕ) (frame : List ℕ) (at : ℕ) → OrRefused UnalignedBlock
unaligned_at alphabet frame at =
    after_field Err (length_at frame at) (λ length next. from_length alphabet frame length next.at)
