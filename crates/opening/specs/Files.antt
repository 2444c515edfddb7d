-- The two files while the lines of the unit are read: what of them stays.
-- Assumes nothing.
use Rattle.std.specs.Prelude.{length, ◌≡◌}
use Rattle.opening.specs.declared.files.OpenFiles.{OpenFiles}

-- what stood in front of the record lines is as it was, and so is the buffer's length
pub record SameFront (before after : OpenFiles) : Type 0 where
  pub front : after.front ≡ before.front
  pub reference : after.reference.now ≡ before.reference.now
  pub symbols : after.symbols.now ≡ before.symbols.now
  pub counts : after.counts ≡ before.counts
  pub unit_path : after.unit_path.now ≡ before.unit_path.now
  pub buf : length after.buf.now ≡ length before.buf.now
