-- The first fields of a record line (document 01, Lines): kind u8, pos u32.
-- Assumes nothing.
use Rattle.std.specs.Prelude.{List, ℕ}
use Rattle.frame.specs.Field.{field_at}
use Rattle.reader.specs.declared.head.Head.{Head}

-- kind, and the pos behind it; each field by itself, so that a short frame still shows its kind
unfoldable pub record_head : List ℕ → Head
record_head bytes = record { kind = field_at 1 bytes 0; pos = field_at 4 bytes 1 }
