-- Each public promise admits one outcome: two answers that meet it are the same.
-- Assumes nothing.
use mathlib.Core.Path.{◌≡◌, ap, ◌∙◌}
use mathlib.Core.List.{List}
use Prim.Native.Nat.{ℕ}
use denote.Ref.{Bor}
use Rattle.frame.specs.Field.{Field, field_at}
use Rattle.frame.proofs.Unique.{once}
use Rattle.reader.specs.Code.Reading.{width_bytes, at_front, further}
use Rattle.reader.specs.Head.{record_head}
use Rattle.reader.specs.declared.Reader.{Reader}
use Rattle.reader.specs.declared.Width.{Width}
use Rattle.reader.specs.declared.head.Head.{Head}

pub front_once : (frame : Bor (List ℕ)) {x y : Reader} → x ≡ at_front frame → y ≡ at_front frame → x ≡ y
front_once frame p q = once p q

-- the field, and the reader that is lent
pub reader_field_once : (r : Reader) (w : Width) {x y : Field} {after after' : Reader} → x ≡ field_at (width_bytes w) r.0.now r.1 → y ≡ field_at (width_bytes w) r.0.now r.1 → after ≡ further r x → after' ≡ further r y → (x ≡ y) × (after ≡ after')
reader_field_once r w p q f g = (once p q, once (f ∙ ap (further r) (once p q)) g)

-- `head::read`
pub head_once : (frame : List ℕ) {x y : Head} → x ≡ record_head frame → y ≡ record_head frame → x ≡ y
head_once frame p q = once p q
