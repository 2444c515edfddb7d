-- A record's head, read field by field: pos stands where kind ends.
-- Assumes nothing.
use mathlib.Core.Path.{◌≡◌, sym, ap, ◌∙◌}
use mathlib.Core.List.{List}
use Prim.Native.Nat.{ℕ}
use native.Mathlib.Omega.{arith}
use borrow.Author.Tests.{lt-leb, leb-false}
use lib.Dec.{leb}
use lib.ListN.{length}
use denote.Ref.{Bor}
use Rattle.frame.specs.Field.{Field, field_at}
use Rattle.frame.specs.declared.field.Cursor.{Cursor}
use Rattle.std.specs.Prelude.{Ok}
use Rattle.frame.proofs.HexLaws.{by_test}
use Rattle.reader.specs.Code.Reading.{behind, at_front, further}
use Rattle.reader.specs.Head.{record_head}
use Rattle.reader.specs.declared.Reader.{Reader}
use Rattle.reader.specs.declared.head.Head.{Head}

-- a frame without a kind has no pos at either place
pub pos_behind : (s : List ℕ) → field_at 4 s (behind (field_at 1 s 0) 0) ≡ field_at 4 s 1
unfolding field_at
pos_behind s =
    by_test (leb 1 (length s)) (λ t. simp t)
    (λ t. simp (t, lt-leb 4 (length s) (omega (arith, leb-false 1 (length s) t)), lt-leb 5 (length s) (omega (arith, leb-false 1 (length s) t))))

-- the two fields, for whoever takes kind apart first
pub head_kind : {h : Head} (s : List ℕ) → h ≡ record_head s → h.kind ≡ field_at 1 s 0
unfolding record_head
head_kind s e = ap (λ (x : Head). x.kind) e

pub head_pos : {h : Head} (s : List ℕ) (v : ℕ) (c : Cursor) → h ≡ record_head s → h.kind ≡ Ok (v, c) → h.pos ≡ field_at 4 s c.at
unfolding record_head
head_pos s v c e k = ap (λ (x : Head). x.pos) e ∙ sym (pos_behind s) ∙ ap (λ (f : Field). field_at 4 s (behind f 0)) (sym (head_kind s e) ∙ k)

-- two fields read one after the other from the front
pub head_read : (frame : Bor (List ℕ)) {r r' : Reader} {kind pos : Field} → r ≡ at_front frame → kind ≡ field_at 1 r.0.now r.1 → r' ≡ further r kind → pos ≡ field_at 4 r'.0.now r'.1 → record { kind = kind; pos = pos } ≡ record_head frame.now
unfolding record_head
head_read frame start kind_is moved pos_is =
    rw (pos_is, moved, kind_is, start, pos_behind frame.now)
