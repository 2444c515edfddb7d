-- The edits of an aligned block (document 01, Lines and Building a read): what one is in each class, and refusals 11, 10 and 12.
-- Assumes nothing.
use Rattle.std.specs.Prelude.{ℕ, zero, suc, ◌+◌, ◌-◌, ◌≡◌, cond, List, [], ◌∷◌, ltb, leb, eqb, get_or, ⊤, Err}
use Rattle.refusal.specs.Answers.{OrRefused, no_refusal}
use Rattle.refusal.specs.declared.Refusal.TheVariants.{SymbolOut, FieldOut, OffsetOut}
use Rattle.limits.specs.Limits.{edit_bytes}
use Rattle.frame.specs.Field.{big_at}
use Rattle.frame.specs.Steps.{unless}
use Rattle.unit.specs.Unit.{class_n, class_m}
use Rattle.alphabet.specs.Table35.{code_of_n}
use Rattle.edits.specs.declared.edit.Edit.{Edit}
use Rattle.edits.specs.declared.Block.{Block}

-- mmTypes[i] of Table 93
abbrev pub substitution : ℕ
substitution = 0

abbrev pub insertion : ℕ
insertion = 1

abbrev pub deletion : ℕ
deletion = 2

-- the symbol that a deletion carries
abbrev pub no_symbol : ℕ
no_symbol = 0

-- an edit's bytes: an offset; in M also a symbol; in I and HM a type and a symbol
unfoldable pub width_of : (class : ℕ) → ℕ
width_of class = cond (eqb class class_n) 2 (cond (eqb class class_m) 3 edit_bytes)

-- the offset u16 at a place of the frame
abbrev pub offset_at : (frame : List ℕ) (at : ℕ) → ℕ
offset_at frame at = big_at 2 frame at

abbrev pub edit : (offset kind symbol : ℕ) → Edit
edit offset kind symbol = record { offset = offset; kind = kind; symbol = symbol }

-- the edit at a place of the frame. In N and M every edit is a substitution, in N by the letter N
unfoldable pub edit_at : (class alphabet : ℕ) (frame : List ℕ) (at : ℕ) → Edit
edit_at class alphabet frame at =
    cond (eqb class class_n) (edit (offset_at frame at) substitution (code_of_n alphabet))
    (cond (eqb class class_m) (edit (offset_at frame at) substitution (get_or frame (at + 2) 0))
    (edit (offset_at frame at) (get_or frame (at + 2) 0) (get_or frame (at + 3) 0)))

-- so many edits, one behind the other
unfoldable pub edit_list_at : (class alphabet : ℕ) (frame : List ℕ) (k at : ℕ) → List Edit
edit_list_at class alphabet frame zero at = []
edit_list_at class alphabet frame (suc k) at = edit_at class alphabet frame at ∷ edit_list_at class alphabet frame k (at + width_of class)

-- after a substitution or insertion at o the next offset is at least o + 1, after a deletion at least o
unfoldable pub next_offset : Edit → ℕ
next_offset e = cond (eqb e.kind deletion) e.offset (e.offset + 1)

-- a deletion brings no symbol, and its offset is at most the mapped length, as far as this edit alone goes (of all together: Flanks, `flank_refusal`)
unfoldable pub deletion_refusal : (mapped next symbol offset : ℕ) → OrRefused ⊤
deletion_refusal mapped next symbol offset =
    unless (eqb symbol no_symbol) (Err FieldOut)
    (cond (ltb offset next) (Err OffsetOut)
    (cond (ltb mapped offset) (Err OffsetOut) no_refusal))

-- in a complete edit type, symbol, offset: `next` is the least offset that may stand here, `size` the alphabet's
unfoldable pub edit_refusal : (mapped size next : ℕ) → Edit → OrRefused ⊤
edit_refusal mapped size next e =
    cond (ltb deletion e.kind) (Err FieldOut)
    (cond (eqb e.kind deletion) (deletion_refusal mapped next e.symbol e.offset)
    (cond (leb size e.symbol) (Err SymbolOut)
    (cond (ltb e.offset next) (Err OffsetOut)
    (cond (leb mapped e.offset) (Err OffsetOut) no_refusal))))

-- each of these edits is accepted where it stands
unfoldable pub Sound : (mapped size next : ℕ) → List Edit → Type 0
Sound mapped size next [] = Unit
Sound mapped size next (e ∷ es) = (edit_refusal mapped size next e ≡ no_refusal) × Sound mapped size (next_offset e) es

-- the reference positions that an edit takes with the match before it: an insertion takes none of its own (10.6.1, pointer R)
abbrev pub taken_by : (next : ℕ) → Edit → ℕ
taken_by next e = (e.offset - next) + cond (eqb e.kind insertion) 0 1

-- the reference positions that the edits take from `next` on, with the match behind the last
unfoldable pub taken_from : (mapped next : ℕ) → List Edit → ℕ
taken_from mapped next [] = mapped - next
taken_from mapped next (e ∷ es) = taken_by next e + taken_from mapped (next_offset e) es

-- the edits of a segment, where its block says
abbrev pub block_edits : (class alphabet : ℕ) (frame : List ℕ) → Block → List Edit
block_edits class alphabet frame s = edit_list_at class alphabet frame s.edits s.edits_at
