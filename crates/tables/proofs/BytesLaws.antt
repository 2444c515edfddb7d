-- The laws of an E-CIGAR's bytes: digits, letters and signs are below 256, whatever the segment is.
-- Assumes nothing.
use mathlib.Core.Bool.{not}
use mathlib.Core.List.{List, [], ◌∷◌, ◌++◌}
use Prim.Native.Nat.{ℕ, suc, ◌-◌, ◌<◌}
use lib.Dec.{eqb, lit<}
use Rattle.frame.specs.Hex.{Bytes}
use Rattle.frame.proofs.HexLaws.{bytes_one, bytes_append}
use Rattle.frame.proofs.Tests.{one_of}
use Rattle.writing.specs.Decimal.{decimal_f, decimal}
use Rattle.writing.proofs.DecimalLaws.{bytes_digits}
use Rattle.alphabet.specs.Table35.{letter_of}
use Rattle.alphabet.proofs.AlphabetLaws.{letter_byte}
use Rattle.edits.specs.Edits.{substitution, insertion, deletion}
use Rattle.edits.specs.declared.edit.Edit.{Edit}
use Rattle.ecigar.specs.Table90.{Operation, matched, substituted, inserted, deleted, soft_clipped, hard_clipped, counted, print, print_all}
use Rattle.ecigar.specs.Ecigar.{joins_run, past, matches, open_run, gap, mark, ending, operations_from, clip}
use Rattle.ecigar.specs.declared.walk.Walk.{Walk}
use Rattle.ecigar.proofs.PrintLaws.{printed_append, printed_one}

-- ---- operations, as they are printed

pub bytes_counted : (n sign : ℕ) → sign < 256 → Bytes (counted n sign)
unfolding decimal
bytes_counted n sign h = bytes_append (decimal_f (suc n) n) (sign ∷ []) (bytes_digits (suc n) n) (bytes_one sign h)

-- what is printed of operations is bytes
abbrev pub Prints : List Operation → Type 0
Prints os = Bytes (print_all os)

pub no_prints : Prints []
unfolding print_all Bytes
no_prints = tt

pub one_prints : (o : Operation) → Bytes (print o) → Prints (o ∷ [])
one_prints o h = rw (printed_one o) h

pub both_print : (os ps : List Operation) → Prints os → Prints ps → Prints (os ++ ps)
both_print os ps h k = rw (printed_append os ps) (bytes_append (print_all os) (print_all ps) h k)

bytes_bracketed : (left n right : ℕ) → left < 256 → right < 256 → Bytes (left ∷ counted n right)
bytes_bracketed left n right h k = bytes_append (left ∷ []) (counted n right) (bytes_one left h) (bytes_counted n right k)

matches_print : (n : ℕ) → Prints (matches n)
unfolding matches
matches_print n = one_of Prints (eqb n 0) _ _ no_prints (one_prints (matched n) (bytes_counted n _ (lit< tt)))

closed_prints : (w : Walk) → Prints (open_run w)
unfolding open_run
closed_prints w =
    one_of Prints (eqb w.kind insertion) _ _ (one_prints (inserted w.run) (bytes_counted _ _ (lit< tt)))
    (one_of Prints (eqb w.kind deletion) _ _ (one_prints (deleted w.run) (bytes_counted _ _ (lit< tt))) no_prints)

gap_prints : (w : Walk) (e : Edit) → Prints (gap w e)
unfolding gap
gap_prints w e = one_of Prints (joins_run w e) _ _ no_prints (both_print (open_run w) _ (closed_prints w) (matches_print (e.offset - w.next)))

mark_prints : (alphabet : ℕ) (e : Edit) → Prints (mark alphabet e)
unfolding mark
mark_prints alphabet e =
    one_of Prints (eqb e.kind substitution) _ _ (one_prints (substituted (letter_of alphabet e.symbol)) (bytes_one _ (letter_byte alphabet e.symbol))) no_prints

pub operations_print : (alphabet mapped : ℕ) (w : Walk) (es : List Edit) → Prints (operations_from alphabet mapped w es)
unfolding operations_from ending
operations_print alphabet mapped w [] = both_print (open_run w) _ (closed_prints w) (matches_print (mapped - w.next))
operations_print alphabet mapped w (e ∷ es) =
    both_print (gap w e ++ mark alphabet e) _ (both_print (gap w e) _ (gap_prints w e) (mark_prints alphabet e)) (operations_print alphabet mapped (past w e) es)

pub clip_prints : (soft hard : ℕ) → Prints (clip soft hard)
unfolding clip
clip_prints soft hard =
    one_of Prints (not (eqb soft 0)) _ _ (one_prints (soft_clipped soft) (bytes_bracketed _ soft _ (lit< tt) (lit< tt)))
    (one_of Prints (not (eqb hard 0)) _ _ (one_prints (hard_clipped hard) (bytes_bracketed _ hard _ (lit< tt) (lit< tt))) no_prints)
