-- The laws of an edit's refusal: nothing, or one of the table but 17.
-- Assumes nothing.
use Prim.Native.Nat.{ℕ}
use lib.Dec.{ltb, leb, eqb}
use Rattle.refusal.specs.declared.Refusal.TheVariants.{SymbolOut, FieldOut, OffsetOut}
use Rattle.refusal.proofs.RefusalLaws.{EarlyAnswer, early}
use Rattle.frame.proofs.Tests.{one_of}
use Rattle.edits.specs.Edits.{deletion, no_symbol, deletion_refusal, edit_refusal}
use Rattle.edits.specs.declared.edit.Edit.{Edit}

pub deletion_early : (mapped next symbol offset : ℕ) → EarlyAnswer (deletion_refusal mapped next symbol offset)
unfolding deletion_refusal
deletion_early mapped next symbol offset =
    one_of EarlyAnswer (eqb symbol no_symbol) _ _
    (one_of EarlyAnswer (ltb offset next) _ _ (early OffsetOut tt) (one_of EarlyAnswer (ltb mapped offset) _ _ (early OffsetOut tt) tt))
    (early FieldOut tt)

pub edit_early : (mapped symbols next : ℕ) (e : Edit) → EarlyAnswer (edit_refusal mapped symbols next e)
unfolding edit_refusal
edit_early mapped symbols next e =
    one_of EarlyAnswer (ltb deletion e.kind) _ _ (early FieldOut tt)
    (one_of EarlyAnswer (eqb e.kind deletion) _ _ (deletion_early mapped next e.symbol e.offset)
    (one_of EarlyAnswer (leb symbols e.symbol) _ _ (early SymbolOut tt)
    (one_of EarlyAnswer (ltb e.offset next) _ _ (early OffsetOut tt)
    (one_of EarlyAnswer (leb mapped e.offset) _ _ (early OffsetOut tt) tt))))
