-- The laws of the refusals of the reference under a segment: nothing, or one of the table but 17.
-- Assumes nothing.
use mathlib.Core.List.{List, [], ◌∷◌}
use Prim.Native.Nat.{ℕ, zero, suc, ◌+◌, ◌-◌}
use lib.Dec.{leb}
use Rattle.refusal.specs.declared.Refusal.TheVariants.{SymbolOut}
use Rattle.refusal.proofs.RefusalLaws.{EarlyAnswer, early, checked_early}
use Rattle.frame.proofs.Tests.{one_of}
use Rattle.alphabet.specs.Table35.{size_of}
use Rattle.edits.specs.declared.edit.Edit.{Edit}
use Rattle.bases.specs.Reference.{is_lent, lent_symbol, base_refusal, match_refusal}
use Rattle.bases.specs.Bases.{R, r, past_edit, refusal_from}
use Rattle.bases.specs.declared.places.Places.{Places}

base_early : (alphabet : ℕ) (reference : List ℕ) (first position : ℕ) → EarlyAnswer (base_refusal alphabet reference first position)
unfolding base_refusal
base_early alphabet reference first position =
    one_of EarlyAnswer (is_lent reference first position) _ _ (one_of EarlyAnswer (leb (size_of alphabet) (lent_symbol reference first position)) _ _ (early SymbolOut tt) tt) tt

match_early : (alphabet : ℕ) (reference : List ℕ) (first position n : ℕ) → EarlyAnswer (match_refusal alphabet reference first position n)
unfolding match_refusal
match_early alphabet reference first position zero = tt
match_early alphabet reference first position (suc n) =
    checked_early _ _ (base_early alphabet reference first position) (match_early alphabet reference first (position + 1) n)

pub under_early : (alphabet : ℕ) (reference : List ℕ) (first mapped : ℕ) (p : Places) (es : List Edit) → EarlyAnswer (refusal_from alphabet reference first mapped p es)
unfolding refusal_from
under_early alphabet reference first mapped p [] = match_early alphabet reference first (R p) (mapped - r p)
under_early alphabet reference first mapped p (e ∷ es) =
    checked_early _ _ (match_early alphabet reference first (R p) (e.offset - r p)) (under_early alphabet reference first mapped (past_edit e p) es)
