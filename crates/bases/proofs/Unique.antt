-- Each public promise admits one outcome: two answers that meet it are the same. The writers promise `Laid`: `laid_once` of writing.
-- Assumes nothing.
use mathlib.Core.Path.{◌≡◌}
use mathlib.Core.List.{List}
use Prim.Native.Nat.{ℕ}
use Rattle.std.specs.Prelude.{⊤}
use Rattle.refusal.specs.Answers.{OrRefused}
use Rattle.frame.proofs.Unique.{once}
use Rattle.bases.specs.Reference.{match_refusal}
use Rattle.edits.specs.Edits.{edit_list_at}
use Rattle.bases.specs.Bases.{pointers, refusal_from, reference_refusal}

pub check_positions_once : (alphabet : ℕ) (reference : List ℕ) (first position n : ℕ) {x y : OrRefused ⊤}
    → x ≡ match_refusal alphabet reference first position n → y ≡ match_refusal alphabet reference first position n → x ≡ y
check_positions_once alphabet reference first position n p q = once p q

pub check_reference_once : (class alphabet : ℕ) (frame reference : List ℕ) (first position mapped count place : ℕ) {x y : OrRefused ⊤}
    → x ≡ reference_refusal class alphabet frame reference first position mapped count place → y ≡ reference_refusal class alphabet frame reference first position mapped count place → x ≡ y
check_reference_once class alphabet frame reference first position mapped count place p q = once p q

pub under_piece_once : (class alphabet : ℕ) (frame reference : List ℕ) (first position start mapped count place : ℕ) {x y : OrRefused ⊤}
    → x ≡ refusal_from alphabet reference first mapped (pointers position start) (edit_list_at class alphabet frame count place)
    → y ≡ refusal_from alphabet reference first mapped (pointers position start) (edit_list_at class alphabet frame count place) → x ≡ y
under_piece_once class alphabet frame reference first position start mapped count place p q = once p q
