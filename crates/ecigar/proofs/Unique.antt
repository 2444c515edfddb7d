-- Each public promise admits one outcome: two answers that meet it are the same. `write`, `write_piece`, `put_clip` and `put_splice` promise `Laid`: `laid_once` of writing.
-- Assumes nothing.
use mathlib.Core.Path.{◌≡◌}
use mathlib.Core.List.{List}
use Prim.Native.Nat.{ℕ}
use Rattle.refusal.specs.Answers.{OrRefused}
use Rattle.frame.proofs.Unique.{once}
use Rattle.edits.specs.declared.Clips.{Clips}
use Rattle.ecigar.specs.Check.{check_of, check_piece}
use Rattle.ecigar.specs.Ecigar.{clips_length}
use Rattle.ecigar.specs.Spliced.{splice_length}
use Rattle.ecigar.specs.declared.check.Extent.{Extent}

pub check_once : (class alphabet : ℕ) (frame : List ℕ) (at count mapped : ℕ) {x y : OrRefused Extent}
    → x ≡ check_of class alphabet frame at count mapped → y ≡ check_of class alphabet frame at count mapped → x ≡ y
check_once class alphabet frame at count mapped p q = once p q

pub check_piece_once : (class alphabet : ℕ) (frame : List ℕ) (from at count until : ℕ) {x y : OrRefused Extent}
    → x ≡ check_piece class alphabet frame from at count until → y ≡ check_piece class alphabet frame from at count until → x ≡ y
check_piece_once class alphabet frame from at count until p q = once p q

pub clips_len_once : (c : Clips) {x y : ℕ} → x ≡ clips_length c → y ≡ clips_length c → x ≡ y
clips_len_once c p q = once p q

pub splice_len_once : (n : ℕ) {x y : ℕ} → x ≡ splice_length n → y ≡ splice_length n → x ≡ y
splice_len_once n p q = once p q
