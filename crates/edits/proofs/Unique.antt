-- Each public promise admits one outcome: two answers that meet it are the same.
-- Assumes nothing.
use mathlib.Core.Path.{◌≡◌}
use mathlib.Core.Bool.{Bool}
use mathlib.Core.List.{List}
use Prim.Native.Nat.{ℕ}
use Rattle.std.specs.Prelude.{⊤}
use Rattle.refusal.specs.Answers.{OrRefused}
use Rattle.frame.proofs.Unique.{once}
use Rattle.edits.specs.Lengths.{no_clips, soft_bases}
use Rattle.edits.specs.Code.Flank.{flank_past, flank_end}
use Rattle.edits.specs.Code.Runs.{run_of, substitutes_only}
use Rattle.edits.specs.Edits.{width_of, edit_at, next_offset, edit_refusal}
use Rattle.edits.specs.declared.Clips.{Clips}
use Rattle.edits.specs.declared.Block.{Block}
use Rattle.edits.specs.declared.Run.{Run}
use Rattle.edits.specs.declared.edit.Edit.{Edit}
use Rattle.edits.specs.declared.flank.Flank.{Flank}

pub none_once : {x y : Clips} → x ≡ no_clips → y ≡ no_clips → x ≡ y
none_once p q = once p q

pub soft_once : (c : Clips) {x y : ℕ} → x ≡ soft_bases c → y ≡ soft_bases c → x ≡ y
soft_once c p q = once p q

pub run_of_once : (s : Block) {x y : Run} → x ≡ run_of s → y ≡ run_of s → x ≡ y
run_of_once s p q = once p q

pub width_once : (class : ℕ) {x y : ℕ} → x ≡ width_of class → y ≡ width_of class → x ≡ y
width_once class p q = once p q

pub substitutes_once : (class : ℕ) {x y : Bool} → x ≡ substitutes_only class → y ≡ substitutes_only class → x ≡ y
substitutes_once class p q = once p q

pub edit_at_once : (class alphabet : ℕ) (frame : List ℕ) (at : ℕ) {x y : Edit} → x ≡ edit_at class alphabet frame at → y ≡ edit_at class alphabet frame at → x ≡ y
edit_at_once class alphabet frame at p q = once p q

pub next_offset_once : (e : Edit) {x y : ℕ} → x ≡ next_offset e → y ≡ next_offset e → x ≡ y
next_offset_once e p q = once p q

pub edit_refusal_once : (mapped symbols next : ℕ) (e : Edit) {x y : OrRefused ⊤} → x ≡ edit_refusal mapped symbols next e → y ≡ edit_refusal mapped symbols next e → x ≡ y
edit_refusal_once mapped symbols next e p q = once p q

pub past_once : (f : Flank) (next : ℕ) (e : Edit) {x y : Flank} → x ≡ flank_past f next e → y ≡ flank_past f next e → x ≡ y
past_once f next e p q = once p q

pub flank_refusal_once : (f : Flank) (next mapped : ℕ) {x y : OrRefused ⊤} → x ≡ flank_end f next mapped → y ≡ flank_end f next mapped → x ≡ y
flank_refusal_once f next mapped p q = once p q
