-- The laws of the own walks of N and M, where every edit is a substitution: no run is ever open, so that the walk is an offset and the tally a length.
-- Assumes nothing.
use mathlib.Core.Path.{◌≡◌, refl, sym, ap, ◌∙◌}
use mathlib.Core.Bool.{true}
use mathlib.Core.List.{List, [], ◌∷◌, ◌++◌}
use Prim.Native.Nat.{ℕ, ◌+◌, ◌-◌, ◌*◌, ◌<◌, ◌≤◌}
use native.Mathlib.Omega.{arith}
use lib.ListN.{length}
use Rattle.std.specs.Prelude.{Ok}
use Rattle.refusal.specs.Answers.{OrRefused, no_refusal}
use Rattle.writing.specs.Lay.{Laid}
use Rattle.writing.proofs.LayLaws.{laid_as}
use Rattle.alphabet.specs.Table35.{size_of, letter_of}
use Rattle.edits.specs.Edits.{substitution, width_of, edit_at, edit_list_at, next_offset, edit_refusal}
use Rattle.edits.specs.Code.Runs.{substitutes_only}
use Rattle.edits.specs.declared.edit.Edit.{Edit}
use Rattle.edits.proofs.EditLaws.{edit_accepted, next_other, substitution_kind}
use Rattle.ecigar.specs.declared.walk.Walk.{Walk}
use Rattle.ecigar.specs.declared.check.Tally.{Tally}
use Rattle.ecigar.specs.declared.check.Extent.{Extent}
use Rattle.ecigar.specs.Table90.{print_all}
use Rattle.ecigar.specs.Ecigar.{set_out, past, matches, open_run, gap, mark, ending, operations_from, ecigar_of}
use Rattle.ecigar.specs.Check.{extent, complete}
use Rattle.ecigar.specs.Code.Tally.{start_tally_at, text_by, tallied, after_last}
use Rattle.ecigar.proofs.PrintLaws.{printed_append}
use Rattle.ecigar.proofs.WalkLaws.{closed_none, gap_apart, apart_letter, mark_letter, ending_both, past_next, past_kind, matches_most}
use Rattle.ecigar.proofs.CheckLaws.{checked_from, check_on, check_end}
use Rattle.ecigar.proofs.TextLaws.{Writing, ecigar_end, writing_order, writing_room, writing_on}

-- ---- a substitution behind a substitution, and behind the last the match

closed_letter : (w : Walk) → w.kind ≡ substitution → print_all (open_run w) ≡ []
closed_letter w h = closed_none w (λ k. omega arith) (λ k. omega arith)

gap_letter : (w : Walk) (e : Edit) → w.kind ≡ substitution → e.kind ≡ substitution → print_all (gap w e) ≡ print_all (matches (e.offset - w.next))
gap_letter w e h k = gap_apart w e (apart_letter w e k) ∙ rw (closed_letter w h)

letter_text : (alphabet : ℕ) (w : Walk) (e : Edit) → w.kind ≡ substitution → e.kind ≡ substitution
    → print_all (gap w e ++ mark alphabet e) ≡ print_all (matches (e.offset - w.next)) ++ letter_of alphabet e.symbol ∷ []
letter_text alphabet w e h k = printed_append (gap w e) (mark alphabet e) ∙ rw (gap_letter w e h k, mark_letter alphabet e k)

ending_letter : (mapped : ℕ) (w : Walk) → w.kind ≡ substitution → print_all (ending mapped w) ≡ print_all (matches (mapped - w.next))
ending_letter mapped w h = ending_both mapped w ∙ rw (closed_letter w h)

is_letter : (class alphabet : ℕ) (frame : List ℕ) (at : ℕ) {e : Edit} → substitutes_only class ≡ true → e ≡ edit_at class alphabet frame at → e.kind ≡ substitution
is_letter class alphabet frame at only it = ap (λ (x : Edit). x.kind) it ∙ substitution_kind class alphabet frame at only

next_letter : (e : Edit) → e.kind ≡ substitution → next_offset e ≡ e.offset + 1
next_letter e k = next_other e (λ h. omega arith)

-- ---- the check

-- what holds before each turn, when k edits are left: there is a tally of the walk that has come so far
pub record SubstitutionsChecked (class alphabet : ℕ) (frame : List ℕ) (mapped k at next text : ℕ) (whole : OrRefused Extent) : Type 0 where
  pub tally : Tally
  pub plain : tally.walk.kind ≡ substitution
  pub there : tally.walk.next ≡ next
  pub taken : tally.taken ≡ next
  pub written : tally.text ≡ text
  pub inside : next ≤ mapped
  pub short : text ≤ 2 * next
  pub rest : checked_from class alphabet frame mapped k at tally ≡ whole

pub substitutions_start : (class alphabet : ℕ) (frame : List ℕ) (mapped k at : ℕ) {whole : OrRefused Extent} → checked_from class alphabet frame mapped k at (start_tally_at 0) ≡ whole
    → SubstitutionsChecked class alphabet frame mapped k at 0 0 whole
substitutions_start class alphabet frame mapped k at q =
    record { tally = start_tally_at 0; plain = refl; there = refl; taken = refl; written = refl; inside = omega arith; short = omega arith; rest = q }

module _ (class alphabet : ℕ) (frame : List ℕ) (mapped k at step symbols : ℕ) (wide : step ≡ width_of class) (size : symbols ≡ size_of alphabet) (more : 0 < k)
    (only : substitutes_only class ≡ true) (e : Edit) (it : e ≡ edit_at class alphabet frame at) (room : no_refusal ≡ complete frame at step) where
  pub substitutions_on : (m : ℕ) {next text : ℕ} {whole : OrRefused Extent} → SubstitutionsChecked class alphabet frame mapped k at next text whole → edit_refusal mapped symbols next e ≡ no_refusal
      → m ≡ length (print_all (matches (e.offset - next))) → SubstitutionsChecked class alphabet frame mapped (k - 1) (at + step) (e.offset + 1) (text + m + 1) whole
  unfolding tallied text_by past
  substitutions_on m {next} {text} g z q =
      let t = g.tally in
      let kind = is_letter class alphabet frame at only it in
      let a = edit_accepted mapped symbols next e z in
      let behind = next_letter e kind in
      let added : length (print_all (gap t.walk e)) ≡ m = rw (gap_letter t.walk e g.plain kind, g.there) (sym q) in
      record {
        tally = tallied t e;
        plain = kind;
        there = behind;
        taken = rw kind (omega (arith, a.order, g.there, g.taken));
        written = rw (added, kind, g.written) (omega arith);
        inside = omega (arith, a.inside);
        short = omega (arith, a.order, g.short, matches_most (e.offset - next));
        rest = sym (check_on class alphabet frame mapped k at step symbols t wide size more e it room (tallied t e) (rw g.there z) refl) ∙ g.rest;
      }

pub substitutions_end : (class alphabet : ℕ) (frame : List ℕ) (mapped k at : ℕ) (m : ℕ) {next text : ℕ} {whole : OrRefused Extent} → SubstitutionsChecked class alphabet frame mapped k at next text whole
    → k ≤ 0 → m ≡ length (print_all (matches (mapped - next))) → Ok (extent mapped (text + m)) ≡ whole
unfolding after_last
substitutions_end class alphabet frame mapped k at m {next} {text} g h q =
    let t = g.tally in
    let all : mapped ≡ t.taken + (mapped - t.walk.next) = omega (arith, g.there, g.taken, g.inside) in
    let last : text + m ≡ t.text + length (print_all (ending mapped t.walk)) = rw (ending_letter mapped t.walk g.plain, g.there, ← q, g.written) in
    ap (λ (x : ℕ). Ok (extent x (text + m))) all ∙ ap (λ (x : ℕ). Ok (extent (t.taken + (mapped - t.walk.next)) x)) last ∙ sym (check_end class alphabet frame mapped k at t h) ∙ g.rest

-- ---- the text

-- what holds before each turn, when k edits are left: there is a walk that has come so far
pub record SubstitutionsWriting (class alphabet : ℕ) (frame : List ℕ) (mapped k at next : ℕ) (l : List ℕ) (p : ℕ) (l₀ : List ℕ) (p₀ : ℕ) (whole : List ℕ) : Type 0 where
  pub walk : Walk
  pub plain : walk.kind ≡ substitution
  pub there : walk.next ≡ next
  pub writing : Writing class alphabet frame mapped k at walk l p l₀ p₀ whole

-- a run with no edits is one match
pub run_matched : (class alphabet : ℕ) (frame : List ℕ) (mapped k at : ℕ) → k ≡ 0 → ecigar_of alphabet mapped (edit_list_at class alphabet frame k at) ≡ print_all (matches mapped)
unfolding ecigar_of
run_matched class alphabet frame mapped k at z =
    let all : mapped - 0 ≡ mapped = omega arith in ecigar_end class alphabet frame mapped k at set_out (omega arith) ∙ ending_letter mapped set_out refl ∙ rw all

-- behind the last edit only a match is left
pub substitutions_last : (class alphabet : ℕ) (frame : List ℕ) (mapped k at : ℕ) {next p p₀ : ℕ} {l l₀ whole : List ℕ} (g : SubstitutionsWriting class alphabet frame mapped k at next l p l₀ p₀ whole)
    → k ≤ 0 → print_all (operations_from alphabet mapped g.walk (edit_list_at class alphabet frame k at)) ≡ print_all (matches (mapped - next))
substitutions_last class alphabet frame mapped k at g h = ecigar_end class alphabet frame mapped k at g.walk h ∙ ending_letter mapped g.walk g.plain ∙ rw g.there

module _ (class alphabet : ℕ) (frame : List ℕ) (mapped k at step : ℕ) (e : Edit) (wide : step ≡ width_of class) (it : e ≡ edit_at class alphabet frame at) (more : 0 < k)
    (only : substitutes_only class ≡ true) where
  module _ {l l₀ whole : List ℕ} {p p₀ next : ℕ} (g : SubstitutionsWriting class alphabet frame mapped k at next l p l₀ p₀ whole) where
    letter : e.kind ≡ substitution
    letter = is_letter class alphabet frame at only it

    text_here : print_all (gap g.walk e ++ mark alphabet e) ≡ print_all (matches (e.offset - next)) ++ letter_of alphabet e.symbol ∷ []
    text_here = letter_text alphabet g.walk e g.plain letter ∙ rw g.there

    pub substitution_order : next ≤ e.offset
    substitution_order = omega (arith, g.there, writing_order class alphabet frame mapped k at step e wide it more g.writing)

    pub substitution_room : p₀ + 2 * length whole ≤ length l₀ → p + 2 * length (print_all (matches (e.offset - next)) ++ letter_of alphabet e.symbol ∷ []) ≤ length l
    substitution_room b = rw text_here at (writing_room class alphabet frame mapped k at step e wide it more g.writing b)

    pub substitution_laid : {m : List ℕ} {q : ℕ} → Laid l m p q (print_all (matches (e.offset - next)) ++ letter_of alphabet e.symbol ∷ [])
        → SubstitutionsWriting class alphabet frame mapped (k - 1) (at + step) (e.offset + 1) m q l₀ p₀ whole
    substitution_laid f =
        record {
          walk = past g.walk e;
          plain = past_kind g.walk e refl ∙ letter;
          there = past_next g.walk e refl ∙ next_letter e letter;
          writing = writing_on class alphabet frame mapped k at step e wide it more g.writing refl (laid_as (sym text_here) f);
        }
