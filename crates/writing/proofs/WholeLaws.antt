-- The laws of a whole line at the front of what is lent, for any bytes.
-- Assumes nothing.
use mathlib.Core.Path.{◌≡◌, ◌∙◌}
use mathlib.Core.List.{List, ◌∷◌, ◌++◌, append_assoc}
use Prim.Native.Nat.{ℕ, suc, ◌+◌, ◌*◌, ◌<◌, ◌≤◌}
use native.Mathlib.Nat.{zero-add}
use native.Mathlib.Omega.{arith}
use native.Mathlib.Numerals.{add-one}
use borrow.Author.Tests.{lt-ltb, le-ltb, ltb-true}
use lib.Dec.{ltb}
use lib.ListN.{length, drop, set}
use lib.Seq.{drop-cons, set_at}
use Rattle.frame.specs.Hex.{hex_of}
use Rattle.frame.specs.Line.{line_end}
use Rattle.writing.specs.Lay.{lay, Laid}
use Rattle.writing.specs.Whole.{wrote_of, line_into}
use Rattle.std.specs.Prelude.{Ok, Err}
use Rattle.refusal.specs.Answers.{OrRefused}
use Rattle.refusal.specs.declared.Refusal.{Refusal}
use Rattle.refusal.specs.declared.Refusal.TheVariants.{NoRoom}
use Rattle.frame.proofs.HexLaws.{by_test, length_hex_of}
use Rattle.frame.proofs.LineLaws.{line_of_bytes, length_line}
use Rattle.writing.proofs.LayLaws.{lay_eq}

pub no_room_lem : (s bs : List ℕ) → length s ≤ 2 * length bs → (Err NoRoom ≡ wrote_of s bs) × (s ≡ line_into s bs)
unfolding wrote_of line_into
no_room_lem s bs h = let t = le-ltb (2 * length bs) (length s) h in (simp t, simp t)

-- bytes laid from the front, and the 0A behind them: the line, and nothing behind it is touched
pub line_eq : (s bs : List ℕ) → 2 * length bs < length s → set (lay s 0 bs) (2 * length bs) line_end ≡ hex_of bs ++ line_end ∷ drop (suc (2 * length bs)) s
line_eq s bs h =
    rw (lay_eq s 0 bs (omega arith), zero-add, drop-cons s (2 * length bs) 0)
    (set_at (hex_of bs) _ _ line_end (2 * length bs) (length_hex_of bs))

pub room : (s bs : List ℕ) {e : List ℕ} {n : ℕ} → 2 * length bs < length s → Laid s e 0 n bs → (Ok (n + 1) ≡ wrote_of s bs) × (set e n line_end ≡ line_into s bs)
unfolding wrote_of line_into
room s bs {e} {n} h f =
    let t = lt-ltb (2 * length bs) (length s) h in
    let q : n ≡ 2 * length bs = f.to ∙ zero-add (2 * length bs) in
    (simp (t, q), simp (t, q, f.holds) (line_eq s bs h))

-- a line that is written lies in what is lent
pub no_room_is_not : (r : Refusal) (n : ℕ) → ◌≡◌ {A = OrRefused ℕ} (Err r) (Ok n) → ⊥
no_room_is_not r n e = let z : ◌≡◌ {A = ℕ} 0 1 = cc in omega arith

pub wrote_within : (s bs : List ℕ) (n : ℕ) → wrote_of s bs ≡ Ok n → n ≤ length s
unfolding wrote_of
wrote_within s bs n e =
    by_test (ltb (2 * length bs) (length s))
    (λ t. let h = ltb-true (2 * length bs) (length s) t in let q = simp t at e in let w : 2 * length bs + 1 ≡ n = cc in omega arith)
    (λ t. absurd (no_room_is_not NoRoom n (simp t at e)))

-- a line at the front of what is lent, by its own length
pub front_line : (out bs : List ℕ) → hex_of bs ++ line_end ∷ drop (suc (2 * length bs)) out ≡ line_of_bytes bs ++ drop (length (line_of_bytes bs)) out
front_line out bs = rw (length_line bs, add-one, append_assoc)
