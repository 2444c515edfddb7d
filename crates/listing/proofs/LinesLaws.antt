-- The laws of lines: what is kept of whole lines that were stopped anywhere, and that the line of any bytes is a whole line.
-- Assumes nothing.
use Prim.Native.Nat.{ℕ, zero, suc, ◌+◌, ◌/◌, ◌%◌, ◌<◌}
use native.Mathlib.Nat.{le_of_suc-le-suc, not-suc-le-zero, le_of_lt}
use native.Mathlib.Omega.{arith}
use mathlib.Core.Path.{◌≡◌, refl}
use mathlib.Core.Bool.{true}
use mathlib.Core.Logic.{◌⊎◌, inl, inr}
use mathlib.Core.List.{List, [], ◌∷◌, ◌++◌, append_assoc}
use lib.ListN.{length, take, replicate}
use lib.Seq.{take-append-le, take-append-add}
use borrow.Author.Tests.{ne_eqb}
use Rattle.frame.specs.Hex.{glyph, hex_of, unhex}
use Rattle.frame.specs.Line.{line_end, line_within}
use Rattle.std.specs.Prelude.{Ok}
use Rattle.frame.proofs.HexLaws.{glyph_from}
use Rattle.frame.proofs.LineLaws.{line_of_bytes, frame_is_line}
use Rattle.listing.specs.Lines.{push_byte, lines_of, ends, kept_with, kept, WholeLine, end, more}

-- ---- whole lines

-- whatever its bytes are, what is written for them has one 0A, at its end, and no zero byte
pub whole_bytes : (bs : List ℕ) → WholeLine (line_of_bytes bs)
unfolding hex_of
whole_bytes [] = end
whole_bytes (b ∷ bs) = put (b / 16) (put (b % 16) (whole_bytes bs))
  where
    put : (d : ℕ) {l : List ℕ} → WholeLine l → WholeLine (glyph d ∷ l)
    put d h =
        more (ne_eqb (glyph d) 0 (λ e. omega (arith, glyph_from d, e)))
        (ne_eqb (glyph d) 10 (λ e. omega (arith, glyph_from d, e))) h

-- a well-formed line is a whole line
pub whole_frame : (most : ℕ) (l : List ℕ) (n : ℕ) → line_within most l ≡ Ok n → WholeLine l
whole_frame most l n e = rw (frame_is_line most l n e).line (whole_bytes (unhex l))

pub whole_ends : {l : List ℕ} → WholeLine l → ends l ≡ true
unfolding ends
whole_ends end = refl
whole_ends (more a b end) = refl
whole_ends (more a b (more c d h)) = whole_ends (more c d h)

pub whole_long : {l : List ℕ} → WholeLine l → 0 < length l
whole_long end = omega arith
whole_long (more a b h) = omega arith

-- ---- a whole line in front of a file

kept_end : (ys : List ℕ) → kept_with line_end ys ≡ line_end ∷ ys
unfolding kept_with
kept_end [] = refl
kept_end (y ∷ ys) = refl

kept_with_lem : (x : ℕ) {l : List ℕ} → WholeLine l → (r : List ℕ) → kept_with x (l ++ r) ≡ x ∷ (l ++ r)
unfolding kept_with
kept_with_lem x end r = refl
kept_with_lem x (more a b h) r = refl

-- it is kept, and so is what is kept of what stands behind it
pub kept_line : {l : List ℕ} → WholeLine l → (r : List ℕ) → kept (l ++ r) ≡ l ++ kept r
unfolding kept
kept_line end r = kept_end (kept r)
kept_line (more {x} {l} a b h) r = simp (a, kept_line h r, kept_with_lem x h (kept r))

pub lines_line : {l : List ℕ} → WholeLine l → (r : List ℕ) → lines_of (l ++ r) ≡ l ∷ lines_of r
unfolding lines_of push_byte
lines_line end r = refl
lines_line (more {x} {l} a b h) r = simp (b, lines_line h r)

-- ---- a stop

pub kept_zeros : (k : ℕ) → kept (replicate k 0) ≡ []
unfolding kept
kept_zeros zero = refl
kept_zeros (suc k) = refl

-- nothing is kept of a line that is cut
pub kept_part : {l : List ℕ} → WholeLine l → (n k : ℕ) → n < length l → kept (take n l ++ replicate k 0) ≡ []
unfolding kept kept_with
kept_part end zero k lt = kept_zeros k
kept_part end (suc n) k lt = absurd (not-suc-le-zero (le_of_suc-le-suc lt))
kept_part (more a b h) zero k lt = kept_zeros k
kept_part (more {x} {l} a b h) (suc n) k lt = simp (a, kept_part h n k (le_of_suc-le-suc lt), b)

-- a stop falls into the first line, or behind it
split : (l : List ℕ) (n : ℕ) → (n < length l) ⊎ ((j : ℕ) × (n ≡ length l + j))
split [] n = inr (n, omega arith)
split (x ∷ l) zero = inl (omega arith)
split (x ∷ l) (suc n) = further (split l n)
  where
    further : (n < length l) ⊎ ((j : ℕ) × (n ≡ length l + j)) → (suc n < length (x ∷ l)) ⊎ ((j : ℕ) × (suc n ≡ length (x ∷ l) + j))
    further (inl h) = inl (omega arith)
    further (inr h) = inr (h.0, omega (arith, h.1))

-- so what is kept, q, is nothing, or the line and what is kept of the rest
pub data Cut (l r : List ℕ) (k : ℕ) (q : List ℕ) : Type 0 where
  inside : q ≡ [] → Cut l r k q
  beyond : (j : ℕ) → q ≡ l ++ kept (take j r ++ replicate k 0) → Cut l r k q

pub kept_cut : {l : List ℕ} → WholeLine l → (r : List ℕ) (n k : ℕ) → Cut l r k (kept (take n (l ++ r) ++ replicate k 0))
kept_cut {l} h r n k = by (split l n)
  where
    by : (n < length l) ⊎ ((j : ℕ) × (n ≡ length l + j)) → Cut l r k (kept (take n (l ++ r) ++ replicate k 0))
    by (inl lt) = inside (rw (take-append-le n l r (le_of_lt lt)) (kept_part h n k lt))
    by (inr e) = beyond e.0 (rw (e.1, take-append-add l r e.0, append_assoc) (kept_line h (take e.0 r ++ replicate k 0)))
