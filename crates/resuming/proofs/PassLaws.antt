-- The laws of passing over lines: it is to count their 0A, in pieces of any size.
-- Assumes nothing.
use Prim.Native.Nat.{ℕ, zero, suc, ◌+◌, ◌-◌, ◌≤◌, ◌<◌}
use native.Mathlib.Nat.{add-zero, add_assoc}
use native.Mathlib.Numerals.{add-one, one-add}
use native.Mathlib.Omega.{arith}
use mathlib.Core.Path.{◌≡◌, refl, sym, ap, ◌∙◌}
use mathlib.Core.Bool.{Bool, true, false, cond}
use mathlib.Core.List.{List, [], ◌∷◌, ◌++◌}
use lib.Dec.{eqb, eqb-suc-zero}
use lib.ListN.{length, get_or, drop, drop_of_length-le}
use lib.Seq.{drop-cons}
use borrow.Author.Tests.{ne_eqb}
use Rattle.frame.specs.Line.{line_end}
use Rattle.frame.proofs.HexLaws.{by_test}
use Rattle.listing.specs.Lines.{push_byte, lines_of, ends}
use Rattle.listing.specs.Resuming.{skip}
use Rattle.resuming.specs.Pass.{passed, lines_in, shifted, pass_over}
use Rattle.resuming.specs.declared.pass.Passed.{Passed}

-- ---- to pass over lines is to count their 0A

-- a byte in front of a line changes nothing of whether it ends
skip_push : (j x : ℕ) (ls : List (List ℕ)) → eqb x line_end ≡ false → skip (suc j) (push_byte x ls) ≡ skip (suc j) ls
unfolding skip push_byte ends
skip_push j x [] e = simp e
skip_push j x ([] ∷ ls) e = simp e
skip_push j x ((y ∷ l) ∷ ls) e = refl

pub skip_passed : (j : ℕ) (f : List ℕ) → skip j (lines_of f) ≡ lines_in (passed j f)
unfolding skip passed lines_of ends
skip_passed zero f = refl
skip_passed (suc j) [] = refl
skip_passed (suc j) (x ∷ xs) = by (eqb x line_end) refl (skip_passed j xs) (skip_passed (suc j) xs)
  where
    by : (t : Bool) → eqb x line_end ≡ t → skip j (lines_of xs) ≡ lines_in (passed j xs) → skip (suc j) (lines_of xs) ≡ lines_in (passed (suc j) xs)
        → skip (suc j) (cond t ((x ∷ []) ∷ lines_of xs) (push_byte x (lines_of xs))) ≡ lines_in (cond t (passed j xs) (passed (suc j) xs))
    by true e here more = simp e here
    by false e here more = skip_push j x (lines_of xs) e ∙ more

-- ---- pieces: what is passed over of a piece, and the rest of it, are the file

pub pass_piece : (w : ℕ) (xs ys : List ℕ) → passed w (xs ++ ys) ≡ passed (pass_over w xs).left (drop (pass_over w xs).at xs ++ ys)
unfolding passed pass_over
pass_piece w [] ys = refl
pass_piece zero (x ∷ xs) ys = refl
pass_piece (suc j) (x ∷ xs) ys = rw (eqb-suc-zero j) (by (eqb x line_end) (pass_piece j xs ys) (pass_piece (suc j) xs ys))
  where
    by : (t : Bool) → passed j (xs ++ ys) ≡ passed (pass_over j xs).left (drop (pass_over j xs).at xs ++ ys)
        → passed (suc j) (xs ++ ys) ≡ passed (pass_over (suc j) xs).left (drop (pass_over (suc j) xs).at xs ++ ys)
        → cond t (passed j (xs ++ ys)) (passed (suc j) (xs ++ ys))
        ≡ passed (pass_over (cond t (suc j - 1) (suc j)) xs).left (drop (1 + (pass_over (cond t (suc j - 1) (suc j)) xs).at) (x ∷ xs) ++ ys)
    by true e f =
        let pred : suc j - 1 ≡ j = omega arith in
        rw (pred, one-add) e
    by false e f = rw one-add f

-- no more is passed over than there is
pub pass_within : (want : ℕ) (xs : List ℕ) → (pass_over want xs).at ≤ length xs
unfolding pass_over
pass_within want [] = omega arith
pass_within want (x ∷ xs) =
    let i = pass_within (cond (eqb x line_end) (want - 1) want) xs in
    by_test (eqb want 0) (λ e. rw e (omega arith)) (λ e. rw e (omega arith))

-- ---- a turn of the loop

shifted_more : (i : ℕ) (p : Passed) → shifted i (shifted 1 p) ≡ shifted (i + 1) p
shifted_more i p = ap (λ (n : ℕ). record { at = n; left = p.left }) (sym (add_assoc i 1 p.at))

shifted_end : (i w : ℕ) → shifted i (record { at = 0; left = w }) ≡ record { at = i; left = w }
shifted_end i w = ap (λ (n : ℕ). record { at = n; left = w }) (add-zero i)

pub pass_none : (xs : List ℕ) → pass_over 0 xs ≡ record { at = 0; left = 0 }
unfolding pass_over
pass_none [] = refl
pass_none (x ∷ xs) = refl

-- what stands at place i of a piece, with w times 0A wanted there, where p is the whole piece's answer
pub record PassTurn (a : List ℕ) (p : Passed) (i w : ℕ) : Type 0 where
  pub inside : i ≤ length a
  pub wanted : 0 < w
  pub comes : shifted i (pass_over w (drop i a)) ≡ p

module _ {a : List ℕ} {p : Passed} {i w : ℕ} (t : PassTurn a p i w) where
  -- the piece ends
  pub pass_end : length a ≤ i → record { at = i; left = w } ≡ p
  unfolding pass_over
  pass_end h = sym (rw (drop_of_length-le a {i = i} h) (shifted_end i w)) ∙ t.comes

  module _ (h : i < length a) where
    line : get_or a i 0 ≡ line_end → shifted (i + 1) (pass_over (w - 1) (drop (i + 1) a)) ≡ p
    unfolding pass_over
    line e =
        sym (shifted_more i (pass_over (w - 1) (drop (i + 1) a)))
        ∙ ap (shifted i) (sym (rw (drop-cons a i 0 h, add-one i, ne_eqb w 0 (λ q. omega (arith, t.wanted)), e)))
        ∙ t.comes

    -- the last 0A that is wanted
    pub pass_last : get_or a i 0 ≡ line_end → w - 1 ≡ 0 → record { at = i + 1; left = w - 1 } ≡ p
    pass_last e z =
        rw z
        (sym (shifted_end (i + 1) 0) ∙ ap (shifted (i + 1)) (sym (pass_none (drop (i + 1) a)))
        ∙ ap (λ (n : ℕ). shifted (i + 1) (pass_over n (drop (i + 1) a))) (sym z) ∙ line e)

    pub pass_line : get_or a i 0 ≡ line_end → (w - 1 ≡ 0 → ⊥) → PassTurn a p (i + 1) (w - 1)
    pass_line e z = record { inside = omega arith; wanted = omega arith; comes = line e }

    pub pass_other : (get_or a i 0 ≡ line_end → ⊥) → PassTurn a p (i + 1) w
    unfolding pass_over
    pass_other e =
        record {
          inside = omega arith;
          wanted = t.wanted;
          comes =
              sym (shifted_more i (pass_over w (drop (i + 1) a)))
              ∙ ap (shifted i) (sym (rw (drop-cons a i 0 h, add-one i, ne_eqb w 0 (λ q. omega (arith, t.wanted)), ne_eqb (get_or a i 0) line_end e)))
              ∙ t.comes;
        }

-- the piece ends, told by its length
pub pass_whole : {a : List ℕ} {p : Passed} {i w : ℕ} (t : PassTurn a p i w) → length a ≤ i → record { at = length a; left = w } ≡ p
pass_whole {a} {p} {i} {w} t h = let e : length a ≡ i = omega (arith, t.inside) in rw e (pass_end t h)
