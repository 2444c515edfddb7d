-- The laws of laying: runs compose, nothing else differs, and the rest of a line may be lent on.
-- Assumes nothing.
use mathlib.Core.Path.{◌≡◌, refl, sym, ap, ◌∙◌}
use mathlib.Core.List.{List, [], ◌∷◌, ◌++◌, append-nil}
use Prim.Native.Nat.{ℕ, suc, ◌+◌, ◌*◌, ◌-◌, ◌/◌, ◌%◌, ◌≤◌}
use native.Mathlib.Nat.{add-zero}
use native.Mathlib.Numerals.{add-one}
use native.Mathlib.Omega.{arith}
use lib.ListN.{length, take, drop, set, length-append, length-set, length-drop, take-append-drop, drop_of_length-le}
use lib.Seq.{take-set-le, sets, sets-eq, take_all, drop-set-add}
use borrow.Rule.Slice.PartMut.{put_mid, mid_of}
use Rattle.frame.specs.Hex.{glyph, hex_of}
use Rattle.writing.specs.Lay.{lay, Laid}
use Rattle.frame.proofs.HexLaws.{length_hex_of}

-- ---- lay

-- one run of bytes and then another, right behind it, are both together
pub lay_lay : (s : List ℕ) (a : ℕ) (xs : List ℕ) (b : ℕ) (ys : List ℕ) → b ≡ a + 2 * length xs → lay (lay s a xs) b ys ≡ lay s a (xs ++ ys)
unfolding lay
lay_lay s a [] b ys e = let f : b ≡ a = omega arith in rw f
lay_lay s a (x ∷ xs) b ys e = lay_lay (set (set s a (glyph (x / 16))) (a + 1) (glyph (x % 16))) (a + 2) xs b ys (omega arith)

pub length_lay : (s : List ℕ) (a : ℕ) (xs : List ℕ) → length (lay s a xs) ≡ length s
unfolding lay
length_lay s a [] = refl
length_lay s a (x ∷ xs) = length_lay (set (set s a (glyph (x / 16))) (a + 1) (glyph (x % 16))) (a + 2) xs ∙ simp length-set

lay_sets : (s : List ℕ) (a : ℕ) (bs : List ℕ) → lay s a bs ≡ sets s a (hex_of bs)
unfolding lay hex_of
lay_sets s a [] = refl
lay_sets s a (b ∷ bs) = let e : a + 2 ≡ suc (suc a) = omega arith in rw (e, add-one) (lay_sets (set (set s a (glyph (b / 16))) (suc a) (glyph (b % 16))) (suc (suc a)) bs)

-- what is laid, as a reader sees it: the digits stand there, and nothing before or behind them differs
pub lay_eq : (s : List ℕ) (a : ℕ) (bs : List ℕ) → a + 2 * length bs ≤ length s → lay s a bs ≡ take a s ++ hex_of bs ++ drop (a + 2 * length bs) s
lay_eq s a bs h = rw (← length_hex_of bs, lay_sets) (sets-eq (hex_of bs) s a (rw (← length_hex_of bs) at h))

-- ---- the rest of a line, lent on from place a: what is laid at j of the rest is laid at a + j of the whole

pub lay_drop : (a : ℕ) (s : List ℕ) (j : ℕ) (bs : List ℕ) → take a s ++ lay (drop a s) j bs ≡ lay s (a + j) bs
unfolding lay
lay_drop a s j [] = take-append-drop a s
lay_drop a s j (b ∷ bs) =
    let h = glyph (b / 16) in
    let l = glyph (b % 16) in
    let u : a + j + 1 ≡ a + (j + 1) = omega arith in
    let w : a + (j + 2) ≡ a + j + 2 = omega arith in
    let e1 : take a (set (set s (a + j) h) (a + j + 1) l) ≡ take a s = take-set-le a _ (a + j + 1) l (omega arith) ∙ take-set-le a s (a + j) h (omega arith) in
    let e2 : drop a (set (set s (a + j) h) (a + j + 1) l) ≡ set (set (drop a s) j h) (j + 1) l = rw (u, drop-set-add a (set s (a + j) h) (j + 1) l, drop-set-add a s j h) in
    cc (lay_drop a (set (set s (a + j) h) (a + j + 1) l) (j + 2) bs)

-- the same, as a part that was lent is given back
pub lay_rest : (a : ℕ) (s : List ℕ) (j : ℕ) (bs : List ℕ) {e : List ℕ} → a ≤ length s → e ≡ lay (mid_of a (length s - a) s) j bs → put_mid a (length s - a) s e ≡ lay s (a + j) bs
lay_rest a s j bs h p =
    rw (p, take_all (length s - a) (drop a s) (rw length-drop (omega arith)), drop_of_length-le (drop a s) {i = length s - a} (rw length-drop (omega arith)), append-nil) (lay_drop a s j bs)

-- ---- what writers promise, one after the other

pub laid_none : (s : List ℕ) (at : ℕ) → Laid s s at at []
unfolding lay
laid_none s at = record { to = sym (add-zero at); holds = refl }

pub laid_then : {a b c : List ℕ} {at p r : ℕ} {xs ys : List ℕ} → Laid a b at p xs → Laid b c p r ys → Laid a c at r (xs ++ ys)
laid_then {a} {b} {c} {at} {p} {r} {xs} {ys} f g =
    record {
      to = omega (arith, f.to, g.to, length-append xs ys);
      holds = g.holds ∙ rw f.holds (lay_lay a at xs p ys f.to);
    }

-- the same bytes under another name
pub laid_as : {a b : List ℕ} {at r : ℕ} {xs ys : List ℕ} → xs ≡ ys → Laid a b at r xs → Laid a b at r ys
laid_as e f = rw (← e) f

pub length_laid : {a b : List ℕ} {at r : ℕ} {xs : List ℕ} → Laid a b at r xs → length b ≡ length a
length_laid {a} {b} {at} {r} {xs} f = ap length f.holds ∙ length_lay a at xs

-- where there was room for so much, there is room for what is left of it behind the first piece
pub laid_room : {a b : List ℕ} {at p : ℕ} {xs : List ℕ} (n m : ℕ) → Laid a b at p xs → length xs ≡ n → at + 2 * n + m ≤ length a → p + m ≤ length b
laid_room n m f e h = omega (arith, f.to, length_laid f)

-- room for two pieces is, behind the first, room for the second
pub room_next : {a b : List ℕ} {at p : ℕ} {xs : List ℕ} (ys : List ℕ) → Laid a b at p xs → at + 2 * length (xs ++ ys) ≤ length a → p + 2 * length ys ≤ length b
room_next {xs = xs} ys f h = omega (arith, f.to, length_laid f, length-append xs ys)

-- the rest of the line lent on from place a, written from its front: the whole line, written from a
pub laid_rest : (a : ℕ) (s : List ℕ) (bs : List ℕ) {e : List ℕ} {r : ℕ} → a ≤ length s → Laid (mid_of a (length s - a) s) e 0 r bs → Laid s (put_mid a (length s - a) s e) a (a + r) bs
laid_rest a s bs h f =
    record {
      to = omega (arith, f.to);
      holds = lay_rest a s 0 bs h f.holds ∙ rw (add-zero a);
    }

-- ---- a loop that writes: what is left to write, from here, comes to the same as the whole from the start

pub record Rest (l : List ℕ) (p : ℕ) (xs : List ℕ) (l₀ : List ℕ) (p₀ : ℕ) (xs₀ : List ℕ) : Type 0 where
  pub size : p + 2 * length xs ≡ p₀ + 2 * length xs₀
  pub text : lay l p xs ≡ lay l₀ p₀ xs₀
  pub long : length l ≡ length l₀

pub rest_start : (l : List ℕ) (p : ℕ) (xs : List ℕ) → Rest l p xs l p xs
rest_start l p xs = record { size = refl; text = refl; long = refl }

-- a loop starts on the same bytes under another name
pub rest_from : (l : List ℕ) (p : ℕ) {xs ys : List ℕ} → xs ≡ ys → Rest l p xs l p ys
rest_from l p e = rw e (rest_start l p _)

-- one piece is written
pub rest_put : {l m l₀ : List ℕ} {p q p₀ : ℕ} {xs ys zs xs₀ : List ℕ} → Rest l p zs l₀ p₀ xs₀ → zs ≡ xs ++ ys → Laid l m p q xs → Rest m q ys l₀ p₀ xs₀
rest_put {l} {m} {l₀} {p} {q} {p₀} {xs} {ys} r e f =
    record {
      size = omega (arith, f.to, r.size, ap length e, length-append xs ys);
      text = rw f.holds (lay_lay l p xs q ys f.to ∙ rw (← e) r.text);
      long = length_laid f ∙ r.long;
    }

-- there is room for the next piece, and for the last
pub rest_room : {l l₀ : List ℕ} {p p₀ : ℕ} {zs xs₀ : List ℕ} (xs ys : List ℕ) → Rest l p zs l₀ p₀ xs₀ → zs ≡ xs ++ ys → p₀ + 2 * length xs₀ ≤ length l₀ → p + 2 * length xs ≤ length l
rest_room xs ys r e h = omega (arith, r.size, r.long, ap length e, length-append xs ys)

pub rest_room_end : {l l₀ : List ℕ} {p p₀ : ℕ} {xs zs xs₀ : List ℕ} → Rest l p zs l₀ p₀ xs₀ → zs ≡ xs → p₀ + 2 * length xs₀ ≤ length l₀ → p + 2 * length xs ≤ length l
rest_room_end r e h = omega (arith, r.size, r.long, ap length e)

-- the last piece is written
pub rest_end : {l m l₀ : List ℕ} {p q p₀ : ℕ} {zs xs₀ : List ℕ} → Rest l p zs l₀ p₀ xs₀ → Laid l m p q zs → Laid l₀ m p₀ q xs₀
rest_end r f = record { to = f.to ∙ r.size; holds = f.holds ∙ r.text }

-- nothing was left
pub rest_done : {l l₀ : List ℕ} {p p₀ : ℕ} {zs xs₀ : List ℕ} → Rest l p zs l₀ p₀ xs₀ → zs ≡ [] → Laid l₀ l p₀ p xs₀
rest_done {l} {l₀} {p} r e = rest_end (rw e at r) (laid_none l p)
