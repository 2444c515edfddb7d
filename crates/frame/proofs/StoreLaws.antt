-- The laws of values stored one after the other: a loop's store, and what a reader sees at its end.
-- Assumes nothing.
use mathlib.Core.Path.{◌≡◌, refl, sym, ap, ◌∙◌}
use mathlib.Core.List.{List, [], ◌∷◌, ◌++◌, append_assoc}
use Prim.Native.Nat.{ℕ, ◌+◌, ◌-◌, ◌<◌, ◌≤◌}
use native.Mathlib.Numerals.{add-one}
use native.Mathlib.Omega.{arith}
use lib.ListN.{length, take, drop, get_or, set, length-append, length-set, get_or-append}
use lib.Seq.{sets, sets-eq, length-sets, length-take-le, get_or-append-add, get_or-take, get_or-drop, take_at}
use Rattle.frame.specs.Steps.{stored_at}

-- ---- a loop that stores: what is left to store, from here, comes to the same as the whole from the start

pub record Left (t : List ℕ) (p : ℕ) (vs : List ℕ) (t₀ : List ℕ) (p₀ : ℕ) (vs₀ : List ℕ) : Type 0 where
  pub size : p + length vs ≡ p₀ + length vs₀
  pub text : sets t p vs ≡ sets t₀ p₀ vs₀
  pub long : length t ≡ length t₀

pub left_start : (t : List ℕ) (p : ℕ) (vs : List ℕ) → Left t p vs t p vs
left_start t p vs = record { size = refl; text = refl; long = refl }

-- one value is stored
pub left_store : {t t₀ : List ℕ} {p p₀ q v w : ℕ} {vs zs vs₀ : List ℕ} → Left t p zs t₀ p₀ vs₀ → zs ≡ w ∷ vs → v ≡ w → q ≡ p + 1 → Left (set t p v) q vs t₀ p₀ vs₀
left_store {t} {t₀} {p} {p₀} {q} {v} r e f g =
    record {
      size = omega (arith, r.size, ap length e);
      text = rw (g, add-one, f, ← r.text, e);
      long = length-set t p v ∙ r.long;
    }

-- there is room for it
pub left_room : {t t₀ : List ℕ} {p p₀ v : ℕ} {vs zs vs₀ : List ℕ} → Left t p zs t₀ p₀ vs₀ → zs ≡ v ∷ vs → p₀ + length vs₀ ≤ length t₀ → p < length t
left_room r e h = omega (arith, r.size, r.long, ap length e)

-- nothing is left
pub left_done : {t t₀ : List ℕ} {p p₀ : ℕ} {zs vs₀ : List ℕ} → Left t p zs t₀ p₀ vs₀ → zs ≡ [] → p₀ + length vs₀ ≤ length t₀ → t ≡ stored_at t₀ p₀ vs₀
unfolding stored_at
left_done {t} {t₀} {p} {p₀} {zs} {vs₀} r e h = ap (λ (xs : List ℕ). sets t p xs) (sym e) ∙ r.text ∙ sets-eq vs₀ t₀ p₀ h

-- ---- what a reader sees

pub length_stored : (t : List ℕ) (at : ℕ) (vs : List ℕ) → at + length vs ≤ length t → length (stored_at t at vs) ≡ length t
unfolding stored_at
length_stored t at vs h = ap length (sym (sets-eq vs t at h)) ∙ length-sets t at vs

-- the stored values stand in their places
pub stored_inside : (t : List ℕ) (at : ℕ) (vs : List ℕ) (k : ℕ) → at ≤ length t → k < length vs → get_or (stored_at t at vs) (at + k) 0 ≡ get_or vs k 0
unfolding stored_at
stored_inside t at vs k h l =
    let n : length (take at t) ≡ at = length-take-le at t h in
    rw append_assoc
    (ap (λ (i : ℕ). get_or (take at t ++ (vs ++ drop (at + length vs) t)) (i + k) 0) (sym n)
    ∙ get_or-append-add (take at t) (vs ++ drop (at + length vs) t) k 0
    ∙ get_or-append vs (drop (at + length vs) t) 0 k l)

-- and every place before them holds what it held
pub stored_before : (t : List ℕ) (at : ℕ) (vs : List ℕ) (i : ℕ) → at ≤ length t → i < at → get_or (stored_at t at vs) i 0 ≡ get_or t i 0
unfolding stored_at
stored_before t at vs i h l =
    rw append_assoc
    (get_or-append (take at t) (vs ++ drop (at + length vs) t) 0 i (rw (length-take-le at t h) l) ∙ get_or-take at t i 0 l)

pub stored_behind : (t : List ℕ) (at : ℕ) (vs : List ℕ) (i : ℕ) → at + length vs ≤ length t → at + length vs ≤ i → get_or (stored_at t at vs) i 0 ≡ get_or t i 0
unfolding stored_at
stored_behind t at vs i h l =
    let n : length (take at t ++ vs) ≡ at + length vs = length-append (take at t) vs ∙ rw (length-take-le at t (omega arith)) in
    let e : i ≡ at + length vs + (i - (at + length vs)) = omega arith in
    ap (λ (j : ℕ). get_or (take at t ++ vs ++ drop (at + length vs) t) j 0) (e ∙ rw n)
    ∙ get_or-append-add (take at t ++ vs) (drop (at + length vs) t) (i - (at + length vs)) 0
    ∙ get_or-drop (at + length vs) t (i - (at + length vs)) 0
    ∙ ap (λ (j : ℕ). get_or t j 0) (sym e)

-- what is there then, up to the last stored value
pub take_stored : (t : List ℕ) (at : ℕ) (vs : List ℕ) → at ≤ length t → take (at + length vs) (stored_at t at vs) ≡ take at t ++ vs
unfolding stored_at
take_stored t at vs h = take_at (take at t ++ vs) (drop (at + length vs) t) (at + length vs) (length-append (take at t) vs ∙ rw (length-take-le at t h))
