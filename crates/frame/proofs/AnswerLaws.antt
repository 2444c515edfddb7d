-- Laws of the frame's fields: what an answer says, in both directions.
-- Assumes nothing.
use mathlib.Core.Path.{◌≡◌, refl, sym, ap, ◌∙◌}
use mathlib.Core.List.{List, ◌++◌}
use Prim.Native.Nat.{ℕ, zero, suc, ◌+◌, ◌*◌, ◌/◌, ◌%◌, ◌^◌, ◌<◌, ◌≤◌}
use native.Mathlib.Numerals.{add-one}
use native.Mathlib.Omega.{arith}
use borrow.Author.Tests.{le-leb}
use lib.ListN.{length, take, drop, get_or, length-append, length-drop, take-append-drop}
use lib.Seq.{take-suc, get_or-drop, drop-drop, drop_at, length-take-le}
use Rattle.frame.specs.Hex.{unhex, be}
use Rattle.frame.specs.Field.{big_at, field_at}
use Rattle.std.specs.Prelude.{Ok}
use Rattle.frame.proofs.HexLaws.{byte_lt, be_one, be_add, length_be}
use Rattle.frame.proofs.FieldLaws.{big_at_same, field_back}

-- ---- a frame, cut behind a field

-- the bytes of the number that k bytes stand for are these k bytes
pub be_big_at : (k : ℕ) (s : List ℕ) (at : ℕ) → ((i : ℕ) → get_or s i 0 < 256) → at + k ≤ length s → be k (big_at k s at) ≡ take k (drop at s)
unfolding be big_at
be_big_at zero s at b h = refl
be_big_at (suc k) s at b h =
    let n = big_at k s at in
    let x = get_or s (at + k) 0 in
    let q : (n * 256 + x) / 256 ^ 1 ≡ n = omega (arith, b (at + k)) in
    let r : (n * 256 + x) % 256 ≡ x = omega (arith, b (at + k)) in
    let l : k < length (drop at s) = rw length-drop (omega arith) in
    ap (λ (m : ℕ). be m (n * 256 + x)) (sym (add-one k))
    ∙ sym (be_add k 1 (n * 256 + x))
    ∙ rw (q, ← be_one (n * 256 + x), r, be_big_at k s at b (omega arith), take-suc (drop at s) k 0 l, get_or-drop)

-- a field that is complete stands in front of what is left
pub field_cut : (k : ℕ) (l : List ℕ) (at : ℕ) → at + k ≤ length (unhex l) → drop at (unhex l) ≡ be k (big_at k (unhex l) at) ++ drop (at + k) (unhex l)
field_cut k l at h =
    let s = unhex l in
    sym (take-append-drop k (drop at s)) ∙ rw (be_big_at k s at (byte_lt l) h, drop-drop)

-- the same, the other way: a number that stands in front of what is left is read
pub record IsRead (k n : ℕ) (s : List ℕ) (at : ℕ) (rest : List ℕ) : Type 0 where
  pub field : field_at k s at ≡ Ok (n, record { at = at + k })
  pub next : drop (at + k) s ≡ rest
  pub within : at + k ≤ length s

pub field_read : (k n : ℕ) (s : List ℕ) (at : ℕ) (rest : List ℕ) → at ≤ length s → n < 256 ^ k → drop at s ≡ be k n ++ rest → IsRead k n s at rest
unfolding field_at
field_read k n s at rest a h e =
    let f : length (take at s) ≡ at = length-take-le at s a in
    let cut : s ≡ take at s ++ (be k n ++ rest) = sym (take-append-drop at s) ∙ rw e in
    let w : at + k ≤ length s = omega (arith, length-drop at s, ap length e, length-append (be k n) rest, length_be k n) in
    let v : big_at k s at ≡ n = big_at_same k s (take at s ++ (be k n ++ rest)) at (length (take at s)) (λ i l. rw (f, ← cut)) ∙ field_back k n (take at s) rest h in
    record {
      field = simp (le-leb (at + k) (length s) w, v);
      next = sym (drop-drop k at s) ∙ rw e (drop_at (be k n) rest k (length_be k n));
      within = w;
    }
