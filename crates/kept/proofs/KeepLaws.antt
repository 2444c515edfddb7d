-- The laws of `Keep`: pieces one after the other are the whole, runs may be passed over at once, and what is known of a file at its end is what is kept.
-- Assumes nothing.
use Prim.Native.Nat.{ℕ, zero, suc, ◌+◌, ◌-◌, ◌≤◌, ◌<◌}
use native.Mathlib.Nat.{add-zero}
use native.Mathlib.Numerals.{add-one}
use native.Mathlib.Omega.{arith}
use mathlib.Core.Path.{◌≡◌, refl, sym, ap, ◌∙◌}
use mathlib.Core.Bool.{Bool, true, false, cond}
use mathlib.Core.List.{List, [], ◌∷◌, ◌++◌, append_assoc, append-nil}
use lib.ListN.{length, get_or, take, drop, length-append, drop_of_length-le}
use lib.Seq.{take_at, drop_at, drop-cons}
use lib.Dec.{eqb, leb}
use borrow.Author.Tests.{le-leb, lt-leb, leb-true, leb-false, ne_eqb, eqb-true}
use Rattle.frame.specs.Line.{line_end}
use Rattle.frame.proofs.HexLaws.{by_test}
use Rattle.listing.specs.Lines.{lines_of, kept_with, kept, WholeLine, end, more}
use Rattle.listing.specs.Resuming.{last_from, edges, edges_from, edges_of}
use Rattle.kept.specs.Keep.{most_bytes, fresh, kept_no_more, line_kept, passed_by, keep_byte, keep_all, edges_at, Known}
use Rattle.kept.specs.Code.Run.{run_length, keep_run}
use Rattle.kept.specs.declared.keep.Keep.{Keep}
use Rattle.listing.proofs.LinesLaws.{kept_line, lines_line, whole_long}

-- ---- pieces

pub keep_append : (k : Keep) (xs ys : List ℕ) → keep_all k (xs ++ ys) ≡ keep_all (keep_all k xs) ys
unfolding keep_all
keep_append k [] ys = refl
keep_append k (x ∷ xs) ys = keep_append (keep_byte k x) xs ys

pub byte_done : (k : Keep) (b : ℕ) → k.done ≡ true → keep_byte k b ≡ k
unfolding keep_byte
byte_done k b d = rw d

pub keep_done : (k : Keep) (xs : List ℕ) → k.done ≡ true → keep_all k xs ≡ k
unfolding keep_all
keep_done k [] d = refl
keep_done k (x ∷ xs) d = ap (λ (j : Keep). keep_all j xs) (byte_done k x d) ∙ keep_done k xs d

-- ---- a byte, and a run of bytes above 0A

-- the same `Keep` with another count
counted : Keep → Bool → ℕ → Keep
counted k d n = record { first = k.first; last = k.last; kept = k.kept; seen = n; done = d }

module _ (k : Keep) (d : k.done ≡ false) where
  byte_zero : (b : ℕ) → eqb b 0 ≡ true → keep_byte k b ≡ kept_no_more k
  unfolding keep_byte
  byte_zero b z = rw (d, z)

  byte_full : (b : ℕ) → most_bytes ≤ k.seen → eqb b 0 ≡ false → keep_byte k b ≡ kept_no_more k
  unfolding keep_byte
  byte_full b h z = rw (d, z, le-leb most_bytes k.seen h)

  byte_line : k.seen < most_bytes → keep_byte k line_end ≡ line_kept k
  unfolding keep_byte
  byte_line h = rw (d, lt-leb most_bytes k.seen h)

  byte_plain : (b : ℕ) → k.seen < most_bytes → eqb b 0 ≡ false → eqb b line_end ≡ false → keep_byte k b ≡ passed_by k 1
  unfolding keep_byte
  byte_plain b h z l = rw (d, z, lt-leb most_bytes k.seen h, l)

  run_fits : (n : ℕ) → n ≤ most_bytes - k.seen → keep_run k n ≡ passed_by k n
  unfolding keep_run
  run_fits n h = rw (d, le-leb n (most_bytes - k.seen) h)

  run_past : (n : ℕ) → most_bytes - k.seen < n → keep_run k n ≡ kept_no_more (passed_by k (most_bytes - k.seen))
  unfolding keep_run
  run_past n h = rw (d, lt-leb n (most_bytes - k.seen) h)

pub run_done : (k : Keep) (n : ℕ) → k.done ≡ true → keep_run k n ≡ k
unfolding keep_run
run_done k n d = rw d

pub run_none : (k : Keep) → keep_run k 0 ≡ k
unfolding counted
run_none k =
    by_test k.done (run_done k 0)
    (λ d. run_fits k d 0 (omega arith) ∙ ap (λ (n : ℕ). counted k false n) (add-zero k.seen) ∙ ap (λ (t : Bool). counted k t k.seen) (sym d))

-- one byte of a run, and the rest of it
run_more : (k : Keep) (b n : ℕ) → leb b line_end ≡ false → k.seen ≤ most_bytes → keep_run (keep_byte k b) n ≡ keep_run k (suc n)
unfolding counted
run_more k b n t h =
    by_test k.done
    (λ d. ap (λ (j : Keep). keep_run j n) (byte_done k b d) ∙ run_done k n d ∙ sym (run_done k (suc n) d))
    (λ d. by_test (leb most_bytes k.seen) (λ f. full d (leb-true most_bytes k.seen f)) (λ f. room d (leb-false most_bytes k.seen f)))
  where
    zero_not : eqb b 0 ≡ false
    zero_not = ne_eqb b 0 (λ e. omega (arith, leb-false b line_end t))

    end_not : eqb b line_end ≡ false
    end_not = ne_eqb b line_end (λ e. omega (arith, leb-false b line_end t))

    full : k.done ≡ false → most_bytes ≤ k.seen → keep_run (keep_byte k b) n ≡ keep_run k (suc n)
    full d f =
        ap (λ (j : Keep). keep_run j n) (byte_full k d b f zero_not)
        ∙ run_done (kept_no_more k) n refl
        ∙ ap (λ (m : ℕ). counted k true m) (let q : k.seen ≡ k.seen + (most_bytes - k.seen) = omega arith in q)
        ∙ sym (run_past k d (suc n) (omega arith))

    room : k.done ≡ false → k.seen < most_bytes → keep_run (keep_byte k b) n ≡ keep_run k (suc n)
    room d f =
        ap (λ (j : Keep). keep_run j n) (byte_plain k d b f zero_not end_not)
        ∙ by_test (leb n (most_bytes - (k.seen + 1)))
        (λ u. run_fits (passed_by k 1) refl n (leb-true n (most_bytes - (k.seen + 1)) u)
        ∙ ap (λ (m : ℕ). counted k false m) (let q : k.seen + 1 + n ≡ k.seen + suc n = omega arith in q)
        ∙ sym (run_fits k d (suc n) (omega (arith, leb-true n (most_bytes - (k.seen + 1)) u))))
        (λ u. run_past (passed_by k 1) refl n (leb-false n (most_bytes - (k.seen + 1)) u)
        ∙ ap (λ (m : ℕ). counted k true m) (let q : k.seen + 1 + (most_bytes - (k.seen + 1)) ≡ k.seen + (most_bytes - k.seen) = omega arith in q)
        ∙ sym (run_past k d (suc n) (omega (arith, leb-false n (most_bytes - (k.seen + 1)) u))))

-- no byte takes the count past what can be counted
byte_counted : (k : Keep) (b : ℕ) → k.seen ≤ most_bytes → (keep_byte k b).seen ≤ most_bytes
unfolding keep_byte
byte_counted k b h =
    by_test k.done (λ d. rw d h) (λ d. rw d
    (by_test (eqb b 0) (λ z. rw z h) (λ z. rw z
    (by_test (leb most_bytes k.seen) (λ f. rw f h) (λ f. rw f
    (by_test (eqb b line_end) (λ l. rw l (omega (arith, leb-false most_bytes k.seen f))) (λ l. rw l (omega (arith, leb-false most_bytes k.seen f)))))))))

-- a run at the front may be passed over at once
pub keep_run_lem : (xs : List ℕ) (k : Keep) → k.seen ≤ most_bytes → keep_all k xs ≡ keep_all (keep_run k (run_length xs)) (drop (run_length xs) xs)
unfolding keep_all run_length
keep_run_lem [] k h = sym (run_none k)
keep_run_lem (x ∷ xs) k h =
    by_test (leb x line_end)
    (λ t. rw t (ap (λ (j : Keep). keep_all (keep_byte j x) xs) (sym (run_none k))))
    (λ t. rw t
    (keep_run_lem xs (keep_byte k x) (byte_counted k x h) ∙ ap (λ (j : Keep). keep_all j (drop (run_length xs) xs)) (run_more k x (run_length xs) t h)))

-- no run takes the count past what can be counted
run_counted : (k : Keep) (n : ℕ) → k.seen ≤ most_bytes → (keep_run k n).seen ≤ most_bytes
unfolding keep_run
run_counted k n h =
    by_test k.done (λ d. rw d h) (λ d. rw d
    (by_test (leb n (most_bytes - k.seen)) (λ f. rw f (omega (arith, leb-true n (most_bytes - k.seen) f))) (λ f. rw f (omega arith))))

-- ---- the scan for the end of a run, at place i of a piece

-- ---- a turn of the loop over a piece: a run, and the byte that ends it

-- the first byte that is not above 0A ends the run
pub run_found : (xs : List ℕ) (e : ℕ) → e < length xs → get_or xs e 0 ≤ line_end → ((j : ℕ) → j < e → line_end < get_or xs j 0) → run_length xs ≡ e
unfolding run_length
run_found [] e h l above = absurd (omega arith)
run_found (x ∷ xs) zero h l above = rw (le-leb x line_end l) refl
run_found (x ∷ xs) (suc e) h l above =
    rw (lt-leb x line_end (above 0 (omega arith))) (ap suc (run_found xs e (omega arith) l (λ j m. above (suc j) (omega arith))))

-- where there is none, all of them are the run
pub run_whole : (xs : List ℕ) → ((j : ℕ) → j < length xs → line_end < get_or xs j 0) → run_length xs ≡ length xs
unfolding run_length
run_whole [] above = refl
run_whole (x ∷ xs) above = rw (lt-leb x line_end (above 0 (omega arith))) (ap suc (run_whole xs (λ j m. above (suc j) (omega arith))))

module _ (xs : List ℕ) (k : Keep) (fits : k.seen ≤ most_bytes) where
  pub turn_ends : run_length xs ≡ length xs → keep_all k xs ≡ keep_run k (length xs)
  unfolding keep_all
  turn_ends r = keep_run_lem xs k fits ∙ rw (r, drop_of_length-le xs {i = length xs} (omega arith))

  module _ (e : ℕ) (r : run_length xs ≡ e) where
    pub turn_goes : e < length xs → keep_all k xs ≡ keep_all (keep_byte (keep_run k e) (get_or xs e 0)) (drop (e + 1) xs)
    unfolding keep_all
    turn_goes h = keep_run_lem xs k fits ∙ rw (r, drop-cons xs e 0 h, add-one)

  pub turn_counted : (e b : ℕ) → (keep_byte (keep_run k e) b).seen ≤ most_bytes
  turn_counted e b = byte_counted _ b (run_counted k e fits)

-- ---- a found file: whole lines, and a rest of which nothing is kept

-- no 0A before a zero byte or the end
data Rest : List ℕ → Type 0 where
  nil : Rest []
  zeros : {x : ℕ} {t : List ℕ} → eqb x 0 ≡ true → Rest (x ∷ t)
  other : {x : ℕ} {t : List ℕ} → eqb x 0 ≡ false → eqb x line_end ≡ false → Rest t → Rest (x ∷ t)

data Found : List ℕ → Type 0 where
  rest : {t : List ℕ} → Rest t → Found t
  line : {l r : List ℕ} → WholeLine l → Found r → Found (l ++ r)

found : (xs : List ℕ) → Found xs
found [] = rest nil
found (x ∷ xs) = by (eqb x 0) refl (eqb x line_end) refl (found xs)
  where
    wider : eqb x 0 ≡ false → eqb x line_end ≡ false → {ys : List ℕ} → Found ys → Found (x ∷ ys)
    wider z e (rest t) = rest (other z e t)
    wider z e (line {l} {r} h f) = line {l = x ∷ l} {r = r} (more z e h) f

    by : (z : Bool) → eqb x 0 ≡ z → (e : Bool) → eqb x line_end ≡ e → Found xs → Found (x ∷ xs)
    by true z e q f = rest (zeros z)
    by false z true q f = rw (eqb-true x line_end q) (line {l = line_end ∷ []} {r = xs} end f)
    by false z false q f = wider z q f

rest_kept : {t : List ℕ} → Rest t → kept t ≡ []
unfolding kept kept_with
rest_kept nil = refl
rest_kept (zeros z) = simp z
rest_kept (other z e h) = simp (z, rest_kept h, e)

-- what is kept is the front of the file
front : {f : List ℕ} → Found f → (t : List ℕ) × (f ≡ kept f ++ t)
front (rest {t} h) = (t, rw (rest_kept h))
front (line {l} {r} h f) =
    let e = front f in
    (e.0, rw (kept_line h r, append_assoc) (ap (λ (x : List ℕ). l ++ x) e.1))

-- ---- a rest leaves alone what is known of the kept lines

places : Keep → List ℕ
places k = k.first ∷ k.last ∷ k.kept ∷ []

byte_places : (k : Keep) (b : ℕ) → eqb b line_end ≡ false → places (keep_byte k b) ≡ places k
unfolding keep_byte places
byte_places k b l =
    by_test k.done (λ d. rw d) (λ d. rw d
    (by_test (eqb b 0) (λ z. rw z) (λ z. rw z
    (by_test (leb most_bytes k.seen) (λ f. rw f) (λ f. rw (f, l))))))

zero_done : (k : Keep) (b : ℕ) → eqb b 0 ≡ true → (keep_byte k b).done ≡ true
zero_done k b z = by_test k.done (λ d. ap (λ (j : Keep). j.done) (byte_done k b d) ∙ d) (λ d. ap (λ (j : Keep). j.done) (byte_zero k d b z))

rest_places : {t : List ℕ} → Rest t → (k : Keep) → places (keep_all k t) ≡ places k
unfolding keep_all
rest_places nil k = refl
rest_places (zeros {x} {t} z) k =
    ap places (keep_done (keep_byte k x) t (zero_done k x z)) ∙ byte_places k x (ne_eqb x line_end (λ e. omega (arith, eqb-true x 0 z)))
rest_places (other {x} {t} z e h) k = rest_places h (keep_byte k x) ∙ byte_places k x e

-- ---- a whole line is kept

line_ended : Keep → ℕ → Keep
line_ended k n =
    record {
      first = cond (eqb k.first 0) (k.seen + n) k.first;
      last = k.kept;
      kept = k.seen + n;
      seen = k.seen + n;
      done = false;
    }

keep_line : {l : List ℕ} → WholeLine l → (r : List ℕ) (k : Keep) → k.done ≡ false → k.seen + length l ≤ most_bytes → keep_all k (l ++ r) ≡ keep_all (line_ended k (length l)) r
unfolding keep_all line_ended
keep_line end r k d h = ap (λ (j : Keep). keep_all j r) (byte_line k d (omega arith))
keep_line (more {x} {l} a b f) r k d h =
    ap (λ (j : Keep). keep_all j (l ++ r)) (byte_plain k d x (omega (arith, whole_long f)) a b)
    ∙ keep_line f r (passed_by k 1) refl (omega arith)
    ∙ ap (λ (n : ℕ). keep_all (record { first = cond (eqb k.first 0) n k.first; last = k.kept; kept = n; seen = n; done = false }) r)
    (let q : k.seen + 1 + length l ≡ k.seen + suc (length l) = omega arith in q)

-- ---- the first line a and the last line z of the whole lines p, where `Keep` has them

record Marks (k : Keep) (p a z : List ℕ) : Type 0 where
  pre : List ℕ
  post : List ℕ
  last_at : p ≡ pre ++ z
  last : length pre ≡ k.last
  first_at : p ≡ a ++ post
  first : length a ≡ k.first
  kept : length p ≡ k.kept

alike : {j k : Keep} {p a z : List ℕ} → places j ≡ places k → Marks k p a z → Marks j p a z
unfolding places
alike e m = record { pre = m.pre; post = m.post; last_at = m.last_at; last = m.last ∙ (cc); first_at = m.first_at; first = m.first ∙ (cc); kept = m.kept ∙ (cc) }

trace : {xs : List ℕ} → Found xs → (k : Keep) (p a z : List ℕ) → Marks k p a z → 0 < length a → k.seen ≡ k.kept → k.done ≡ false → length p + length xs ≤ most_bytes
    → Marks (keep_all k xs) (p ++ kept xs) a (last_from z (lines_of (kept xs)))
unfolding last_from lines_of line_ended
trace (rest {t} h) k p a z m pos s d le = rw (rest_kept h, append-nil) (alike (rest_places h k) m)
trace (line {l} {r} h f) k p a z m pos s d le =
    let next : Marks (line_ended k (length l)) (p ++ l) a l =
    record {
      pre = p;
      post = m.post ++ l;
      last_at = refl;
      last = m.kept;
      first_at = ap (λ (q : List ℕ). q ++ l) m.first_at ∙ append_assoc a m.post l;
      first = rw (ne_eqb k.first 0 (λ e. omega (arith, e, m.first))) m.first;
      kept = omega (arith, length-append p l, m.kept);
    } in
    rw (keep_line h r k d (omega (arith, length-append l r, m.kept)), kept_line h r, lines_line h (kept r), ← append_assoc)
    (trace f (line_ended k (length l)) (p ++ l) a l next pos refl refl (omega (arith, length-append l r, length-append p l)))

marks_edges : (k : Keep) (p a z f t : List ℕ) → Marks k p a z → 0 < length a → f ≡ p ++ t → edges_at k f ≡ edges a z
unfolding edges_from
marks_edges k p a z f t m pos e =
    let size : length z ≡ k.kept - k.last = omega (arith, m.kept, m.last, simp length-append at (ap length m.last_at)) in
    let one : take k.first f ≡ a = rw (e, m.first_at, append_assoc) (take_at a (m.post ++ t) k.first m.first) in
    let two : drop k.last f ≡ z ++ t = rw (e, m.last_at, append_assoc) (drop_at m.pre (z ++ t) k.last m.last) in
    let three : take (k.kept - k.last) (z ++ t) ≡ z = take_at z t (k.kept - k.last) size in
    simp (one, two, three, ne_eqb (length a) 0 (λ q. omega arith))

-- ---- what is known at the end of a file that can be counted

known : {f : List ℕ} → Found f → length f ≤ most_bytes → Known f (keep_all fresh f)
unfolding places line_ended edges_from edges_of lines_of
known (rest {t} h) le =
    let same : places (keep_all fresh t) ≡ places fresh = rest_places h fresh in
    let num : (keep_all fresh t).kept ≡ 0 = cc in
    let one : (keep_all fresh t).first ≡ 0 = cc in
    record { count = rw (num, rest_kept h); front = rw (num, rest_kept h); edge = simp (one, rest_kept h) }
known (line {l} {r} h f) le =
    let k = keep_all (line_ended fresh (length l)) r in
    let z = last_from l (lines_of (kept r)) in
    let begun : Marks (line_ended fresh (length l)) l l l =
    record { pre = []; post = []; last_at = refl; last = refl; first_at = sym (append-nil l); first = omega arith; kept = omega arith } in
    let m : Marks k (l ++ kept r) l z = trace f (line_ended fresh (length l)) l l l begun (whole_long h) refl refl (omega (arith, length-append l r)) in
    let behind = front f in
    let e : l ++ r ≡ (l ++ kept r) ++ behind.0 = rw append_assoc (ap (λ (x : List ℕ). l ++ x) behind.1) in
    rw (keep_line h r fresh refl (omega (arith, length-append l r)))
    (record {
      count = rw (kept_line h r) (sym m.kept);
      front = rw (kept_line h r, e) (take_at (l ++ kept r) behind.0 k.kept m.kept);
      edge = rw (kept_line h r, lines_line h (kept r)) (marks_edges k (l ++ kept r) l z (l ++ r) behind.0 m (whole_long h) e);
    })

pub keep_known : (f : List ℕ) → length f ≤ most_bytes → Known f (keep_all fresh f)
keep_known f le = known (found f) le
