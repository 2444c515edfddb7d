-- Table 93's loops and the walk write the same text, for every list of edits that is accepted.
-- Assumes nothing.
use mathlib.Core.Path.{◌≡◌, refl, sym, ap, ◌∙◌}
use mathlib.Core.Bool.{true, false, cond, ◌&&◌, and-false}
use mathlib.Core.List.{List, [], ◌∷◌, ◌++◌, map, append-nil, append_assoc}
use Prim.Native.Nat.{ℕ, zero, suc, ◌+◌, ◌-◌, ◌<◌, ◌≤◌}
use native.Mathlib.Omega.{arith}
use native.Mathlib.Nat.{sub_self, add-zero}
use borrow.Author.Tests.{lt-ltb, le-ltb, eq-eqb, ne_eqb, eqb-true, eqb-false}
use lib.Dec.{ltb, eqb}
use lib.ListN.{length, drop, length-drop}
use lib.Seq.{drop-drop}
use Rattle.writing.specs.Decimal.{decimal}
use Rattle.frame.proofs.HexLaws.{by_test}
use Rattle.alphabet.specs.Table35.{letter_of}
use Rattle.edits.specs.Edits.{substitution, insertion, deletion, next_offset, Sound}
use Rattle.edits.specs.declared.edit.Edit.{Edit}
use Rattle.edits.proofs.EditLaws.{EditAccepted, sound_tail, next_deletion, next_other, sound_accepted}
use Rattle.ecigar.specs.declared.walk.Walk.{Walk}
use Rattle.ecigar.specs.Table90.{counted, equals_sign, plus_sign, minus_sign, print_all}
use Rattle.ecigar.specs.Ecigar.{set_out, joins_run, past, matches, open_run, gap, mark, operations_from}
use Rattle.tables.specs.Table93.{item, with_match, mismatch_loop, IndelRun, insertion_loop, deletion_loop, indel_loop}
use Rattle.ecigar.proofs.PrintLaws.{printed_append}
use Rattle.ecigar.proofs.WalkLaws.{matches_none, matches_some, closed_insertion, closed_deletion, closed_none, gap_joined, gap_apart, mark_letter, mark_none, text_on, text_end, ending_both, past_next, past_kind, past_joined, past_apart, joins_same, joins_not, apart_letter}
use Rattle.tables.specs.Table92.{offsets_of, letters_in, types_of}

-- ---- the edits from index i on

not_empty : {e : Edit} {rest : List Edit} {P : Type 0} → ◌≡◌ {A = List Edit} [] (e ∷ rest) → P
not_empty q = absurd (let z : ◌≡◌ {A = ℕ} 0 1 = cc in omega arith)

-- mmOffsets[i], mms[i] and mmTypes[i] are those of the edit that stands at i
pub item_here : (f : Edit → ℕ) (es : List Edit) (i : ℕ) (e : Edit) (rest : List Edit) → drop i es ≡ e ∷ rest → item (map f es) i ≡ f e
item_here f [] zero e rest q = not_empty q
item_here f [] (suc i) e rest q = not_empty q
item_here f (x ∷ es) zero e rest q = cc
item_here f (x ∷ es) (suc i) e rest q = item_here f es i e rest q

module _ (es : List Edit) (i : ℕ) where
  here_below : (e : Edit) (rest : List Edit) → drop i es ≡ e ∷ rest → i < length es
  here_below e rest q = let l = ap length q in omega (arith, length-drop i es)

  here_next : (e : Edit) (rest : List Edit) → drop i es ≡ e ∷ rest → drop (i + 1) es ≡ rest
  here_next e rest q = sym (drop-drop 1 i es) ∙ ap (λ (l : List Edit). drop 1 l) q

  end_past : drop i es ≡ [] → length es ≤ i
  end_past q = let l = ap length q in omega (arith, length-drop i es)

  rest_le : (rest : List Edit) → drop i es ≡ rest → length rest ≤ length es
  rest_le rest q = let l = ap length q in omega (arith, length-drop i es)

-- ---- the match, where there is one

with_match_lem : (text : List ℕ) (n : ℕ) → with_match text n ≡ text ++ print_all (matches n)
unfolding with_match
with_match_lem text n =
    by_test (eqb n 0)
    (λ h. let z = eqb-true n 0 h in rw (le-ltb 0 n (omega arith), matches_none n z) (sym (append-nil text)))
    (λ h. let z = eqb-false n 0 h in rw (lt-ltb 0 n (omega arith), matches_some n z) (append_assoc text (decimal n) (equals_sign ∷ [])))

-- ---- where no run is open

-- the place before an edit, with no run open
abbrev plain : ℕ → Walk
plain next = record { next = next; kind = substitution; run = 0 }

closed_plain : (w : Walk) → w.kind ≡ substitution → print_all (open_run w) ≡ []
closed_plain w h = closed_none w (λ z. omega arith) (λ z. omega arith)

apart_plain : (w : Walk) (e : Edit) → w.kind ≡ substitution → joins_run w e ≡ false
apart_plain w e h =
    by_test (eqb e.kind substitution) (λ t. apart_letter w e (eqb-true _ _ t)) (λ t. joins_not w e (λ k z. eqb-false _ _ t (k ∙ h)))

gap_plain : (w : Walk) (e : Edit) → w.kind ≡ substitution → print_all (gap w e) ≡ print_all (matches (e.offset - w.next))
gap_plain w e h = rw (gap_apart w e (apart_plain w e h), closed_plain w h)

module _ (alphabet len : ℕ) where
  pub end_plain : (w : Walk) → w.kind ≡ substitution → print_all (operations_from alphabet len w []) ≡ print_all (matches (len - w.next))
  end_plain w h = text_end alphabet len w ∙ rw (ending_both len w, closed_plain w h)

  -- an edit that joins no run: the run is `open_run` first
  shut_on : (w : Walk) (e : Edit) (rest : List Edit) → joins_run w e ≡ false
      → print_all (operations_from alphabet len w (e ∷ rest)) ≡ print_all (open_run w) ++ print_all (operations_from alphabet len (plain w.next) (e ∷ rest))
  unfolding past
  shut_on w e rest h =
      let g = apart_plain (plain w.next) e refl in
      text_on alphabet len w e rest
      ∙ rw (printed_append (gap w e) (mark alphabet e), gap_apart w e h, text_on alphabet len (plain w.next) e rest, printed_append (gap (plain w.next) e) (mark alphabet e), gap_plain (plain w.next) e refl, h, g)
      (simp append_assoc)

  shut_end : (w : Walk) → print_all (operations_from alphabet len w []) ≡ print_all (open_run w) ++ print_all (operations_from alphabet len (plain w.next) [])
  shut_end w = text_end alphabet len w ∙ rw (ending_both len w, end_plain (plain w.next) refl)

-- ---- the inner loops, which differ in the type, and in what they add to the offset

unfoldable run_loop : ℕ → ℕ → ℕ → List ℕ → List ℕ → ℕ → IndelRun → IndelRun
run_loop kind more mmNumber mmOffsets mmTypes zero r = r
run_loop kind more mmNumber mmOffsets mmTypes (suc left) r =
    cond (ltb r.i mmNumber && eqb (item mmTypes r.i) kind && eqb (item mmOffsets r.i - r.previous_offset) 0)
    (run_loop kind more mmNumber mmOffsets mmTypes left (record { i = r.i + 1; previous_offset = item mmOffsets r.i + more; count = r.count + 1 }))
    r

insertion_loop_lem : (n : ℕ) (offsets types : List ℕ) (f : ℕ) (r : IndelRun) → insertion_loop n offsets types f r ≡ run_loop insertion 1 n offsets types f r
unfolding insertion_loop run_loop
insertion_loop_lem n offsets types zero r = refl
insertion_loop_lem n offsets types (suc f) r = rw (insertion_loop_lem n offsets types f)

deletion_loop_lem : (n : ℕ) (offsets types : List ℕ) (f : ℕ) (r : IndelRun) → deletion_loop n offsets types f r ≡ run_loop deletion 0 n offsets types f r
unfolding deletion_loop run_loop
deletion_loop_lem n offsets types zero r = refl
deletion_loop_lem n offsets types (suc f) r = rw (add-zero, deletion_loop_lem n offsets types f)

abbrev run_at : ℕ → ℕ → ℕ → IndelRun
run_at i next count = record { i = i; previous_offset = next; count = count }

module _ (kind more : ℕ) (es : List Edit) where
  abbrev loop : ℕ → IndelRun → IndelRun
  loop f r = run_loop kind more (length es) (offsets_of es) (types_of es) f r

  loop_on : (f i next count : ℕ) (e : Edit) (rest : List Edit) → drop i es ≡ e ∷ rest → 0 < f → e.kind ≡ kind → e.offset - next ≡ 0
      → loop f (run_at i next count) ≡ loop (f - 1) (run_at (i + 1) (e.offset + more) (count + 1))
  unfolding run_loop
  loop_on zero i next count e rest q h k d = absurd (omega arith)
  loop_on (suc f) i next count e rest q h k d =
      let p : suc f - 1 ≡ f = omega arith in
      rw (p, item_here (λ (x : Edit). x.offset) es i e rest q, item_here (λ (x : Edit). x.kind) es i e rest q)
      (simp (lt-ltb i (length es) (here_below es i e rest q), eq-eqb _ _ k, eq-eqb _ _ d))

  loop_other : (f i next count : ℕ) (e : Edit) (rest : List Edit) → drop i es ≡ e ∷ rest → (e.kind ≡ kind → ⊥) → loop f (run_at i next count) ≡ run_at i next count
  unfolding run_loop
  loop_other zero i next count e rest q k = refl
  loop_other (suc f) i next count e rest q k =
      rw (item_here (λ (x : Edit). x.kind) es i e rest q) (simp (lt-ltb i (length es) (here_below es i e rest q), ne_eqb _ _ k))

  loop_later : (f i next count : ℕ) (e : Edit) (rest : List Edit) → drop i es ≡ e ∷ rest → (e.offset - next ≡ 0 → ⊥) → loop f (run_at i next count) ≡ run_at i next count
  unfolding run_loop
  loop_later zero i next count e rest q d = refl
  loop_later (suc f) i next count e rest q d =
      rw (item_here (λ (x : Edit). x.offset) es i e rest q) (simp (lt-ltb i (length es) (here_below es i e rest q), ne_eqb _ _ d, and-false))

  loop_end : (f i next count : ℕ) → drop i es ≡ [] → loop f (run_at i next count) ≡ run_at i next count
  unfolding run_loop
  loop_end zero i next count q = refl
  loop_end (suc f) i next count q = simp (le-ltb i (length es) (end_past es i q))

-- what an insertion and a deletion have in common
record Indel (type more sign : ℕ) : Type 0 where
  pub apart : type ≡ substitution → ⊥
  pub after : (e : Edit) → e.kind ≡ type → next_offset e ≡ e.offset + more
  pub ends : (w : Walk) → w.kind ≡ type → print_all (open_run w) ≡ counted w.run sign

indel_insertion : Indel insertion 1 plus_sign
indel_insertion = record { apart = λ z. omega arith; after = λ e h. next_other e (λ z. omega arith); ends = closed_insertion }

indel_deletion : Indel deletion 0 minus_sign
indel_deletion = record { apart = λ z. omega arith; after = λ e h. next_deletion e h ∙ sym (add-zero e.offset); ends = λ w h. closed_deletion w (λ z. omega arith) h }

-- ---- Class_I and Class_HM

module _ (alphabet len symbols : ℕ) (es : List Edit) where
  abbrev outer : ℕ → ℕ → ℕ → List ℕ → List ℕ
  outer left i next text = indel_loop len (length es) (offsets_of es) (letters_in alphabet es) (types_of es) left i next text

  -- what the walk still writes
  abbrev still : Walk → List Edit → List ℕ
  still w rest = print_all (operations_from alphabet len w rest)

  -- the outer loop, from its test on, where no run is open
  abbrev Outer : List Edit → Type 0
  Outer rest = (left i : ℕ) (w : Walk) (text : List ℕ) → drop i es ≡ rest → length rest ≤ left → w.kind ≡ substitution → Sound len symbols w.next rest
      → outer left i w.next text ≡ text ++ still w rest

  -- an inner loop, from its test on, and the outer loop behind it
  abbrev Inner : ℕ → ℕ → ℕ → List Edit → Type 0
  Inner kind more sign rest = (left f i next count : ℕ) (text : List ℕ) → drop i es ≡ rest → length rest ≤ left → length rest ≤ f → Sound len symbols next rest
      → (let r : IndelRun = loop kind more es f (run_at i next count) in outer left r.i r.previous_offset (text ++ counted r.count sign))
      ≡ text ++ still (record { next = next; kind = kind; run = count }) rest

  outer_end : Outer []
  unfolding indel_loop
  outer_end zero i w text q h k s = rw (end_plain alphabet len w k) (with_match_lem text (len - w.next))
  outer_end (suc left) i w text q h k s = rw (le-ltb i (length es) (end_past es i q), end_plain alphabet len w k) (with_match_lem text (len - w.next))

  -- an edit of the run that is open adds nothing yet
  joined_on : (w : Walk) (e : Edit) (rest : List Edit) → joins_run w e ≡ true → (e.kind ≡ substitution → ⊥) → still w (e ∷ rest) ≡ still (past w e) rest
  joined_on w e rest j h = text_on alphabet len w e rest ∙ rw (printed_append (gap w e) (mark alphabet e), gap_joined w e j, mark_none alphabet e h)

  -- an edit where no run is open
  plain_on : (w : Walk) (e : Edit) (rest : List Edit) → w.kind ≡ substitution
      → still w (e ∷ rest) ≡ print_all (matches (e.offset - w.next)) ++ (print_all (mark alphabet e) ++ still (past w e) rest)
  plain_on w e rest h =
      text_on alphabet len w e rest
      ∙ rw (printed_append (gap w e) (mark alphabet e), gap_plain w e h) (append_assoc (print_all (matches (e.offset - w.next))) (print_all (mark alphabet e)) (still (past w e) rest))

  order : (next : ℕ) (e : Edit) (rest : List Edit) → Sound len symbols next (e ∷ rest) → EditAccepted len symbols next e
  order next e rest s = sound_accepted len symbols next e rest s

  module _ (type more sign : ℕ) (known : Indel type more sign) where
    inner_end : Inner type more sign []
    inner_end left f i next count text q h g s =
        let w : Walk = record { next = next; kind = type; run = count } in
        rw (loop_end type more es f i next count q)
        (outer_end left i (plain next) (text ++ counted count sign) q h refl s
        ∙ append_assoc text (counted count sign) (still (plain next) [])
        ∙ ap (λ (l : List ℕ). text ++ l) (sym (shut_end alphabet len w ∙ ap (λ (l : List ℕ). l ++ still (plain next) []) (known.ends w refl))))

    inner_on : (e : Edit) (rest : List Edit) → Outer (e ∷ rest) → Inner type more sign rest → Inner type more sign (e ∷ rest)
    inner_on e rest out again left f i next count text q h g s =
        by_test (eqb e.kind type)
        (λ a. by_test (eqb (e.offset - next) 0)
        (λ b. joins (eqb-true _ _ a) (eqb-true _ _ b))
        (λ b.
        let n = eqb-false (e.offset - next) 0 b in
        stops (loop_later type more es f i next count e rest q n) (joins_not w e (λ k z. n (omega arith)))))
        (λ a.
        let n = eqb-false e.kind type a in
        stops (loop_other type more es f i next count e rest q n) (joins_not w e (λ k z. n k)))
      where
        w : Walk
        w = record { next = next; kind = type; run = count }

        joins : e.kind ≡ type → e.offset - next ≡ 0
            → (let r : IndelRun = loop type more es f (run_at i next count) in outer left r.i r.previous_offset (text ++ counted r.count sign)) ≡ text ++ still w (e ∷ rest)
        joins a b =
            let o = order next e rest s in
            let n = known.after e a in
            let j = joins_same w e (λ z. known.apart (sym a ∙ z)) a (omega (arith, o.order)) in
            rw (loop_on type more es f i next count e rest q (omega arith) a b)
            (again left (f - 1) (i + 1) (e.offset + more) (count + 1) text (here_next es i e rest q) (omega arith) (omega arith) (rw n at (sound_tail len symbols next e rest s))
            ∙ ap (λ (l : List ℕ). text ++ l) (sym (joined_on w e rest j (λ z. known.apart (sym a ∙ z)) ∙ ap (λ (v : Walk). still v rest) (past_joined w e j ∙ rw (n, a)))))

        stops : loop type more es f (run_at i next count) ≡ run_at i next count → joins_run w e ≡ false
            → (let r : IndelRun = loop type more es f (run_at i next count) in outer left r.i r.previous_offset (text ++ counted r.count sign)) ≡ text ++ still w (e ∷ rest)
        stops p j =
            rw p
            (out left i (plain next) (text ++ counted count sign) q h refl s
            ∙ append_assoc text (counted count sign) (still (plain next) (e ∷ rest))
            ∙ ap (λ (l : List ℕ). text ++ l) (sym (shut_on alphabet len w e rest j ∙ ap (λ (l : List ℕ). l ++ still (plain next) (e ∷ rest)) (known.ends w refl))))

    -- the first edit of a run
    run_first : (e : Edit) (rest : List Edit) → Inner type more sign rest → (left i : ℕ) (w : Walk) (text : List ℕ) → drop i es ≡ e ∷ rest → length (e ∷ rest) ≤ suc left
        → w.kind ≡ substitution → Sound len symbols w.next (e ∷ rest) → e.kind ≡ type
        → (let r : IndelRun = loop type more es (length es) (run_at i e.offset 0) in outer left r.i r.previous_offset (with_match text (e.offset - w.next) ++ counted r.count sign))
        ≡ text ++ still w (e ∷ rest)
    run_first e rest again left i w text q h k s a =
        let n = known.after e a in
        let m = print_all (matches (e.offset - w.next)) in
        rw (loop_on type more es (length es) i e.offset 0 e rest q (omega (arith, here_below es i e rest q)) a (sub_self e.offset))
        (again left (length es - 1) (i + 1) (e.offset + more) 1 (with_match text (e.offset - w.next)) (here_next es i e rest q) (omega arith) (omega (arith, rest_le es i (e ∷ rest) q)) (rw n at (sound_tail len symbols w.next e rest s))
        ∙ rw (with_match_lem text (e.offset - w.next), plain_on w e rest k, mark_none alphabet e (λ z. known.apart (sym a ∙ z)), past_apart w e (apart_plain w e k), n, a)
        (append_assoc text m (still (record { next = e.offset + more; kind = type; run = 1 }) rest)))

  outer_on : (e : Edit) (rest : List Edit) → Outer rest → Inner insertion 1 plus_sign rest → Inner deletion 0 minus_sign rest → Outer (e ∷ rest)
  unfolding indel_loop
  outer_on e rest out ins del zero i w text q h k s = absurd (omega arith)
  outer_on e rest out ins del (suc left) i w text q h k s =
      rw (lt-ltb i (length es) (here_below es i e rest q), item_here (λ (x : Edit). x.offset) es i e rest q, item_here (λ (x : Edit). x.kind) es i e rest q, item_here (λ (x : Edit). letter_of alphabet x.symbol) es i e rest q)
      (by_test (eqb e.kind substitution)
      (λ a.
      let z = eqb-true e.kind substitution a in
      let p : (past w e).next ≡ e.offset + 1 = past_next w e refl ∙ next_other e (λ y. omega arith) in
      let m = print_all (matches (e.offset - w.next)) in
      let b = letter_of alphabet e.symbol in
      rw (a, ← p)
      (out left (i + 1) (past w e) (with_match text (e.offset - w.next) ++ b ∷ []) (here_next es i e rest q) (omega arith) (past_kind w e refl ∙ z)
      (rw (past_next w e refl) (sound_tail len symbols w.next e rest s))
      ∙ rw (with_match_lem text (e.offset - w.next), plain_on w e rest k, mark_letter alphabet e z) (simp append_assoc)))
      (λ a. by_test (eqb e.kind insertion)
      (λ b. rw (a, b, insertion_loop_lem (length es) (offsets_of es) (types_of es) (length es)) (run_first insertion 1 plus_sign indel_insertion e rest ins left i w text q h k s (eqb-true _ _ b)))
      (λ b.
      let o = order w.next e rest s in
      let z = eqb-false e.kind substitution a in
      let y = eqb-false e.kind insertion b in
      let d : e.kind ≡ deletion = omega (arith, o.kind) in
      rw (a, b, eq-eqb _ _ d, deletion_loop_lem (length es) (offsets_of es) (types_of es) (length es)) (run_first deletion 0 minus_sign indel_deletion e rest del left i w text q h k s d))))

  -- all three, for what is left
  record All (rest : List Edit) : Type 0 where
    pub plainly : Outer rest
    pub inserting : Inner insertion 1 plus_sign rest
    pub deleting : Inner deletion 0 minus_sign rest

  all : (rest : List Edit) → All rest
  all [] =
      record {
        plainly = outer_end;
        inserting = inner_end insertion 1 plus_sign indel_insertion;
        deleting = inner_end deletion 0 minus_sign indel_deletion;
      }
  all (e ∷ rest) =
      let a = all rest in
      let o = outer_on e rest a.plainly a.inserting a.deleting in
      record {
        plainly = o;
        inserting = inner_on insertion 1 plus_sign indel_insertion e rest o a.inserting;
        deleting = inner_on deletion 0 minus_sign indel_deletion e rest o a.deleting;
      }

  pub indel_text : Sound len symbols 0 es → outer (length es) 0 0 [] ≡ still set_out es
  indel_text s = (all es).plainly (length es) 0 set_out [] refl (omega arith) refl s

-- ---- Class_N and Class_M

-- each edit of a list
pub data EachEdit (P : Edit → Type 0) : List Edit → Type 0 where
  none : EachEdit P []
  more : (e : Edit) {es : List Edit} → P e → EachEdit P es → EachEdit P (e ∷ es)

-- a substitution, which the loop writes as this character
module _ (alphabet len symbols : ℕ) (character : ℕ → ℕ) (P : Edit → Type 0) (letters : (e : Edit) → P e → e.kind ≡ substitution) (es : List Edit)
    (written : (i : ℕ) (e : Edit) (rest : List Edit) → drop i es ≡ e ∷ rest → P e → character i ≡ letter_of alphabet e.symbol) where
  mismatch_on : (rest : List Edit) → EachEdit P rest → (left i : ℕ) (w : Walk) (text : List ℕ) → drop i es ≡ rest → length rest ≤ left → w.kind ≡ substitution → Sound len symbols w.next rest
      → mismatch_loop character len (length es) (offsets_of es) left i w.next text ≡ text ++ print_all (operations_from alphabet len w rest)
  unfolding mismatch_loop
  mismatch_on [] a zero i w text q h k s = rw (end_plain alphabet len w k) (with_match_lem text (len - w.next))
  mismatch_on [] a (suc left) i w text q h k s = rw (le-ltb i (length es) (end_past es i q), end_plain alphabet len w k) (with_match_lem text (len - w.next))
  mismatch_on (e ∷ rest) a zero i w text q h k s = absurd (omega arith)
  mismatch_on (e ∷ rest) (more _ p a) (suc left) i w text q h k s =
      let z = letters e p in
      let n : (past w e).next ≡ e.offset + 1 = past_next w e refl ∙ next_other e (λ y. omega arith) in
      let b = letter_of alphabet e.symbol in
      let go : (now : List ℕ) → mismatch_loop character len (length es) (offsets_of es) left (i + 1) (past w e).next now ≡ now ++ print_all (operations_from alphabet len (past w e) rest) =
      λ now. mismatch_on rest a left (i + 1) (past w e) now (here_next es i e rest q) (omega arith) (past_kind w e refl ∙ z) (rw (past_next w e refl) (sound_tail len symbols w.next e rest s)) in
      rw (lt-ltb i (length es) (here_below es i e rest q), item_here (λ (x : Edit). x.offset) es i e rest q, written i e rest q p, ← n)
      (by_test (eqb (e.offset - w.next) 0)
      (λ d.
      rw d
      (go (text ++ b ∷ [])
      ∙ rw (plain_on alphabet len symbols es w e rest k, mark_letter alphabet e z, matches_none (e.offset - w.next) (eqb-true _ _ d)) (simp append_assoc)))
      (λ d.
      rw d
      (go (text ++ decimal (e.offset - w.next) ++ equals_sign ∷ [] ++ b ∷ [])
      ∙ rw (plain_on alphabet len symbols es w e rest k, mark_letter alphabet e z, matches_some (e.offset - w.next) (eqb-false _ _ d)) (simp append_assoc))))

  pub mismatch_text : EachEdit P es → Sound len symbols 0 es → mismatch_loop character len (length es) (offsets_of es) (length es) 0 0 [] ≡ print_all (operations_from alphabet len set_out es)
  mismatch_text a s = mismatch_on es a (length es) 0 set_out [] refl (omega arith) refl s
