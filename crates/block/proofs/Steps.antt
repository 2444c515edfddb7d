-- The steps of a definition that goes by fields, clips and edits: each turns what the code has learnt into the branch that is taken.
-- Assumes nothing.
use mathlib.Core.Path.{◌≡◌, refl, sym, ap, ◌∙◌}
use mathlib.Core.Bool.{Bool, true, false, cond}
use mathlib.Core.List.{List}
use Prim.Native.Nat.{ℕ, ◌<◌, ◌≤◌}
use native.Mathlib.Omega.{arith}
use borrow.Author.Tests.{lt-ltb, le-leb, lt-leb}
use lib.Dec.{ltb, leb, eqb}
use Rattle.std.specs.Prelude.{Ok, Err}
use Rattle.refusal.specs.Answers.{OrRefused, after_ok, answer_number}
use Rattle.refusal.specs.declared.Refusal.{Refusal}
use Rattle.frame.specs.Field.{Field, after_field}
use Rattle.frame.specs.declared.field.Cursor.{Cursor}
use Rattle.state.specs.declared.State.{State}
use Rattle.unit.specs.Unit.{class_p, class_i}
use Rattle.taking.specs.Steps.{Steps, refuses, Came, came, stopped, decode, came_number}
use Rattle.edits.specs.Lengths.{no_clips}
use Rattle.edits.specs.declared.Clips.{Clips}
use Rattle.splices.specs.declared.Splices.{Splices}
use Rattle.taking.proofs.Reading.{Quiet}
use Rattle.block.specs.Checked.{length_at, rcomp_at, count_at, value_before}
use Rattle.block.specs.Clips.{clips_at}
use Rattle.block.specs.Symbols.{symbols_from}
use Rattle.block.specs.Code.Flow.{clips_by, edit_count}
use Rattle.block.specs.Aligned.{block_of, edits_tallied, from_edits, from_soft, from_clips}
use Rattle.block.specs.Head.{from_pieces, from_rcomp, head_at, head_moved}
use Rattle.block.specs.declared.head.BlockHead.{BlockHead}
use Rattle.block.specs.declared.aligned.AlignedBlock.{AlignedBlock}

-- ---- an answer

module _ {A B : Type 0} (x : OrRefused B) (answer spec : OrRefused A) (go_on : A → OrRefused B) where
  pub accepted : (a : A) → answer ≡ spec → answer ≡ Ok a → x ≡ go_on a → x ≡ after_ok spec go_on
  accepted a e h k = rw (← e, h) k

  pub rejected : (n : Refusal) → answer ≡ spec → answer ≡ Err n → x ≡ Err n → x ≡ after_ok spec go_on
  rejected n e h k = rw (← e, h) k

-- a field that a head's steps go on with
module _ (x : OrRefused (BlockHead × State)) (symbols counts : List ℕ) (st : State) (answer field : Field) (f : ℕ → Cursor → Steps BlockHead) where
  pub moved_accepted : (v : ℕ) (c : Cursor) → answer ≡ field → answer ≡ Ok (v, c) → x ≡ head_moved (decode symbols counts st (f v c)) → x ≡ head_moved (decode symbols counts st (after_field refuses field f))
  moved_accepted v c e h k = rw (← e, h) k

  pub moved_rejected : (n : Refusal) → answer ≡ field → answer ≡ Err n → x ≡ Err n → x ≡ head_moved (decode symbols counts st (after_field refuses field f))
  unfolding decode
  moved_rejected n e h k = rw (← e, h) k

-- the answer's number is that of what the steps come to
pub head_number_lem : (x : Came BlockHead) → answer_number (head_moved x) ≡ came_number x
head_number_lem (came h next) = refl
head_number_lem (stopped n) = refl

-- what the steps of a head came to, by what reading it answered
module _ (x : Came BlockHead) (m : OrRefused (BlockHead × State)) (is : m ≡ head_moved x) where
  pub head_came : (h : BlockHead) (next : State) → m ≡ Ok (h, next) → x ≡ came h next
  head_came h next e = by x (sym is ∙ e)
    where
      by : (y : Came BlockHead) → head_moved y ≡ Ok (h, next) → y ≡ came h next
      by (came b last) q =
          let both : ◌≡◌ {A = BlockHead × State} (b, last) (h, next) = cc in
          let one : b ≡ h = ap (λ (z : BlockHead × State). z.0) both in
          let two : last ≡ next = ap (λ (z : BlockHead × State). z.1) both in
          rw (one, two) refl
      by (stopped n) q = absurd (let z : ◌≡◌ {A = ℕ} 0 1 = cc in omega arith)

  pub head_stopped : (n : Refusal) → m ≡ Err n → x ≡ stopped n
  head_stopped n e = by x (sym is ∙ e)
    where
      by : (y : Came BlockHead) → head_moved y ≡ Err n → y ≡ stopped n
      by (came b last) q = absurd (let z : ◌≡◌ {A = ℕ} 0 1 = cc in omega arith)
      by (stopped k) q = let same : k ≡ n = cc in rw same refl

-- before I no head takes a symbol: no field asks for one
pub head_quiet : (class : ℕ) (frame : List ℕ) (position at : ℕ) → class < class_i → Quiet (head_at class frame position at)
unfolding head_at from_rcomp from_pieces
head_quiet class frame position at h = by (length_at frame at) _ (λ length next. by (rcomp_at class frame next.at) _ (λ rcomp last. rw (lt-ltb class class_i h) tt))
  where
    by : (x : Field) (f : ℕ → Cursor → Steps BlockHead) → ((v : ℕ) (c : Cursor) → Quiet (f v c)) → Quiet (after_field refuses x f)
    by (Ok (v, c)) f h = h v c
    by (Err n) f h = tt

-- ---- the clips

-- a soft clip beside a length that the code was answered
module _ (x : OrRefused (Cursor × Clips)) (soft answer spec : ℕ) (p q : OrRefused (Cursor × Clips)) (e : answer ≡ spec) where
  pub clip_reaches : answer ≤ soft → x ≡ p → x ≡ cond (leb spec soft) p q
  clip_reaches h k = rw (← e, le-leb answer soft h) k

  pub clip_below : soft < answer → x ≡ q → x ≡ cond (leb spec soft) p q
  clip_below h k = rw (← e, lt-leb answer soft h) k

-- ---- a block behind its head, one way for every class

module _ (class alphabet : ℕ) (frame : List ℕ) (length rcomp : ℕ) (splices : Splices) where
  -- what follows the clips, and what the count of edits
  abbrev pub behind_clips : Cursor × Clips → OrRefused AlignedBlock
  behind_clips read = from_soft class alphabet frame length rcomp splices read.1 read.0.at

  abbrev pub behind_count : Clips → (softAt : ℕ) → ℕ → Cursor → OrRefused AlignedBlock
  behind_count c softAt count next = edits_tallied class alphabet frame (block_of length rcomp c softAt count next.at) splices

  -- the clips of a class, which may have none
  pub clips_taken : (at : ℕ) → from_clips class alphabet frame length rcomp splices at ≡ after_ok (clips_by class frame length splices at) behind_clips
  unfolding from_clips clips_by from_soft symbols_from
  clips_taken at = by (ltb class class_i)
    where
      by : (b : Bool) → cond b (from_edits class alphabet frame length rcomp splices no_clips at at) (after_ok (clips_at frame length splices at) behind_clips)
          ≡ after_ok (cond b (Ok (record { at = at }, no_clips)) (clips_at frame length splices at)) behind_clips
      by true = refl
      by false = refl

  -- as many edits as the class has
  pub edits_counted : (c : Clips) (softAt at : ℕ) → from_edits class alphabet frame length rcomp splices c softAt at ≡ after_field Err (edit_count class frame at) (behind_count c softAt)
  unfolding from_edits edit_count
  edits_counted c softAt at = by (eqb class class_p)
    where
      by : (b : Bool) → cond b (behind_count c softAt 0 (record { at = at })) (after_field Err (count_at frame at) (behind_count c softAt)) ≡ after_field Err (cond b (value_before 0 at) (count_at frame at)) (behind_count c softAt)
      by true = refl
      by false = refl
