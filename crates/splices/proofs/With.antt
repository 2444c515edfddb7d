-- Rules that walk a decoding case along the code: at each step `search` picks the one whose test the code made. Assumes nothing.
use mathlib.Core.Path.{◌≡◌}
use mathlib.Core.List.{List}
use mathlib.Core.Bool.{cond}
use Prim.Native.Nat.{ℕ}
use lib.Dec.{eqb}
use borrow.Author.Tests.{ne_eqb}
use Rattle.std.specs.Prelude.{Ok, Err}
use Rattle.refusal.specs.Answers.{OrRefused}
use Rattle.refusal.specs.declared.Refusal.{Refusal}
use Rattle.refusal.specs.declared.Refusal.TheVariants.{CodeOut}
use Rattle.state.specs.declared.State.{State}
use Rattle.taking.specs.Steps.{Steps, sets, takes, within16, reserved, decode}
use Rattle.taking.specs.Take.{take_of, narrow_of}
use Rattle.taking.proofs.Decoding.{decode_narrow}
use Rattle.edits.specs.Pieces.{SignedPosition}
use Rattle.splices.specs.Code.Taken.{symbols_moved}

module _ (x : OrRefused State) (symbols counts : List ℕ) (st : State) where
  -- the end of a case
  pub piece_done : (p : SignedPosition) → x ≡ Ok st → x ≡ symbols_moved (decode symbols counts st (sets p))
  unfolding decode
  piece_done p h = h

  pub piece_reserved : x ≡ Err CodeOut → x ≡ symbols_moved (decode {A = SignedPosition} symbols counts st reserved)
  unfolding decode
  piece_reserved h = h

  -- a symbol that the code took as r
  module _ (r : OrRefused (ℕ × State)) (s : ℕ) (go_on : ℕ → Steps SignedPosition) (e : r ≡ take_of symbols counts st s) where
    pub piece_given : (v : ℕ) (next : State) → r ≡ Ok (v, next) → x ≡ symbols_moved (decode symbols counts next (go_on v)) → x ≡ symbols_moved (decode symbols counts st (takes s go_on))
    unfolding decode
    piece_given v next h k = rw (← e, h) k

    pub piece_missing : (n : Refusal) → r ≡ Err n → x ≡ Err n → x ≡ symbols_moved (decode symbols counts st (takes s go_on))
    unfolding decode
    piece_missing n h k = rw (← e, h) k

  -- a symbol of at most 16 bits that the code took as r
  module _ (r : OrRefused (ℕ × State)) (s : ℕ) (go_on : ℕ → Steps SignedPosition) (e : r ≡ narrow_of symbols counts st s) where
    pub piece_narrow : (v : ℕ) (next : State) → r ≡ Ok (v, next) → x ≡ symbols_moved (decode symbols counts next (go_on v)) → x ≡ symbols_moved (decode symbols counts st (takes s (λ v. within16 v (go_on v))))
    piece_narrow v next h k = rw (decode_narrow symbols counts st s go_on, ← e, h) k

    pub piece_wide : (n : Refusal) → r ≡ Err n → x ≡ Err n → x ≡ symbols_moved (decode symbols counts st (takes s (λ v. within16 v (go_on v))))
    piece_wide n h k = rw (decode_narrow symbols counts st s go_on, ← e, h) k

  -- a test of two numbers
  module _ (a b : ℕ) (p q : Steps SignedPosition) where
    pub piece_differ : (a ≡ b → ⊥) → x ≡ symbols_moved (decode symbols counts st q) → x ≡ symbols_moved (decode symbols counts st (cond (eqb a b) p q))
    piece_differ h k = rw (ne_eqb a b h) k
