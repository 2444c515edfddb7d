-- Rules that walk a decoding case along the code: at each step `search` picks the one whose test the code made. Assumes nothing.
use mathlib.Core.Path.{◌≡◌}
use mathlib.Core.List.{List}
use mathlib.Core.Bool.{cond}
use Prim.Native.Nat.{ℕ, ◌<◌, ◌≤◌}
use lib.Dec.{ltb, eqb}
use borrow.Author.Tests.{lt-ltb, le-ltb, eq-eqb, ne_eqb}
use Rattle.std.specs.Prelude.{Ok, Err}
use Rattle.refusal.specs.Answers.{OrRefused}
use Rattle.refusal.specs.declared.Refusal.{Refusal}
use Rattle.refusal.specs.declared.Refusal.TheVariants.{CodeOut, ValueOut}
use Rattle.state.specs.declared.State.{State}
use Rattle.unit.specs.Unit.{largest16}
use Rattle.pairing.specs.declared.Mate.{Mate}
use Rattle.pairing.specs.declared.Link.{Link}
use Rattle.taking.specs.Steps.{Steps, sets, takes, within16, reserved, decode}
use Rattle.taking.specs.Take.{take_of, narrow_of}
use Rattle.taking.proofs.Decoding.{decode_narrow}
use Rattle.pairing.specs.Table60.{Decoded}
use Rattle.pairing.specs.Pairing.{paired}

module _ (x : OrRefused (Link × State)) (symbols counts : List ℕ) (st : State) where
  -- the end of a case
  module _ (l : Link) (segments split f first : ℕ) (m mate : Mate) where
    pub done : x ≡ Ok (l, st) → l ≡ record { first = f; split = split; segments = segments; mate = m } → f ≡ first → m ≡ mate → x ≡ paired (decode symbols counts st (sets record { number_of_record_segments = segments; split_mate = split; read1_first = first; mate = mate }))
    unfolding decode
    done h n e k = rw (← e, ← k, ← n) h

  pub no_case : x ≡ Err CodeOut → x ≡ paired (decode symbols counts st reserved)
  unfolding decode
  no_case h = h

  -- a symbol that the code took as r
  module _ (r : OrRefused (ℕ × State)) (s : ℕ) (go_on : ℕ → Steps Decoded) (e : r ≡ take_of symbols counts st s) where
    pub decode_given : (v : ℕ) (next : State) → r ≡ Ok (v, next) → x ≡ paired (decode symbols counts next (go_on v)) → x ≡ paired (decode symbols counts st (takes s go_on))
    unfolding decode
    decode_given v next h k = rw (← e, h) k

    pub decode_missing : (n : Refusal) → r ≡ Err n → x ≡ Err n → x ≡ paired (decode symbols counts st (takes s go_on))
    unfolding decode
    decode_missing n h k = rw (← e, h) k

  -- a symbol of at most 16 bits that the code took as r
  module _ (r : OrRefused (ℕ × State)) (s : ℕ) (go_on : ℕ → Steps Decoded) (e : r ≡ narrow_of symbols counts st s) where
    pub narrow_given : (v : ℕ) (next : State) → r ≡ Ok (v, next) → x ≡ paired (decode symbols counts next (go_on v)) → x ≡ paired (decode symbols counts st (takes s (λ v. within16 v (go_on v))))
    narrow_given v next h k = rw (decode_narrow symbols counts st s go_on, ← e, h) k

    pub narrow_missing : (n : Refusal) → r ≡ Err n → x ≡ Err n → x ≡ paired (decode symbols counts st (takes s (λ v. within16 v (go_on v))))
    narrow_missing n h k = rw (decode_narrow symbols counts st s go_on, ← e, h) k

  -- a value of at most 16 bits, or more
  module _ (v : ℕ) (p : Steps Decoded) where
    pub fits : v ≤ largest16 → x ≡ paired (decode symbols counts st p) → x ≡ paired (decode symbols counts st (within16 v p))
    unfolding decode
    fits h k = rw (le-ltb largest16 v h) k

    pub above : largest16 < v → x ≡ Err ValueOut → x ≡ paired (decode symbols counts st (within16 v p))
    unfolding decode
    above h k = rw (lt-ltb largest16 v h) k

  -- a test of two numbers
  module _ (a b : ℕ) (p q : Steps Decoded) where
    pub decode_when : a < b → x ≡ paired (decode symbols counts st p) → x ≡ paired (decode symbols counts st (cond (ltb a b) p q))
    decode_when h k = rw (lt-ltb a b h) k

    pub decode_unless : b ≤ a → x ≡ paired (decode symbols counts st q) → x ≡ paired (decode symbols counts st (cond (ltb a b) p q))
    decode_unless h k = rw (le-ltb a b h) k

    pub decode_same : a ≡ b → x ≡ paired (decode symbols counts st p) → x ≡ paired (decode symbols counts st (cond (eqb a b) p q))
    decode_same h k = rw (eq-eqb a b h) k

    pub decode_differ : (a ≡ b → ⊥) → x ≡ paired (decode symbols counts st q) → x ≡ paired (decode symbols counts st (cond (eqb a b) p q))
    decode_differ h k = rw (ne_eqb a b h) k
