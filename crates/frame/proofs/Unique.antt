-- Each public promise admits one outcome: two answers that meet it are the same.
-- Assumes nothing.
use mathlib.Core.Path.{◌≡◌, sym, ◌∙◌}
use mathlib.Core.List.{List}
use Prim.Native.Nat.{ℕ}
use lib.ListN.{length, take, get_or}
use Rattle.frame.specs.Hex.{unhex}
use Rattle.frame.specs.Line.{line_within}
use Rattle.frame.specs.Next.{next_line}
use Rattle.frame.specs.Field.{Field, big_at, field_at}
use Rattle.frame.specs.Steps.{stored_at}
use Rattle.refusal.specs.Answers.{OrRefused}
use Rattle.frame.specs.declared.line.Next.{Next}

-- an answer that equals a definition: every promise below is an instance, and the crates above cite it too
pub once : {A : Type 0} {x y spec : A} → x ≡ spec → y ≡ spec → x ≡ y
once p q = p ∙ sym q

-- `line_within`, and `line_of` at the input limit
pub line_once : (most : ℕ) (s : List ℕ) {x y : OrRefused ℕ} → x ≡ line_within most s → y ≡ line_within most s → x ≡ y
line_once most s p q = once p q

pub next_line_once : (s : List ℕ) {x y : Next} → x ≡ next_line s → y ≡ next_line s → x ≡ y
next_line_once s p q = once p q

-- `byte_at`, of digits and of bytes
pub byte_at_once : (frame : List ℕ) (i : ℕ) {x y : ℕ} → x ≡ get_or frame i 0 → y ≡ get_or frame i 0 → x ≡ y
byte_at_once frame i p q = once p q

pub word_at_once : (frame : List ℕ) (at : ℕ) {x y : ℕ} → x ≡ big_at 2 frame at → y ≡ big_at 2 frame at → x ≡ y
word_at_once frame at p q = once p q

-- `read_u8`, `read_u16`, `read_u32`, of digits and of bytes: for every width
pub field_once : (k : ℕ) (frame : List ℕ) (at : ℕ) {x y : Field} → x ≡ field_at k frame at → y ≡ field_at k frame at → x ≡ y
field_once k frame at p q = once p q

pub decode_once : (frame line : List ℕ) {x y : List ℕ} → x ≡ stored_at frame 0 (take (length frame) (unhex line)) → y ≡ stored_at frame 0 (take (length frame) (unhex line)) → x ≡ y
decode_once frame line p q = once p q

-- an answer with lent memory
pub both_once : {A B : Type 0} {x y z : A} {a b c : B} → (x ≡ z) × (a ≡ c) → (y ≡ z) × (b ≡ c) → (x ≡ y) × (a ≡ b)
both_once p q = (once p.0 q.0, once p.1 q.1)
