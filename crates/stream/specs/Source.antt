-- A file that is read through a buffer: what of the buffer is read and not handed on yet.
-- Assumes nothing.
use Rattle.std.specs.Prelude.{ℕ, ◌+◌, ◌-◌, ◌≤◌, ◌≡◌, true, false, List, length, Some, None, Result, Ok, Err}
use Rattle.std.proofs.Math.Seq.{slice}
use Rattle.refusal.specs.Numbers.{malformed, missing}
use Rattle.refusal.specs.Answers.{answer_number}
use Rattle.frame.specs.Line.{line_digits, line_of}
use Rattle.frame.specs.Next.{next_line, next_number}
use Rattle.frame.specs.declared.line.Next.{Next}
use Rattle.frame.specs.declared.line.Next.TheVariants.{Whole, TooLong, NoEnd, Nothing}
use Rattle.std.specs.declared.ops.Range.{Range}
use Rattle.std.specs.declared.io.Error.{Error}
use Rattle.stream.specs.declared.source.Source.{Source}

-- the last byte of a file that can be gone to
abbrev pub last_place : ℕ
last_place = 9223372036854775807

-- the bytes that wait stand in a buffer of n bytes
pub record Held {R : Type 0} (n : ℕ) (s : Source R) : Type 0 where
  pub order : s.at ≤ s.end
  pub inside : s.end ≤ n

-- a file of which nothing is read yet
abbrev pub unread : {R : Type 0} → R → Source R
unread file = record { file = file; at = 0; end = 0; ended = false; failed = None }

-- a file that cannot be read, and why
abbrev pub unreadable : {R : Type 0} → R → Error → Source R
unreadable file cause = record { file = file; at = 0; end = 0; ended = true; failed = Some cause }

-- what is answered says why the file cannot be read on, where it cannot, and the file keeps that
abbrev pub FailureTold : {R A : Type 0} → Result A Error → Source R → Type 0
FailureTold (Ok a) r = r.failed ≡ None
FailureTold (Err cause) r = r.failed ≡ Some cause

-- a file that cannot be read on says why again, and nothing of it moves
abbrev pub StaysFailed : {R A : Type 0} → ℕ → Source R → Result A Error → Source R → Type 0
StaysFailed n s result r = (cause : Error) → s.failed ≡ Some cause → Held n s → (result ≡ Err cause) × (r ≡ record { file = s.file; at = s.at; end = s.end; ended = true; failed = s.failed })

-- all the bytes that wait
abbrev pub waiting_part : {R : Type 0} → Source R → Range ℕ
waiting_part s = record { start = s.at; end = s.end }

-- the file behind them
abbrev pub handed_on : {R : Type 0} → Source R → Source R
handed_on s = record { file = s.file; at = s.end; end = s.end; ended = s.ended; failed = s.failed }

-- the bytes that waited stand in the buffer again, at the front of those that wait now, from `at` to `end`: none is lost and none comes twice
pub record Leads {R : Type 0} (before : List ℕ) (s : Source R) (after : List ℕ) (at end : ℕ) : Type 0 where
  pub room : at + (s.end - s.at) ≤ end
  pub same : slice at (at + (s.end - s.at)) after ≡ slice s.at s.end before

-- so many bytes wait, where the buffer has room for them and the file does not end before
pub record WaitsFor {R : Type 0} (wanted : ℕ) (before : List ℕ) (s : Source R) (after : List ℕ) (r : Source R) : Type 0 where
  pub held : Held (length after) r
  pub leads : Held (length before) s → Leads before s after r.at r.end
  pub enough : r.ended ≡ false → wanted ≤ length after → wanted ≤ r.end - r.at

-- how many of n bytes are their first line, by what stands at their front
abbrev pub bytes_by : ℕ → Next → ℕ
bytes_by n (Whole k) = k
bytes_by n TooLong = line_digits + 1
bytes_by n NoEnd = n
bytes_by n Nothing = 0

-- how many of some bytes are their first line: up to its 0A, or all of them where there is none, but never more than a longest line
unfoldable pub line_bytes : List ℕ → ℕ
line_bytes s = bytes_by (length s) (next_line s)

-- what is handed on is a part of the buffer, and the file goes on behind it
pub record Handed {R : Type 0} (wanted : ℕ) (before : List ℕ) (s : Source R) (after : List ℕ) (t : Range ℕ) (r : Source R) : Type 0 where
  pub order : t.start ≤ t.end
  pub inside : t.end ≤ length after
  pub next : r.at ≡ t.end
  pub held : Held (length after) r
  pub leads : Held (length before) s → Leads before s after t.start r.end
  pub enough : r.ended ≡ false → wanted ≤ length after → wanted ≤ r.end - t.start

-- it is the first line of the bytes that wait; a longest line is among them, or all that the file has left.
-- Nothing is handed on only where a line is missing (14); of too long a line, or one without 0A (1), so much that it is refused as such
pub record HandedLine {R : Type 0} (before : List ℕ) (s : Source R) (after : List ℕ) (t : Range ℕ) (r : Source R) : Type 0 where
  pub part : Handed (line_digits + 1) before s after t r
  pub line : t.end ≡ t.start + line_bytes (slice t.start r.end after)
  pub none : t.start ≡ t.end → next_number (next_line (slice t.start r.end after)) ≡ missing
  pub refused : next_number (next_line (slice t.start r.end after)) ≡ malformed → answer_number (line_of (slice t.start t.end after)) ≡ malformed

-- it is all the bytes that wait
pub record HandedAll {R : Type 0} (before : List ℕ) (s : Source R) (after : List ℕ) (t : Range ℕ) (r : Source R) : Type 0 where
  pub part : Handed 1 before s after t r
  pub all : t.end ≡ r.end
