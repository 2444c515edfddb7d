-- The laws of an 04 line's bytes: how many there are, and that each is below 256.
-- Assumes nothing.
use mathlib.Core.Path.{◌≡◌}
use mathlib.Core.List.{List, ◌++◌, append_assoc}
use Prim.Native.Nat.{ℕ, ◌+◌}
use native.Mathlib.Omega.{arith}
use lib.ListN.{length, length-append}
use Rattle.frame.specs.Hex.{Bytes, be}
use Rattle.frame.proofs.HexLaws.{length_be, bytes_be, bytes_append}
use Rattle.state.specs.State.{Shaped}
use Rattle.state.specs.Listed.{listed_head, link_fields, least_listed}
use Rattle.unit.specs.declared.Unit.{Unit}
use Rattle.state.specs.declared.State.{State}
use Rattle.pairing.specs.Table60.{mate_seq_id, mapping_pos}
use Rattle.pairing.specs.declared.Link.{Link}
use Rattle.segment.specs.Segment.{segment_bytes}
use Rattle.segment.specs.Code.Length.{segment_length}
use Rattle.plan.specs.Code.Ready.{ReadyPlan}
use Rattle.plan.specs.declared.read.Plan.{Plan}
use Rattle.segment.proofs.BytesLaws.{bytes_segment}
use Rattle.state.proofs.ListedLaws.{length_head, bytes_head}
use Rattle.record.specs.Record.{link_bytes, listed_bytes}

-- ---- the link

pub length_link : (sequence pos : ℕ) (link : Link) → length (link_bytes sequence pos link) ≡ link_fields
unfolding link_bytes
length_link sequence pos link = simp (length-append, length_be)

bytes_link : (sequence pos : ℕ) (link : Link) → Bytes (link_bytes sequence pos link)
unfolding link_bytes
bytes_link sequence pos link =
    simp append_assoc
    (bytes_append (be 1 link.first) _ (bytes_be 1 link.first)
    (bytes_append (be 1 link.split) _ (bytes_be 1 link.split)
    (bytes_append (be 1 link.segments) _ (bytes_be 1 link.segments)
    (bytes_append (be 2 (mate_seq_id sequence link.mate)) _ (bytes_be 2 _)
    (bytes_be 4 (mapping_pos pos link.mate))))))

-- ---- the whole line

-- what stands behind the head
abbrev pub tail_bytes : Unit → (reference symbols frame : List ℕ) → Plan → List ℕ
tail_bytes u reference symbols frame p =
    link_bytes u.sequence p.pos p.link ++ segment_bytes u reference symbols frame p.first ++ segment_bytes u reference symbols frame p.second

module _ (u : Unit) (reference symbols frame : List ℕ) (number : ℕ) (next : State) (p : Plan) where
  pub listed_head_lem : listed_bytes u reference symbols frame number next p ≡ listed_head number next ++ tail_bytes u reference symbols frame p
  unfolding listed_bytes
  listed_head_lem = simp append_assoc

  pub bytes_listed : ReadyPlan u reference symbols frame p → Bytes (listed_bytes u reference symbols frame number next p)
  bytes_listed h =
      rw listed_head_lem
      (bytes_append (listed_head number next) (tail_bytes u reference symbols frame p) (bytes_head number next)
      (simp append_assoc
      (bytes_append (link_bytes u.sequence p.pos p.link) _ (bytes_link u.sequence p.pos p.link)
      (bytes_append (segment_bytes u reference symbols frame p.first) _ (bytes_segment u reference symbols frame p.first h.first)
      (bytes_segment u reference symbols frame p.second h.second)))))

  -- the bytes before the segments, and those of each segment
  pub length_listed : Shaped next → ReadyPlan u reference symbols frame p → length (listed_bytes u reference symbols frame number next p) ≡ least_listed + segment_length p.first + segment_length p.second
  unfolding listed_bytes
  length_listed all h =
      simp (length-append, length_link) (omega (arith, length_head number next all, h.first_long, h.second_long))
