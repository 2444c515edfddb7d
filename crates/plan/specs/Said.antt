-- What an accepted record line says: its link and position, a block for each of its segments, and which symbols they take.
-- Assumes nothing.
use Rattle.std.specs.Prelude.{ℕ, ◌<◌, ◌≤◌, ◌≡◌, ◌⊎◌, List, ◌++◌, Ok}
use Rattle.limits.specs.Limits.{record_fields}
use Rattle.frame.specs.Hex.{unhex}
use Rattle.frame.specs.Line.{line_of}
use Rattle.frame.specs.Field.{big_at}
use Rattle.frame.specs.declared.field.Cursor.{Cursor}
use Rattle.unit.specs.Kinds.{kind_record}
use Rattle.unit.specs.Unit.{class_i, class_u, most_segments}
use Rattle.unit.specs.declared.Unit.{Unit}
use Rattle.state.specs.declared.State.{State}
use Rattle.taking.specs.Steps.{came, decode}
use Rattle.taking.specs.Reading.{taken_in}
use Rattle.pairing.specs.Pairing.{pair_of, pair_takes}
use Rattle.edits.specs.Pieces.{SignedPosition, straight, pieces_of}
use Rattle.splices.specs.Table62.{spliced_seg_mapping_pos}
use Rattle.segment.specs.Segment.{edits_in, lengths_of, pieces_at}
use Rattle.segment.specs.Listed.{mapped_in}
use Rattle.segment.specs.declared.Placed.{Placed}
use Rattle.segment.specs.declared.Segment.TheVariants.{Aligned, Absent}
use Rattle.plan.specs.Plan.{first_segment, second_segment, from_pos, record_steps, record_takes}
use Rattle.plan.specs.declared.read.Plan.{Plan}

-- the second: the record has none, or its block stands behind the first
pub data Second (u : Unit) (reference symbols counts frame : List ℕ) (p : Plan) (at : ℕ) (st moved : State) : Type 0 where
  alone : p.link.segments < most_segments → p.second ≡ Absent → moved ≡ st → Second u reference symbols counts frame p at st moved
  behind : most_segments ≤ p.link.segments → (next : Cursor)
      → decode symbols counts st (second_segment u reference symbols frame p.link p.pos at) ≡ came record { segment = p.second; next = next } moved
      → Second u reference symbols counts frame p at st moved

-- both, from a place of the frame and a state on
pub record Blocks (u : Unit) (reference symbols counts frame : List ℕ) (at : ℕ) (st : State) (p : Plan) (moved : State) : Type 0 where
  pub next : Cursor
  pub middle : State
  pub first : decode symbols counts st (first_segment u reference symbols frame p.pos at) ≡ came record { segment = p.first; next = next } middle
  pub second : Second u reference symbols counts frame p next.at middle moved

-- a well-formed line of kind 03; its link is what the pair symbols say; pos and the blocks stand behind the kind, and are read from the state behind the pair symbols
pub record PlanTaken (u : Unit) (reference symbols counts : List ℕ) (state : State) (line : List ℕ) (p : Plan) (moved : State) : Type 0 where
  pub size : ℕ
  pub well_formed : line_of line ≡ Ok size
  pub kind : big_at 1 (unhex line) 0 ≡ kind_record
  pub paired : State
  pub linked : pair_of u symbols counts state ≡ Ok (p.link, paired)
  pub pos_is : p.pos ≡ big_at 4 (unhex line) 1
  pub blocks : Blocks u reference symbols counts (unhex line) record_fields paired p moved
  pub steps : decode symbols counts state (record_steps u reference symbols (unhex line)) ≡ came p moved
  -- its symbols are first the pair's, then those of its blocks in order
  pub takes : record_takes u reference symbols state line ≡ pair_takes u symbols state ++ taken_in symbols paired (from_pos u reference symbols (unhex line) p.link 1)
  -- in P, N, M and U no block takes a symbol: no field asks for one
  pub takes_pair : (u.class < class_i) ⊎ (u.class ≡ class_u) → record_takes u reference symbols state line ≡ pair_takes u symbols state

-- an aligned segment of the record: its first, or its second
abbrev pub AlignedIn : Plan → Placed → Type 0
AlignedIn p q = (p.first ≡ Aligned q) ⊎ (p.second ≡ Aligned q)

-- an aligned segment of class I or HM, from the state before its block to the state behind it: where its pieces map is what Table 62 comes to, with the symbols that stand next there
pub record Table62Of (u : Unit) (symbols counts frame : List ℕ) (st : State) (q : Placed) (next : State) : Type 0 where
  pub positions : List SignedPosition
  pub came_to : decode symbols counts st (spliced_seg_mapping_pos (straight q.position) (lengths_of frame q)) ≡ came positions next
  pub pieces : pieces_at u symbols frame q ≡ pieces_of (mapped_in q) q.block.clips.left_soft (edits_in u frame q) (lengths_of frame q) positions
