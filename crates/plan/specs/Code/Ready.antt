-- For the code, not for the reader.
-- What the check of a record line leaves for its writing: `plan_ready` (proofs/PlanLaws) shows it of every line that was accepted.
-- Assumes nothing.
use Rattle.std.specs.Prelude.{ℕ, ◌≤◌, ◌≡◌, List, length}
use Rattle.unit.specs.declared.Unit.{Unit}
use Rattle.segment.specs.Segment.{segment_bytes}
use Rattle.segment.specs.Code.Length.{segment_length, most_segment_bytes}
use Rattle.segment.specs.Code.Ready.{Ready}
use Rattle.plan.specs.declared.read.Plan.{Plan}

-- both segments are ready, and as long as was counted
pub record ReadyPlan (u : Unit) (reference symbols frame : List ℕ) (p : Plan) : Type 0 where
  pub first : Ready u symbols frame p.first
  pub second : Ready u symbols frame p.second
  pub first_long : length (segment_bytes u reference symbols frame p.first) ≡ segment_length p.first
  pub second_long : length (segment_bytes u reference symbols frame p.second) ≡ segment_length p.second
  pub first_most : segment_length p.first ≤ most_segment_bytes
  pub second_most : segment_length p.second ≤ most_segment_bytes
