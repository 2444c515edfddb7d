-- `segment::read_aligned` meets its contract: what the block was read as picks the case. Assumes nothing.
use mathlib.Core.Path.{refl, sym, ◌∙◌}
use Rattle.refusal.proofs.AnswerLaws.{goes, stops}
use Rattle.block.proofs.ReadyLaws.{block_ready}
use Rattle.segment.proofs.SegmentLaws.{pieced_ready}
use Rattle.segment.specs.Segment.{placed_at}
use Rattle.segment.proofs.read_aligned.Goals as goal

pub place_block-requires : goal.place_block-requires
place_block-requires c =
    let r = block_ready _ _ _ _ _ c.requires.ready_head (sym c.read_block.ensures ∙ c.in-Ok.is) in
    record { tallied = record { pieced = pieced_ready _ _ _ _ r; taken = r.taken; text = r.text }; position_bound = c.requires.position_bound }

pub returns-in-Err : goal.returns-in-Err
unfolding placed_at
returns-in-Err c = search (goes, stops, refl)

pub returns-in-Ok : goal.returns-in-Ok
unfolding placed_at
returns-in-Ok c = search (goes, stops)
