-- The proof of document 01's small examples: every definition on the way is opened, and both sides compute to the same bytes.
-- Assumes nothing.
use mathlib.Core.Path.{refl}
use Rattle.frame.specs.Line.{line_within}
use Rattle.unit.specs.Unit.{least_segments, unit_refusal}
use Rattle.state.specs.Listed.{words, words_at, listed_head}
use Rattle.bases.specs.Bases.{past_edit, edit_bases, bases_from, refusal_from, letters_at}
use Rattle.bases.specs.Spliced.{pieces_bases, read_bases}
use Rattle.bases.specs.Reference.{is_lent, base_at, base_refusal, matched_bases, match_refusal}
use Rattle.edits.specs.Flanks.{inserted_at, some_base, each_deletion}
use Rattle.edits.specs.Edits.{width_of, edit_at, edit_list_at, next_offset, deletion_refusal, edit_refusal, taken_from}
use Rattle.edits.specs.Pieces.{pieces_from, less_first}
use Rattle.splices.specs.Table62.{spliced_seg_mapping_pos}
use Rattle.splices.specs.Located.{positions_from, pieces_in}
use Rattle.ecigar.specs.Check.{edits_refusal, answered, edits_checked, check_of}
use Rattle.tables.specs.Table92.{left_clipped, right_clipped}
use Rattle.tables.specs.Table94.{unclipped_length, spliced_loop, spliced_ecigar_string, spliced_segs_from}
use Rattle.tables.specs.Table93.{with_match, mismatch_loop, insertion_loop, deletion_loop, indel_loop, decode_ecigar_mismatches}
use Rattle.writing.specs.Decimal.{decimal_f, decimal}
use Rattle.frame.specs.Field.{big_at, field_at}
use Rattle.frame.specs.Hex.{is_digit, nib, unhex, all_digits, be}
use Rattle.pairing.specs.Pairing.{pair_steps}
use Rattle.pairing.specs.Table60.{same_rec, table60}
use Rattle.taking.specs.Take.{take_of}
use Rattle.taking.specs.Steps.{and_then, decode}
use Rattle.state.specs.State.{none_above}
use Rattle.plan.specs.Lent.{counts_out, state_refusal, lent_refusal}
use Rattle.plan.specs.Plan.{nothing_left_over as finishedPlan, aligned_steps, first_segment, second_segment, from_second, from_first, from_pos, record_steps, from_kind, plan_of}
use Rattle.block.specs.Aligned.{edits_tallied as talliedBlock, from_edits, from_soft, from_clips, aligned_at}
use Rattle.block.specs.Head.{splice_steps, from_lengths, from_pieces, from_rcomp, head_at}
use Rattle.block.specs.Checked.{length_at, rcomp_at, number_at, lengths_from, count_at}
use Rattle.block.specs.Clips.{clips_in_read, clips_in, clips_at}
use Rattle.segment.specs.Segment.{placed, placed_at, plain_at, aligned_bytes, unaligned_bytes, segment_bytes}
use Rattle.pieces.specs.Place.{place_refusal}
use Rattle.pieces.specs.Placed.{piece_out, pieces_refusal}
use Rattle.block.specs.Symbols.{symbols_from}
use Rattle.block.specs.Unaligned.{from_length, unaligned_at}
use Rattle.alphabet.specs.Table35.{size_of, letter_of, code_of_n}
use Rattle.record.specs.Record.{step_of, link_bytes, listed_bytes}
use Rattle.examples.specs.Examples.{Examples}

pub examples : Examples
unfolding past_edit edit_bases bases_from refusal_from letters_at pieces_bases read_bases is_lent base_at base_refusal matched_bases match_refusal width_of edit_at edit_list_at next_offset deletion_refusal edit_refusal taken_from edits_refusal answered edits_checked check_of inserted_at some_base each_deletion left_clipped right_clipped unclipped_length spliced_loop spliced_ecigar_string spliced_segs_from with_match mismatch_loop insertion_loop deletion_loop indel_loop decode_ecigar_mismatches decimal_f decimal big_at field_at is_digit nib unhex all_digits be line_within and_then decode pair_steps record_steps same_rec table60 take_of counts_out none_above state_refusal lent_refusal aligned_steps first_segment second_segment from_second from_first from_pos from_kind plan_of link_bytes listed_bytes step_of from_edits from_soft from_clips splice_steps from_lengths from_pieces from_rcomp head_at aligned_at length_at rcomp_at number_at lengths_from count_at clips_in_read clips_in clips_at placed placed_at plain_at aligned_bytes unaligned_bytes segment_bytes place_refusal piece_out pieces_refusal words_at pieces_from less_first spliced_seg_mapping_pos positions_from pieces_in symbols_from from_length unaligned_at words listed_head size_of letter_of code_of_n least_segments unit_refusal finishedPlan talliedBlock
examples = refl
