-- Demand 2 in detail: an accepted record is the standard's, and what the lines of a listing are. Each theorem is proved where it is cited from.
-- Assumes nothing.
use Prim.Native.Nat.{ℕ, suc, ◌+◌, ◌<◌, ◌≤◌, ◌^◌}
use mathlib.Core.Path.{◌≡◌, refl, sym, ◌∙◌, ap}
use mathlib.Core.List.{List, []}
use lib.ListN.{length, get_or, take}
use Rattle.std.specs.Prelude.{Ok}
use Rattle.limits.specs.Limits.{record_fields}
use Rattle.frame.specs.Hex.{unhex}
use Rattle.frame.proofs.HexLaws.{byte_lt}
use Rattle.unit.specs.Unit.{most_reference}
use Rattle.unit.specs.Pairs.{subsequences}
use Rattle.state.specs.State.{fresh_state, after}
use Rattle.state.specs.Listed.{most_listed, accepted}
use Rattle.unit.specs.declared.Unit.{Unit}
use Rattle.state.specs.declared.State.{State}
use Rattle.pairing.specs.Table60.{mate_seq_id, mapping_pos}
use Rattle.bases.proofs.ReadLaws.{get_d_letters}
use Rattle.block.specs.declared.unaligned.UnalignedBlock.{UnalignedBlock}
use Rattle.segment.specs.Segment.{segment_bytes, aligned_bytes, unaligned_bytes}
use Rattle.segment.specs.declared.Placed.{Placed}
use Rattle.segment.specs.Listed.{listed_ecigar}
use Rattle.tables.specs.Longest.{longest_spliced}
use Rattle.segment.proofs.StandardLaws.{SegmentAccepted, listed_begins, listed_is_table92, listed_operations_lem, listed_counts, listed_reads, listed_end, listed_pieces, listed_apart, listed_flanked, listed_any, listed_first, listed_last_lem, listed_lies, listed_plain, listed_short, listed_length, listed_from, listed_place, listed_lent, listed_missing, listed_edit, listed_left, listed_right, listed_letter}
use Rattle.taking.proofs.Reading.{decode_reads}
use Rattle.plan.specs.Plan.{record_steps, plan_of}
use Rattle.plan.specs.Said.{AlignedIn}
use Rattle.plan.specs.declared.read.Plan.{Plan}
use Rattle.plan.proofs.PlanLaws.{first_is_aligned, first_is_plain, second_is_aligned, second_is_plain, second_is_absent}
use Rattle.plan.proofs.Table62Laws.{first_table62, second_table62, second_takes_none, link_shaped}
use Rattle.record.specs.Record.{step_of}
use Rattle.record.proofs.RecordLaws.{step_taken, said_listed, said_first, said_second, said_aligned}
use Rattle.listing.specs.Lines.{lines_of, joined}
use Rattle.listing.specs.Files.{good}
use Rattle.listing.specs.Listing.{Each, ListingLine, Numbered}
use Rattle.listing.specs.Resuming.{last_from, Closes}
use Rattle.listing.proofs.ListingLaws.{listing_lines, listing_split, listing_numbered, listing_closes}
use Rattle.decoder.specs.Files.{read_reference, counts_in, empty_table, table_of, bases_into, reads_into}
use Rattle.decoder.specs.Decoder.{front_of, listing_of, first_listed, rest_listed, lines_listed, Opened}
use Rattle.decoder.specs.Standard.{StandardRead, StandardUnaligned, StandardRecord}
use Rattle.decoder.specs.Symbols.{symbols_taken, RecordLine}
use Rattle.decoder.specs.Turned.{calls_for}
use Rattle.decoder.proofs.TableLaws.{reads_bases}
use Rattle.decoder.proofs.LawfulLaws.{front_is_lawful}
use Rattle.decoder.proofs.OpenedLaws.{opened_table}
use Rattle.decoder.proofs.FitLaws.{mate_position, mate_sequence, read_position, ecigar_fits}
use Rattle.decoder.proofs.SymbolsLaws.{taken_in_order}
use Rattle.decoder.proofs.ListingLaws.{lines_short, listing_bytes, opened_calls}

-- ---- an accepted record is the standard's

-- every aligned read that is accepted
pub read_is_the_standards : (u : Unit) (reference symbols frame : List ℕ) (q : Placed) → ((i : ℕ) → get_or frame i 0 < 256) → SegmentAccepted u reference symbols frame q → StandardRead u reference symbols frame q
unfolding segment_bytes aligned_bytes
read_is_the_standards u reference symbols frame q bytes a =
    record {
      listed = refl;
      begins = listed_begins u reference symbols frame q a;
      ends = listed_end u reference symbols frame q a;
      pieces_inside = listed_pieces u reference symbols frame q a;
      pieces_apart = listed_apart u reference symbols frame q a;
      behind_a_base = λ o d. (listed_flanked u reference symbols frame q a o d).0;
      before_a_base = λ o d. (listed_flanked u reference symbols frame q a o d).1;
      some_piece = listed_any u reference symbols frame q a;
      first_base = listed_first u reference symbols frame q a;
      last_base = listed_last_lem u reference symbols frame q a;
      outermost = λ i at w. (listed_lies u reference symbols frame q a i at w).1;
      plain = listed_is_table92 u reference symbols frame q a;
      short_plain = listed_plain u reference symbols frame q a bytes;
      short = listed_short u reference symbols frame q a bytes;
      operations = listed_operations_lem u reference symbols frame q a;
      counts = listed_counts u reference symbols frame q a;
      uses_up = listed_reads u reference symbols frame q a;
      long = listed_length u reference symbols frame q a;
      from = listed_from u reference symbols frame q a;
      inside = listed_place u reference symbols frame q a;
      matching = listed_lent u reference symbols frame q a;
      padded = listed_missing u reference symbols frame q a;
      edited = listed_edit u reference symbols frame q a;
      left_clip_bases = listed_left u reference symbols frame q a;
      right_clip_bases = listed_right u reference symbols frame q a;
      letters = listed_letter u reference symbols frame q a;
    }

-- and every read that is not aligned
pub unaligned_is_the_standards : (u : Unit) (reference symbols frame : List ℕ) (s : UnalignedBlock) → StandardUnaligned u reference symbols frame s
unfolding segment_bytes unaligned_bytes
unaligned_is_the_standards u reference symbols frame s = record { listed = refl; letters = get_d_letters u.alphabet frame s.at s.length }

-- the record of every call that is accepted
pub accepted_is_the_standards : (u : Unit) (reference symbols counts : List ℕ) (state : State) (line frame : List ℕ) (next : State) → step_of u reference symbols counts state line ≡ accepted frame next
    → StandardRecord u reference symbols counts state line frame next
accepted_is_the_standards u reference symbols counts state line frame next call =
    let t = step_taken u reference symbols counts state line frame next call in
    let p : Plan = t.plan in
    let blocks = t.taken.blocks in
    let reads = decode_reads symbols counts (record_steps u reference symbols (unhex line)) state t.plan t.moved t.taken.steps in
    record {
      plan = p;
      said = rw (← reads) t.said;
      listed = said_listed u reference symbols counts state line frame next call p t.moved t.said;
      paired = t.taken.paired;
      linked = t.taken.linked;
      takes = t.taken.takes;
      takes_pair = t.taken.takes_pair;
      moved = t.next_is ∙ ap (after state) reads;
      first_aligned = first_is_aligned u reference symbols counts (unhex line) record_fields _ p _ blocks;
      first_position = λ q e. (said_first u reference symbols counts state line frame next call p t.moved t.said q e).1;
      second_aligned = second_is_aligned u reference symbols counts (unhex line) record_fields _ p _ blocks;
      second_position = λ q e. (said_second u reference symbols counts state line frame next call p t.moved t.said q e).1;
      first_unaligned = first_is_plain u reference symbols counts (unhex line) record_fields _ p _ blocks;
      second_unaligned = second_is_plain u reference symbols counts (unhex line) record_fields _ p _ blocks;
      between = blocks.middle;
      first_pieces = λ spliced shape q e. first_table62 u reference symbols counts (unhex line) record_fields _ p _ blocks spliced (link_shaped u reference symbols counts state line p _ t.taken shape) q e;
      second_pieces = λ spliced shape q e. rw (← reads) (second_table62 u reference symbols counts (unhex line) record_fields _ p _ blocks spliced (link_shaped u reference symbols counts state line p _ t.taken shape) q e);
      last_pieces = λ none. sym reads ∙ second_takes_none u reference symbols counts (unhex line) record_fields _ p _ blocks none;
      alone = second_is_absent u reference symbols counts (unhex line) record_fields _ p _ blocks;
      aligned = λ q i. read_is_the_standards u reference symbols (unhex line) q (byte_lt line) (said_aligned u reference symbols counts state line frame next call p t.moved t.said q i);
      unaligned = unaligned_is_the_standards u reference symbols (unhex line);
    }

-- ---- the lines of a listing

module _ (refFile unitFile : List ℕ) where
  -- every line has lower-case digits, two a byte and no more than the limit, one 0A at its end and no zero byte
  pub every_line_is_well_formed : Each ListingLine (lines_listed refFile unitFile)
  every_line_is_well_formed = listing_lines (front_of refFile unitFile) (front_is_lawful refFile unitFile)

  -- no 04 line needs more than 20,809 bytes with its 0A, and no other line does
  pub no_line_is_longer : Each (λ l. length l ≤ most_listed + 1) (lines_listed refFile unitFile)
  no_line_is_longer = lines_short every_line_is_well_formed

  -- no byte of a listing is zero
  pub no_byte_is_zero : (i : ℕ) → i < length (listing_of refFile unitFile) → 0 < get_or (listing_of refFile unitFile) i 0
  no_byte_is_zero = listing_bytes (front_of refFile unitFile) every_line_is_well_formed

  -- its bytes are split into its lines in one way
  pub lines_are_found_again : lines_of (listing_of refFile unitFile) ≡ lines_listed refFile unitFile
  lines_are_found_again = listing_split (front_of refFile unitFile) (front_is_lawful refFile unitFile)

  -- behind the first line every line but the last is an 04 line, and its place, from 0 on, is its record number
  pub records_are_numbered : (i : ℕ) → suc i < length (rest_listed refFile unitFile) → Numbered i (get_or (rest_listed refFile unitFile) i [])
  records_are_numbered = listing_numbered (front_of refFile unitFile) (front_is_lawful refFile unitFile)

  -- in its four bytes the mate's position stands whole, in its two bytes the mate's sequence id, and a read's position in its four: none is cut to the last bytes of a larger number
  module _ (o : Opened refFile unitFile) (i : ℕ) (line : List ℕ) (r : RecordLine o i line) (p : Plan) (moved : State)
      (said : plan_of o.unit o.reference (table_of o.rows) (counts_in o.rows) r.before (get_or o.lines i []) ≡ Ok (p, moved)) where
    pub mate_position_is_whole : mapping_pos p.pos p.link.mate < 2 ^ 32
    mate_position_is_whole = mate_position o i line r p moved said

    pub mate_sequence_is_whole : mate_seq_id o.unit.sequence p.link.mate < 2 ^ 16
    mate_sequence_is_whole = mate_sequence o i line r p moved said

    pub read_position_is_whole : (q : Placed) → AlignedIn p q → q.position < 2 ^ 32
    read_position_is_whole = read_position o i line r p moved said

    -- no E-CIGAR of the record has more than 4,165 characters
    pub no_ecigar_is_longer : (q : Placed) → AlignedIn p q → length (listed_ecigar o.unit (table_of o.rows) (unhex (get_or o.lines i [])) q) ≤ longest_spliced
    no_ecigar_is_longer = ecigar_fits o i line r p moved said

  -- the symbols taken from a subsequence by the first k records are its first ones: in order, each once
  pub symbols_are_taken_in_order : (o : Opened refFile unitFile) (s : ℕ) → s < subsequences → (k : ℕ) → symbols_taken o s k ≡ take (length (symbols_taken o s k)) (get_or o.rows s [])
  symbols_are_taken_in_order = taken_in_order

  -- the last line is a 4-byte 05 or a 3-byte 06
  pub last_line_closes : Closes (last_from (first_listed refFile unitFile) (rest_listed refFile unitFile))
  last_line_closes = listing_closes (front_of refFile unitFile)

  -- ---- how the programs make it

  -- one read a reference line, into as much as a reference may have, leaves the reference at the front
  pub reference_by_reads : (reference t : List ℕ) → read_reference (lines_of refFile) ≡ good reference → length t ≡ most_reference → take (length reference) (bases_into t 0 (lines_of refFile)) ≡ reference
  reference_by_reads reference t e long = reads_bases (lines_of refFile) t [] reference long refl e

  -- one read a pair line, into a table of zeros, leaves the symbols' table
  pub table_by_reads : (o : Opened refFile unitFile) → reads_into empty_table 0 o.pairs ≡ table_of o.rows
  table_by_reads = opened_table

  -- one call of `turn` a line, and one more at the end, prints the lines behind the first
  pub calls_print_the_listing : (o : Opened refFile unitFile) → calls_for o (suc o.unit.records) fresh_state o.lines ≡ joined (rest_listed refFile unitFile)
  calls_print_the_listing = opened_calls
