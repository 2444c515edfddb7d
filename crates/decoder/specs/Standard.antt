-- What demand 2 says of a record that is listed: positions, mate, bases and E-CIGAR are those of the standard, with the pieces of a read over introns. Every accepted record call is proved to be such a one (proofs/Demand2).
-- Assumes nothing.
use Rattle.std.specs.Prelude.{ℕ, ◌+◌, ◌-◌, ◌^◌, ◌<◌, ◌≤◌, ◌≡◌, ◌⊎◌, true, List, ◌++◌, length, get_or, Ok}
use Rattle.frame.specs.Hex.{unhex, be}
use Rattle.frame.specs.Field.{big_at}
use Rattle.alphabet.specs.Table35.{letter_n, letter_of}
use Rattle.unit.specs.Unit.{class_i, class_hm, class_u, most_segments}
use Rattle.unit.specs.declared.Unit.{Unit}
use Rattle.state.specs.declared.State.{State}
use Rattle.pairing.specs.Table60.{mapping_pos}
use Rattle.pairing.specs.Pairing.{pair_of, pair_takes}
use Rattle.edits.specs.declared.edit.Edit.{Edit}
use Rattle.edits.specs.Flanks.{has_base}
use Rattle.edits.specs.Pieces.{Piece, EachPiece, OfFirst, OfLast}
use Rattle.tables.specs.Longest.{longest_plain, longest_spliced}
use Rattle.ecigar.specs.Table90.{print_all, moves_read, moves_reference, total, AllPositive}
use Rattle.bases.specs.Bases.{letters_at}
use Rattle.block.specs.declared.unaligned.UnalignedBlock.{UnalignedBlock}
use Rattle.segment.specs.Segment.{segment_bytes}
use Rattle.segment.specs.Listed.{listed_bases, listed_ecigar, listed_operations, mapped_in, table92, table94, pieces_at, Matches, Brought, Lies, Deleted, Letter, InUnit, Follow}
use Rattle.segment.specs.declared.Placed.{Placed}
use Rattle.segment.specs.declared.Segment.TheVariants.{Aligned, Unaligned, Absent}
use Rattle.taking.specs.Reading.{taken_in, raised_by}
use Rattle.plan.specs.Plan.{from_pos, plan_of, record_takes}
use Rattle.plan.specs.Said.{AlignedIn, Table62Of}
use Rattle.plan.specs.declared.read.Plan.{Plan}
use Rattle.record.specs.Record.{listed_bytes}
use Rattle.state.specs.State.{Shaped, after}

-- ---- an aligned read

pub record StandardRead (u : Unit) (reference symbols frame : List ℕ) (q : Placed) : Type 0 where
  -- what is listed of it: where it maps, its strand, its length, its bases, and its E-CIGAR, which is the string that Table 94 makes of the mismatches and clips in its block, and of its pieces (`listed_ecigar` below)
  pub listed : segment_bytes u reference symbols frame (Aligned q)
      ≡ be 4 q.position ++ be 1 q.block.rcomp ++ be 2 q.block.length ++ listed_bases u reference symbols frame q ++ be 2 (length (table94 u symbols frame q)) ++ table94 u symbols frame q
  -- it maps to a position of its unit
  pub begins : (u.start ≤ q.position) × (q.position ≤ u.end)
  -- and its E-CIGAR reaches no further than the unit's last position
  pub ends : q.position + total moves_reference (listed_operations u symbols frame q) ≤ u.end + 1
  -- each of its pieces lies inside the unit: none begins before position 0 or before the unit, and none ends behind it
  pub pieces_inside : EachPiece (InUnit u) (pieces_at u symbols frame q)
  -- and each behind the first begins behind the end of the one before it
  pub pieces_apart : Follow (pieces_at u symbols frame q)
  -- no deletion comes before its first match or substitution: some base before it lies on the reference
  pub behind_a_base : (o : ℕ) → Deleted u frame q o → (i : ℕ) × ((i < o) × ((at : ℕ) × Lies u symbols frame q i at))
  -- and none behind its last: some base from it on does
  pub before_a_base : (o : ℕ) → Deleted u frame q o → (i : ℕ) × ((o ≤ i) × ((i < mapped_in q) × ((at : ℕ) × Lies u symbols frame q i at)))
  -- so the position that is listed is that of a base which the read has (clause 3.14), wherever its first piece has a match or a substitution at all
  pub some_piece : 1 ≤ length (pieces_at u symbols frame q)
  pub first_base : OfFirst (λ (p : Piece). has_base p ≡ true → (i : ℕ) × ((i < mapped_in q) × Lies u symbols frame q i q.position)) (pieces_at u symbols frame q)
  -- and so is the last position that its E-CIGAR reaches, wherever its last piece has one
  pub last_base : OfLast (λ (p : Piece). has_base p ≡ true → (i : ℕ) × ((i < mapped_in q) × Lies u symbols frame q i (q.position + total moves_reference (listed_operations u symbols frame q) - 1))) (pieces_at u symbols frame q)
  -- no base of it lies further left, or further right
  pub outermost : (i at : ℕ) → Lies u symbols frame q i at → (q.position ≤ at) × (at < q.position + total moves_reference (listed_operations u symbols frame q))
  -- the E-CIGAR of a read in one piece is the string that Table 92 makes
  pub plain : q.splices.count ≡ 1 → listed_ecigar u symbols frame q ≡ table92 u frame q
  -- of a read in one piece it has at most 4,012 characters
  pub short_plain : q.splices.count ≡ 1 → length (listed_ecigar u symbols frame q) ≤ longest_plain
  -- and of any read at most 4,165, where the unit's end has 32 bits
  pub short : u.end < 2 ^ 32 → length (listed_ecigar u symbols frame q) ≤ longest_spliced
  -- it is written from rows of Table 90
  pub operations : listed_ecigar u symbols frame q ≡ print_all (listed_operations u symbols frame q)
  -- none of them says that 0 bases match, are inserted, deleted or clipped, nor that 0 positions are spliced out
  pub counts : AllPositive (listed_operations u symbols frame q)
  -- together they use up every base of the read
  pub uses_up : total moves_read (listed_operations u symbols frame q) ≡ q.block.length
  -- as many bases are listed as the read is long
  pub long : length (listed_bases u reference symbols frame q) ≡ q.block.length
  -- every base that is mapped matches the reference at one position, or is substituted or inserted by an edit
  pub from : (i : ℕ) → i < mapped_in q → ((at : ℕ) × Matches u symbols frame q i at) ⊎ ((e : Edit) × Brought u symbols frame q i e)
  -- the position that it matches lies within the unit
  pub inside : (i at : ℕ) → Matches u symbols frame q i at → (u.start ≤ at) × (at ≤ u.end)
  -- a base that matches is the reference's base at its position
  pub matching : (i at : ℕ) → Matches u symbols frame q i at → u.first ≤ at → at < u.first + length reference
      → get_or (listed_bases u reference symbols frame q) (q.block.clips.left_soft + i) 0 ≡ letter_of u.alphabet (get_or reference (at - u.first) 0)
  -- and N where no base of the reference is lent for its position (10.2.2: padded with N)
  pub padded : (i at : ℕ) → Matches u symbols frame q i at → (u.first ≤ at → at < u.first + length reference → ⊥)
      → get_or (listed_bases u reference symbols frame q) (q.block.clips.left_soft + i) 0 ≡ letter_n
  -- a base that is substituted or inserted is the letter that the block gives for it
  pub edited : (i : ℕ) (e : Edit) → Brought u symbols frame q i e
      → get_or (listed_bases u reference symbols frame q) (q.block.clips.left_soft + i) 0 ≡ letter_of u.alphabet e.symbol
  -- the bases that are soft-clipped on the left are the block's
  pub left_clip_bases : (i : ℕ) → i < q.block.clips.left_soft → get_or (listed_bases u reference symbols frame q) i 0 ≡ letter_of u.alphabet (get_or frame (q.block.soft_at + i) 0)
  -- and those on the right
  pub right_clip_bases : (i : ℕ) → i < q.block.clips.right_soft
      → get_or (listed_bases u reference symbols frame q) (q.block.clips.left_soft + mapped_in q + i) 0 ≡ letter_of u.alphabet (get_or frame (q.block.soft_at + q.block.clips.left_soft + i) 0)
  -- every base is a letter of the unit's alphabet
  pub letters : (i : ℕ) → i < q.block.length → Letter u.alphabet (get_or (listed_bases u reference symbols frame q) i 0)

-- ---- a read that is not aligned

pub record StandardUnaligned (u : Unit) (reference symbols frame : List ℕ) (s : UnalignedBlock) : Type 0 where
  -- it is listed at position 0, with strand 0 and no E-CIGAR: its length and its bases
  pub listed : segment_bytes u reference symbols frame (Unaligned s) ≡ be 4 0 ++ be 1 0 ++ be 2 s.length ++ letters_at u.alphabet frame s.at s.length ++ be 2 0
  -- its bases are the block's
  pub letters : (i : ℕ) → i < s.length → get_or (letters_at u.alphabet frame s.at s.length) i 0 ≡ letter_of u.alphabet (get_or frame (s.at + i) 0)

-- ---- a record: which 04 line an accepted call lists for its line, and the state behind it

pub record StandardRecord (u : Unit) (reference symbols counts : List ℕ) (state : State) (line frame : List ℕ) (next : State) : Type 0 where
  -- what the line says: a link, a position and the segments; the state behind it has each index raised by the symbols that the record takes
  pub plan : Plan
  pub said : plan_of u reference symbols counts state line ≡ Ok (plan, raised_by state (record_takes u reference symbols state line))
  -- the 04 line is this record: its number and the indexes behind it, its link, its first and its second segment
  pub listed : frame ≡ listed_bytes u reference symbols (unhex line) state.number next plan
  -- the link is Table 60's, of the pair symbols that stand next at the indexes given
  pub paired : State
  pub linked : pair_of u symbols counts state ≡ Ok (plan.link, paired)
  -- the record takes these symbols first, then those of its blocks, and no others
  pub takes : record_takes u reference symbols state line ≡ pair_takes u symbols state ++ taken_in symbols paired (from_pos u reference symbols (unhex line) plan.link 1)
  -- in P, N, M and U no block takes a symbol
  pub takes_pair : (u.class < class_i) ⊎ (u.class ≡ class_u) → record_takes u reference symbols state line ≡ pair_takes u symbols state
  -- and the state behind it has the next number, and each index is raised by the symbols that the record takes of its subsequence
  pub moved : next ≡ after state (raised_by state (record_takes u reference symbols state line))
  -- in every class but U the first read is aligned, and maps to the position that the line gives
  pub first_aligned : (u.class ≡ class_u → ⊥) → (q : Placed) × (plan.first ≡ Aligned q)
  pub first_position : (q : Placed) → plan.first ≡ Aligned q → q.position ≡ big_at 4 (unhex line) 1
  -- in P, N, M and I so is the second, where the record has two, and maps to the position that Table 60 gives the mate
  pub second_aligned : most_segments ≤ plan.link.segments → u.class < class_hm → (q : Placed) × (plan.second ≡ Aligned q)
  pub second_position : (q : Placed) → plan.second ≡ Aligned q → q.position ≡ mapping_pos (big_at 4 (unhex line) 1) plan.link.mate
  -- the first read of class U is not aligned, nor is a second read of U or of HM, the half-mapped pairs
  pub first_unaligned : u.class ≡ class_u → (s : UnalignedBlock) × (plan.first ≡ Unaligned s)
  pub second_unaligned : most_segments ≤ plan.link.segments → class_hm ≤ u.class → (s : UnalignedBlock) × (plan.second ≡ Unaligned s)
  -- in I and HM the pieces of a read stand where Table 62 says: of the first read by the symbols that stand next behind the pair symbols, of the second by those behind the first's
  pub between : State
  pub first_pieces : class_i ≤ u.class → Shaped state → (q : Placed) → plan.first ≡ Aligned q → Table62Of u symbols counts (unhex line) paired q between
  pub second_pieces : class_i ≤ u.class → Shaped state → (q : Placed) → plan.second ≡ Aligned q
      → Table62Of u symbols counts (unhex line) between q (raised_by state (record_takes u reference symbols state line))
  -- a second that is not aligned takes none
  pub last_pieces : ((q : Placed) → plan.second ≡ Aligned q → ⊥) → raised_by state (record_takes u reference symbols state line) ≡ between
  -- a record of one read lists no second
  pub alone : plan.link.segments < most_segments → plan.second ≡ Absent
  -- each of its reads is the standard's
  pub aligned : (q : Placed) → AlignedIn plan q → StandardRead u reference symbols (unhex line) q
  pub unaligned : (s : UnalignedBlock) → StandardUnaligned u reference symbols (unhex line) s
