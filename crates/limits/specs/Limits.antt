-- How much a record may have (document 01, Lines), and from it how long its frame and its 04 line may be. Each sum is made of its parts.
-- Assumes nothing.
use Rattle.std.specs.Prelude.{ℕ, ◌+◌, ◌-◌, ◌*◌}

-- ---- a record

-- the most template segments, and so the most segments of a record
abbrev pub most_segments : ℕ
most_segments = 2

-- the longest read
abbrev pub most_read : ℕ
most_read = 1000

-- the most edits of a segment
abbrev pub most_edits : ℕ
most_edits = 1000

-- the most pieces of a read over introns (document 02, Wish 1)
abbrev pub most_pieces : ℕ
most_pieces = 16

-- the longest splice in an E-CIGAR: a count of ten digits, and its sign
abbrev pub most_splice : ℕ
most_splice = 11

-- room for every E-CIGAR, 4,179 characters: two for each base and each edit, two clips of seven, and the splices between the pieces. None comes to be as long (`longest_plain` and `longest_spliced` of tables)
abbrev pub most_ecigar : ℕ
most_ecigar = 2 * most_read + 2 * most_edits + 14 + (most_pieces - 1) * most_splice

-- ---- its frame

-- kind, a byte, and pos u32
abbrev pub record_fields : ℕ
record_fields = 5

-- of a block: read length u16, rcomp, the number of pieces, a byte, and their lengths u16 each, four clips u16 each, edit count u16
abbrev pub block_fields : ℕ
block_fields = 14 + 2 * most_pieces

-- of an edit: offset u16, type and symbol
abbrev pub edit_bytes : ℕ
edit_bytes = 4

-- the longest block: its fields, a soft-clipped base for all but one base of the read, and its edits
abbrev pub most_block : ℕ
most_block = block_fields + (most_read - 1) + most_edits * edit_bytes

-- the longest frame: 10,095 bytes
abbrev pub most_frame : ℕ
most_frame = record_fields + most_segments * most_block

-- ---- its 04 line

-- of a listed segment, besides its bases and E-CIGAR: position u32, rcomp, read length u16, E-CIGAR length u16
abbrev pub segment_fields : ℕ
segment_fields = 9

-- the most bytes that list a segment: the fixed ones, the longest read and the longest E-CIGAR
abbrev pub most_segment_bytes : ℕ
most_segment_bytes = segment_fields + most_read + most_ecigar
