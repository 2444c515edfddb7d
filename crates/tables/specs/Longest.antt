-- How long an E-CIGAR comes to be (document 02, Wish 2). What is lent for one stays as it was (`most_ecigar` of limits), since no wish lowers a limit.
-- Assumes nothing.
use Rattle.std.specs.Prelude.{ℕ, ◌+◌, ◌-◌, ◌*◌}
use Rattle.edits.specs.Lengths.{most_read, most_pieces}

-- of a read in one piece, 4,012 characters: two for each base, two for each place between two bases, where a run of deletions may stand, and two clips of seven
abbrev pub longest_plain : ℕ
longest_plain = 2 * most_read + 2 * (most_read - 1) + 14

-- the digits of the splices of a read, 138: fifteen counts have nine each, and three of them ten, since together they count fewer than 2^32 positions
abbrev pub most_splice_digits : ℕ
most_splice_digits = 9 * (most_pieces - 1) + 3

-- of a read over introns, 4,165: with the digits of its splices, and a sign each. (4,012 and document 02's 165 would be 4,177: that has ten digits for each of the fifteen.)
abbrev pub longest_spliced : ℕ
longest_spliced = longest_plain + most_splice_digits + (most_pieces - 1)
